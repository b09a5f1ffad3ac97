use Rattle.std.proofs.Common.{arith}
use Rattle.pcef_gx_dialogue.proofs.Rooms.{answer_fits, answer_short, reports_short}
use Rattle.pcef_gx_dialogue.proofs.answering.do_orders.Goals as goal

pub answer-requires-clause-fault : goal.answer-requires-clause-fault
answer-requires-clause-fault g c =
    rw c.told.ensures
    (answer_short c.args.world.now.session.setting c.args.world.now.session.journal c.carry_out.new.world.session.journal
    c.args.orders.now _ _ c.in_ok-octets.octets c.in_ok-done.ensures.done c.in_ok-octets.ensures.room)

pub answer-requires-clause-names : goal.answer-requires-clause-names
answer-requires-clause-names g c =
    rw c.deref.ensures.value
    (reports_short c.args.world.now.session.setting c.args.world.now.session.journal c.carry_out.new.world.session.journal
    c.args.orders.now c.in_ok-done.done.reports.items _ c.in_ok-done.ensures.done c.in_ok-octets.ensures.room.0)

pub answer-requires-clause-room : goal.answer-requires-clause-room
answer-requires-clause-room g c =
    rw (c.told.ensures, c.deref.ensures.value)
    (omega (
      arith,
      c.in_ok-room.ensures,
      answer_fits c.args.world.now.session.setting c.args.world.now.session.journal c.carry_out.new.world.session.journal
          c.args.orders.now c.in_ok-done.done.reports.items _ c.in_ok-octets.octets c.in_ok-done.ensures.done c.in_ok-octets.ensures.room,
    ))
