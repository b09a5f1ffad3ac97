use Rattle.std.proofs.Common.{arith, ap, length}
use Rattle.pcef_gx_dialogue.proofs.Rooms.{reports_have_room, reports_short}
use Rattle.pcef_gx_dialogue.proofs.granting.do_named.Goals as goal

pub put_reports-requires-clause-names : goal.put_reports-requires-clause-names
put_reports-requires-clause-names g c =
    rw c.deref.ensures.value
    (reports_short c.args.world.now.session.setting c.args.world.now.session.journal c.carry_out.new.world.session.journal
    c.args.orders.now c.in_ok-done.done.reports.items _ c.in_ok-done.ensures.done c.in_ok-octets.ensures.room.0)

pub put_reports-requires-clause-parts : goal.put_reports-requires-clause-parts
put_reports-requires-clause-parts g c =
    rw c.deref.ensures.value
    (omega (
      arith,
      c.in_ok-parts.ensures.capacity,
      reports_have_room c.args.world.now.session.setting c.args.world.now.session.journal c.carry_out.new.world.session.journal
          c.args.orders.now c.in_ok-done.done.reports.items _ c.in_ok-octets.octets c.in_ok-done.ensures.done c.in_ok-octets.ensures.room,
    ))

pub put_reports-requires-clause-out : goal.put_reports-requires-clause-out
put_reports-requires-clause-out g c =
    rw c.deref.ensures.value
    (omega (
      arith,
      c.in_ok-reserve.ensures.ok,
      reports_have_room c.args.world.now.session.setting c.args.world.now.session.journal c.carry_out.new.world.session.journal
          c.args.orders.now c.in_ok-done.done.reports.items _ c.in_ok-octets.octets c.in_ok-done.ensures.done c.in_ok-octets.ensures.room,
    ))
