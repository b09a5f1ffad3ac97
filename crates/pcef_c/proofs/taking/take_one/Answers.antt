use Rattle.std.proofs.Common.{◌∙◌, Ok, Err, ap, subst}
use Rattle.pcef_handle.specs.Working.{TakesPacket}
use Rattle.pcef_c.specs.Judging.{unjudged}
use Rattle.pcef_c.proofs.taking.take_one.Goals as goal

pub returns-in-Ok : goal.returns-in-Ok
returns-in-Ok c =
    let packet = c.args.packet.now in
    (Ok c.in-Ok.place, subst (λ dir. TakesPacket c.args.worker.now dir packet.octets.now packet.whole (Ok c.in-Ok.place) c.take.new.self) c.dir_of.ensures c.in-Ok.ensures, c.last_verdict.ensures)

pub returns-in-Err : goal.returns-in-Err
returns-in-Err c =
    let packet = c.args.packet.now in (
      Err c.in-Err.refusal,
      subst (λ dir. TakesPacket c.args.worker.now dir packet.octets.now packet.whole (Err c.in-Err.refusal) c.take.new.self) c.dir_of.ensures c.in-Err.ensures,
      c.unjudged.ensures ∙ ap unjudged c.take_number.ensures,
    )
