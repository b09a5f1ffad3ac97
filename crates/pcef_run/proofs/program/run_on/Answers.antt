use Rattle.std.proofs.Common.{inl, inr, refl}
use Rattle.pcef_run.proofs.program.run_on.Goals as goal

pub returns-in-Ok : goal.returns-in-Ok
returns-in-Ok g c =
    let ran = c.run_script-ended in
    (ran.result, ran.ensures.opened, g.W.Write.contents ran.new.writer, ran.ensures.answers, c.flush.ensures.bytes, inl c.script_end.ensures)

pub returns-in-Err : goal.returns-in-Err
returns-in-Err g c =
    let ran = c.run_script-ended in
    (ran.result, ran.ensures.opened, g.W.Write.contents ran.new.writer, ran.ensures.answers, c.flush.ensures.bytes, inr refl)
