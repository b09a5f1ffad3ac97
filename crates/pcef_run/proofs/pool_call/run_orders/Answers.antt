use Rattle.std.proofs.Common.{inl, inr, refl}
use Rattle.pcef_run.proofs.pool_call.run_orders.Goals as goal

pub returns-in-Ok : goal.returns-in-Ok
returns-in-Ok g c =
    let ran = c.run_pool-ended in
    (ran.result, g.W.Write.contents ran.new.writer, ran.ensures, c.flush.ensures.bytes, inl c.pool_end.ensures)

pub returns-in-Err : goal.returns-in-Err
returns-in-Err g c =
    let ran = c.run_pool-ended in
    (ran.result, g.W.Write.contents ran.new.writer, ran.ensures, c.flush.ensures.bytes, inr refl)
