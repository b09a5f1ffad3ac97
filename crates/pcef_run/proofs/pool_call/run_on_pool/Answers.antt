use Rattle.std.proofs.Common.{inl, inr}
use Rattle.std.proofs.KnownBytes.{Keeps-refl}
use Rattle.pcef_run.proofs.pool_call.run_on_pool.Goals as goal

pub returns-in-Ok : goal.returns-in-Ok
returns-in-Ok g c = inl (c.in-Ok.asked.items, c.in-Ok.ensures.asked, c.run_input.ensures)

pub returns-in-Err : goal.returns-in-Err
returns-in-Err g c = inr (c.in-Err.ensures.unread, Keeps-refl (g.R.Read.remaining c.args.reader.now), Keeps-refl (g.W.Write.contents c.args.writer.now))
