use Rattle.pcef_run.proofs.Opened.{opened_more, pool_more}
use Rattle.pcef_run.proofs.opening.open_members.Goals as goal

pub loop-asked-preserved : goal.loop-asked-preserved
loop-asked-preserved g c = record {
  sessions = rw c.in_ok-push-in-Ok.ensures.items (opened_more c.loop-asked.yielded c.loop-asked.members.items c.in-Some.asked c.in-Ok.member c.loop-asked.invariant.sessions c.in-Ok.ensures.opened);
  pool = pool_more c.args.pool.now c.loop-asked.pool c.open.new.pool c.loop-asked.yielded c.in-Some.asked c.in-Ok.ensures.issued c.loop-asked.invariant.pool;
}
