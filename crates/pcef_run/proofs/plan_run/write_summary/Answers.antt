use Rattle.std.proofs.Common.{rules, ◌≡◌}
use Rattle.pcef_run.specs.Summaries.{summary_text}
use Rattle.pcef_run.proofs.RunEnds.{flushed, unwritten}
use Rattle.pcef_run.proofs.plan_run.write_summary.Goals as goal

pub returns-in-Ok-put_all : goal.returns-in-Ok-put_all
returns-in-Ok-put_all g c =
    let is : c.as_bytes.result.now ≡ summary_text c.args.ran.now c.args.taken = search rules in
    flushed c.args.ran.now c.args.taken c.flush_end.result _ _ _ _ is c.in-Ok-put_all.ensures.all c.flush_end.ensures.end c.flush_end.ensures.kept

pub returns : goal.returns
returns g c =
    let is : c.as_bytes.result.now ≡ summary_text c.args.ran.now c.args.taken = search rules in
    unwritten c.args.ran.now c.args.taken _ _ _ is c.in-Err.ensures.front.1
