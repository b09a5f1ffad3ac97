use Rattle.std.proofs.Common.{◌≡◌}
use Rattle.pcef_c.proofs.Judged.{AreJudgedBelow}
use Rattle.pcef_c.proofs.judging.judge_all.Given as goal

abbrev pub invariant-loop-place : goal.invariant-loop-place
invariant-loop-place l = (l.handle ≡ l.fn.handle) × AreJudgedBelow l.fn.handle l.fn.packets l.fn.verdicts l.verdicts l.place l.count
