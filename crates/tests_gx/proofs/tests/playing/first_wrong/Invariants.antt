use Rattle.std.proofs.Common.{◌≡◌}
use Rattle.tests_gx.proofs.tests.playing.first_wrong.Given as goal

-- the session stays on its catalog
abbrev pub invariant-loop-place : goal.invariant-loop-place
invariant-loop-place g l = l.world.session.setting ≡ l.initial.world.session.setting
