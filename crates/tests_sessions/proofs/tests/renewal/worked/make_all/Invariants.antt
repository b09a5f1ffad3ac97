use Rattle.std.proofs.Common.{◌≡◌}
use Rattle.tests_sessions.proofs.tests.renewal.worked.make_all.Given as goal

abbrev pub invariant-loop-line : goal.invariant-loop-line
invariant-loop-line l = l.world.session.setting ≡ l.initial.world.session.setting
