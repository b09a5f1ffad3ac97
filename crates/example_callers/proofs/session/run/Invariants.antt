use Rattle.std.proofs.Common.{◌≡◌}
use Rattle.example_callers.proofs.session.run.Given as goal

-- the rules are those of the session
abbrev pub invariant-loop-line : goal.invariant-loop-line
invariant-loop-line l = l.catalog ≡ l.world.session.setting.catalog
