use Rattle.std.proofs.Common.{◌≡◌, drop}
use Rattle.pcef_rule.specs.QciKinds.{declares_twice}
use Rattle.pcef_rule.proofs.qci.any_twice.Given as goal

abbrev pub invariant-loop-i : goal.invariant-loop-i
invariant-loop-i l = declares_twice (drop l.i l.declared) ≡ declares_twice l.declared
