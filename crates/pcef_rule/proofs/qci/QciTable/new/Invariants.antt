use Rattle.std.proofs.Common.{◌≡◌, ◌<◌, ℕ, length}
use Rattle.pcef_rule.specs.QciKinds.{declared_at, declared_kind}
use Rattle.pcef_rule.proofs.qci.QciTable.new.Given as goal

abbrev pub invariant-loop-qci : goal.invariant-loop-qci
invariant-loop-qci l = record {
  full : length l.kinds ≡ 256;
  written : (n : ℕ) → n < l.qci → declared_at l.kinds n ≡ declared_kind l.declared n;
}
