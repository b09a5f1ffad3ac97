use Rattle.std.proofs.Common.{◌≡◌, drop}
use Rattle.pcef_rule.specs.QciKinds.{declared_kind}
use Rattle.pcef_rule.proofs.qci.kind_among.Given as goal

abbrev pub invariant-loop-d : goal.invariant-loop-d
invariant-loop-d l = declared_kind (drop l.d-index l.declared) l.qci ≡ declared_kind l.declared l.qci
