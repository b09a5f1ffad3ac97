use Rattle.std.proofs.Common.{◌≡◌, ◌++◌, drop}
use Rattle.pcef_renewal.specs.private.Again.{again_on_each, numbers}
use Rattle.pcef_renewal.proofs.list.push_rules_on_each.Given as goal

abbrev pub invariant-loop-bearer : goal.invariant-loop-bearer
invariant-loop-bearer l =
    l.list.items ++ again_on_each (drop l.bearer-index (numbers l.bearers)) l.bound l.active.rules
    ≡ l.initial.list.items ++ again_on_each (numbers l.bearers) l.bound l.active.rules
