use Rattle.std.proofs.Common.{◌≡◌, ◌++◌, drop}
use Rattle.pcef_renewal.specs.private.Again.{again_on}
use Rattle.pcef_renewal.proofs.list.push_rules_on.Given as goal

abbrev pub invariant-loop-place : goal.invariant-loop-place
invariant-loop-place l =
    l.list.items ++ again_on l.bearer.0 (drop l.place l.bound) (drop l.place l.active.rules) ≡ l.initial.list.items ++ again_on l.bearer.0 l.bound l.active.rules
