use Rattle.std.proofs.Common.{◌≡◌, drop}
use Rattle.pcef_gx_orders.specs.Keeping.{kept_definition}
use Rattle.pcef_gx_orders.proofs.finding.kept_definition.Given as goal

-- the rule isn't kept before this place
abbrev pub invariant-loop-place : goal.invariant-loop-place
invariant-loop-place l = kept_definition l.name (drop l.place l.rules.rules) ≡ kept_definition l.name l.rules.rules
