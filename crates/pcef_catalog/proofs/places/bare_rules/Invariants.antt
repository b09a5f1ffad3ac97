use Rattle.std.proofs.Common.{◌≡◌, take}
use Rattle.pcef_catalog.specs.PlainRules.{offers_in}
use Rattle.pcef_catalog.proofs.places.bare_rules.Given as goal

-- the rules so far
abbrev pub invariant-loop-rule : goal.invariant-loop-rule
invariant-loop-rule g l = l.offers.items ≡ offers_in (take l.rule-index l.rules)
