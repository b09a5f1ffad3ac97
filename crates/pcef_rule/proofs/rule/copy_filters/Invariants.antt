use Rattle.std.proofs.Common.{◌≡◌, take}
use Rattle.pcef_rule.proofs.rule.copy_filters.Given as goal

abbrev pub invariant-loop-filter : goal.invariant-loop-filter
invariant-loop-filter l = l.copy.items ≡ take l.filter-index l.filters
