use Rattle.std.proofs.Common.{◌≡◌, map, string_bytes, take}
use Rattle.pcef_renewal_lines.specs.Filters.{filter_object}
use Rattle.pcef_renewal_lines.proofs.filter.filter_objects.Given as goal

abbrev pub invariant-loop-filter : goal.invariant-loop-filter
invariant-loop-filter l = map string_bytes l.texts.items ≡ map filter_object (take l.filter-index l.filters)
