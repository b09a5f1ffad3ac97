use Rattle.std.proofs.Common.{◌≡◌, map, string_bytes, take}
use Rattle.pcef_renewal_lines.specs.Filters.{range_text}
use Rattle.pcef_renewal_lines.proofs.filter.range_texts.Given as goal

abbrev pub invariant-loop-range : goal.invariant-loop-range
invariant-loop-range l = map string_bytes l.texts.items ≡ map range_text (take l.range-index l.ranges)
