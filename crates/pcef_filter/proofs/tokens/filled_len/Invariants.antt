use Rattle.std.proofs.Common.{◌≡◌, ◌+◌, drop}
use Rattle.std.specs.List.{position_or_len}
use Rattle.pcef_filter.specs.Tokens.{is_blank}
use Rattle.pcef_filter.proofs.tokens.filled_len.Given as goal

abbrev pub invariant-loop-i : goal.invariant-loop-i
invariant-loop-i l = position_or_len is_blank l.text ≡ l.i + position_or_len is_blank (drop l.i l.text)
