use Rattle.std.proofs.Common.{◌≡◌, ◌+◌, drop}
use Rattle.std.specs.Prelude.{◌==◌}
use Rattle.std.specs.List.{position_or_len}
use Rattle.pcef_filter.proofs.pieces.first_len.Given as goal

abbrev pub invariant-loop-i : goal.invariant-loop-i
invariant-loop-i l = position_or_len (λ octet. octet == l.separator) l.token ≡ l.i + position_or_len (λ octet. octet == l.separator) (drop l.i l.token)
