use Rattle.std.proofs.Common.{◌≡◌, ◌+◌, drop}
use Rattle.std.specs.List.{position_or_len}
use Rattle.std.specs.Prelude.{◌==◌}
use Rattle.pcef_packet.proofs.cutting.cut_at.Given as goal

abbrev pub invariant-loop-i : goal.invariant-loop-i
invariant-loop-i l = position_or_len (λ o. o == l.separator) l.text ≡ l.i + position_or_len (λ o. o == l.separator) (drop l.i l.text)
