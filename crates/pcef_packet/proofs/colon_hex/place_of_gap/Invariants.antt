use Rattle.std.proofs.Common.{◌≡◌, ◌+◌, drop}
use Rattle.pcef_packet.specs.AddressTexts.{gap_place}
use Rattle.pcef_packet.proofs.colon_hex.place_of_gap.Given as goal

abbrev pub invariant-loop-i : goal.invariant-loop-i
invariant-loop-i l = gap_place l.text ≡ l.i + gap_place (drop l.i l.text)
