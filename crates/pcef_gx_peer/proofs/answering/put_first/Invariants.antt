use Rattle.std.proofs.Common.{◌≡◌, ◌≤◌, drop, find, length, map}
use Rattle.pcef_diameter.specs.Avps.{shown}
use Rattle.pcef_diameter.specs.Spellings.{avps_octets}
use Rattle.pcef_gx.specs.Codes.{has_code}
use Rattle.pcef_gx_peer.proofs.answering.put_first.Given as goal

-- the first of the rest is the first of all, and the rest takes no more octets than all
abbrev pub invariant-loop-avp : goal.invariant-loop-avp
invariant-loop-avp l =
    (find (has_code l.code) (map shown (drop l.avp-index l.avps)) ≡ find (has_code l.code) (map shown l.avps))
    × (length (avps_octets (map shown (drop l.avp-index l.avps))) ≤ 65536)
    × (l.out.items ≡ l.fn.out.items)
