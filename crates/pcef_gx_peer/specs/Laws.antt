-- Laws of the messages of a stream.
use Rattle.std.specs.Prelude.{◌≡◌, ◌<◌, ◌+◌, ◌≤◌, ◌%◌, ◌++◌, ℕ, List, length, take}
use Rattle.pcef_diameter.specs.Avps.{Shown}
use Rattle.pcef_diameter.specs.Headers.{HeaderFits, header_octets}
use Rattle.pcef_diameter.specs.Spellings.{avps_octets}
use Rattle.pcef_diameter.specs.declared.header.MessageHeader.{MessageHeader}
use Rattle.pcef_gx_peer.specs.Fronts.{front_of, most_octets}
use Rattle.pcef_gx_peer.specs.declared.front.Front.TheVariants.{Lost, More, Whole}

-- A whole message stays one when more octets come,
abbrev pub WholeStays : Type 0
WholeStays = (octets more : List ℕ) (len : ℕ) → front_of octets ≡ Whole len → front_of (octets ++ more) ≡ Whole len

-- and a stream that is lost stays so.
abbrev pub LostStays : Type 0
LostStays = (octets more : List ℕ) → front_of octets ≡ Lost → front_of (octets ++ more) ≡ Lost

-- Before all octets of a whole message came, more have to come.
abbrev pub CutIsMore : Type 0
CutIsMore =
    (octets : List ℕ) (len count : ℕ) → front_of octets ≡ Whole len → count < len → front_of (take count octets) ≡ More

-- A message that is written, its length that of all its octets, is whole whatever comes behind it.
abbrev pub WrittenIsWhole : Type 0
WrittenIsWhole =
    (h : MessageHeader) (octets behind : List ℕ)
    → HeaderFits h
    → h.version ≡ 1
    → h.len ≡ 20 + length octets
    → length octets % 4 ≡ 0
    → h.len ≤ most_octets
    → front_of ((header_octets h ++ octets) ++ behind) ≡ Whole h.len

-- Octets of AVPs are multiples of four, as their padding makes them.
abbrev pub AvpsArePadded : Type 0
AvpsArePadded = (avps : List Shown) → length (avps_octets avps) % 4 ≡ 0
