-- What single tokens of a filter text spell (RFC 6733, clause 4.3.1). The limits on the digits of a number and on the
-- ranges of a port list are own choices.
use Rattle.std.specs.Prelude.{ℕ, ◌≡◌, ◌≤◌, List, [], ◌∷◌, length, Option, Some, None, codes, ⊤}
use Rattle.pcef_packet.specs.AddressTexts.{WritesAddress}
use Rattle.pcef_packet.specs.Addresses.{width_of}
use Rattle.pcef_filter.specs.Tokens.{Token}
use Rattle.pcef_filter.specs.Numbers.{IsNumber}
use Rattle.pcef_filter.specs.Pieces.{pieces, slash, comma, dash}
use Rattle.pcef_filter.specs.declared.filter.Direction.{Direction}
use Rattle.pcef_filter.specs.declared.filter.Direction.TheVariants.{In, Out}
use Rattle.pcef_filter.specs.declared.filter.Flow.{Flow}
use Rattle.pcef_filter.specs.declared.filter.Net.{Net}
use Rattle.pcef_filter.specs.declared.filter.Place.{Place}
use Rattle.pcef_filter.specs.declared.filter.Place.TheVariants as place
use Rattle.pcef_filter.specs.declared.filter.PortRange.{PortRange}

-- dir: the word `in` or `out`
abbrev pub IsDirection : Token → Direction → Type 0
IsDirection token In = token ≡ codes "in"
IsDirection token Out = token ≡ codes "out"

-- proto: the word `ip` for every protocol, or the number of one
abbrev pub IsProto : Token → Option ℕ → Type 0
IsProto token None = token ≡ codes "ip"
IsProto token (Some number) = IsNumber 5 token number × (number ≤ 255)

-- ---- src and dst
-- an address alone counts whole; behind a slash stands how many of its bits count
abbrev pub AreNet : List Token → Net → Type 0
AreNet [] net = ⊥
AreNet (addr ∷ []) net = WritesAddress addr net.addr × (net.bits ≡ width_of net.addr)
AreNet (addr ∷ bits ∷ []) net = WritesAddress addr net.addr × IsNumber 5 bits net.bits × (net.bits ≤ width_of net.addr)
AreNet (addr ∷ bits ∷ more ∷ rest) net = ⊥

-- the word `any`, the word `assigned`, or a network
abbrev pub IsPlace : Token → Place → Type 0
IsPlace token place.Any = token ≡ codes "any"
IsPlace token place.Assigned = token ≡ codes "assigned"
IsPlace token (place.Net net) = AreNet (pieces slash token) net

-- ---- ports
abbrev pub IsPort : Token → ℕ → Type 0
IsPort piece number = IsNumber 5 piece number × (number ≤ 65535)

-- one port, or the first and the last of a range with a dash between them
abbrev pub AreRange : List Token → PortRange → Type 0
AreRange [] range = ⊥
AreRange (port ∷ []) range = IsPort port range.first × (range.last ≡ range.first)
AreRange (first ∷ last ∷ []) range = IsPort first range.first × IsPort last range.last × (range.first ≤ range.last)
AreRange (first ∷ last ∷ more ∷ rest) range = ⊥

-- each piece is the range at its place
abbrev pub AreRanges : List Token → List PortRange → Type 0
AreRanges [] [] = ⊤
AreRanges [] (range ∷ ranges) = ⊥
AreRanges (piece ∷ rest) [] = ⊥
AreRanges (piece ∷ rest) (range ∷ ranges) = AreRange (pieces dash piece) range × AreRanges rest ranges

-- ports: one to eight ranges with commas between them
abbrev pub IsPorts : Token → List PortRange → Type 0
IsPorts token ranges = AreRanges (pieces comma token) ranges × (length ranges ≤ 8)

-- ---- the flow word
-- which flow words may stand beside a text of this direction: beside `in` none (own choice), since a
-- flow word says to which packets an `out` text applies (TS 29.212, clause 5.3.65, Flow-Direction)
abbrev pub AllowsFlow : Direction → Option Flow → Type 0
AllowsFlow In flow = flow ≡ None
AllowsFlow Out flow = ⊤
