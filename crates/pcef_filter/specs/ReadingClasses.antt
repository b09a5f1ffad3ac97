-- The classes of tokens once more, as functions from a token to its value. They only serve the proof
-- of the reader: each is proved equal to its class, and no one need believe them.
use Rattle.std.specs.Prelude.{ℕ, Bool, true, false, ◌&&◌, List, [], ◌∷◌, length, nat_lt, nat_le, Option, Some, None, codes, if◌then◌else◌}
use denote.Ref.{Bor}
use Rattle.std.specs.Str.{all_ascii_digits, bytes_eq}
use Rattle.std.specs.Str.Parse.{digits_value}
use Rattle.arrayvec.specs.ArrayVec.{ArrayVec}
use Rattle.pcef_packet.specs.declared.header.Addr.{Addr}
use Rattle.pcef_packet.specs.AddressTexts.{address_of}
use Rattle.pcef_packet.specs.Addresses.{width_of}
use Rattle.pcef_filter.specs.Tokens.{Token}
use Rattle.pcef_filter.specs.Pieces.{pieces, slash, comma, dash}
use Rattle.pcef_filter.specs.declared.filter.Direction.{Direction}
use Rattle.pcef_filter.specs.declared.filter.Direction.TheVariants as direction
use Rattle.pcef_filter.specs.declared.filter.Flow.{Flow}
use Rattle.pcef_filter.specs.declared.filter.Net.{Net}
use Rattle.pcef_filter.specs.declared.filter.Place.{Place}
use Rattle.pcef_filter.specs.declared.filter.Place.TheVariants as place
use Rattle.pcef_filter.specs.declared.filter.PortRange.{PortRange}

abbrev pub is_word : Token → Token → Bool
is_word word token = bytes_eq token word

-- a value, and what follows from it
abbrev pub and_then : {X Y : Type 0} → Option X → (X → Option Y) → Option Y
and_then None next = None
and_then (Some x) next = next x

unfoldable pub number_in : ℕ → Token → Option ℕ
number_in most_digits token =
    if nat_lt 0 (length token) && nat_le (length token) most_digits && all_ascii_digits token
    then Some (digits_value 10 token)
    else None

abbrev pub up_to : ℕ → Option ℕ → Option ℕ
up_to limit None = None
up_to limit (Some number) = if nat_le number limit then Some number else None

unfoldable pub direction_in : Token → Option Direction
direction_in token =
    if is_word (codes "in") token then Some direction.In
    else if is_word (codes "out") token then Some direction.Out
    else None

abbrev pub one_proto : Option ℕ → Option (Option ℕ)
one_proto None = None
one_proto (Some number) = Some (Some number)

unfoldable pub proto_in : Token → Option (Option ℕ)
proto_in token = if is_word (codes "ip") token then Some None else one_proto (up_to 255 (number_in 5 token))

-- ---- pieces
-- the pieces of what is left of a token, if anything is left
abbrev pub pieces_left : ℕ → Option (Bor Token) → List Token
pieces_left separator None = []
pieces_left separator (Some left) = pieces separator left.now

-- ---- places
unfoldable pub bits_in : ℕ → Token → Option ℕ
bits_in width piece = up_to width (number_in 5 piece)

abbrev pub net_of : Addr → ℕ → Net
net_of addr bits = record { addr = addr; bits = bits }

abbrev pub net_from : List Token → Option Net
net_from [] = None
net_from (addr ∷ []) = and_then (address_of addr) (λ a. Some (net_of a (width_of a)))
net_from (addr ∷ bits ∷ []) = and_then (address_of addr) (λ a. and_then (bits_in (width_of a) bits) (λ b. Some (net_of a b)))
net_from (addr ∷ bits ∷ more ∷ rest) = None

unfoldable pub net_in : Token → Option Net
net_in token = net_from (pieces slash token)

unfoldable pub place_in : Token → Option Place
place_in token =
    if is_word (codes "any") token then Some place.Any
    else if is_word (codes "assigned") token then Some place.Assigned
    else and_then (net_in token) (λ net. Some (place.Net net))

-- ---- ports
unfoldable pub port_in : Token → Option ℕ
port_in piece = up_to 65535 (number_in 5 piece)

abbrev pub range_of : ℕ → ℕ → PortRange
range_of first last = record { first = first; last = last }

abbrev pub range_from : List Token → Option PortRange
range_from [] = None
range_from (port ∷ []) = and_then (port_in port) (λ m. Some (range_of m m))
range_from (first ∷ last ∷ []) = and_then (port_in first) (λ m. and_then (port_in last) (λ n. if nat_le m n then Some (range_of m n) else None))
range_from (first ∷ last ∷ more ∷ rest) = None

unfoldable pub range_in : Token → Option PortRange
range_in piece = range_from (pieces dash piece)

unfoldable pub ranges_in : List Token → Option (List PortRange)
ranges_in [] = Some []
ranges_in (piece ∷ rest) = and_then (range_in piece) (λ range. and_then (ranges_in rest) (λ ranges. Some (range ∷ ranges)))

abbrev pub if_room : List PortRange → Option (ArrayVec PortRange)
if_room ranges = if nat_le (length ranges) 8 then Some (record { items = ranges }) else None

unfoldable pub ports_in : Token → Option (ArrayVec PortRange)
ports_in token = and_then (ranges_in (pieces comma token)) if_room

-- ---- the flow word
-- whether it may not stand beside a text of this direction
abbrev pub is_clash : Direction → Option Flow → Bool
is_clash direction.In None = false
is_clash direction.In (Some word) = true
is_clash direction.Out flow = false
