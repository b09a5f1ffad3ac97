-- Addresses in text, of either version.
use Rattle.std.specs.Prelude.{ℕ, zero, suc, ◌+◌, ◌-◌, ◌*◌, ◌^◌, ◌==◌, nat_lt, nat_le, Bool, ◌&&◌, List, [], ◌∷◌, length, take, drop, slice_index, Option, Some, None, if◌then◌else◌}
use Rattle.std.specs.List.{after_first, before_first, list_any, position_or_len}
use Rattle.pcef_packet.specs.Joined.{◌>>=◌}
use Rattle.pcef_packet.specs.DottedDecimal.{IsDotted, dot, octet_of}
use Rattle.pcef_packet.specs.ColonHex.{IsColonHex, colon, group_of}
use Rattle.pcef_packet.specs.declared.header.Addr.{Addr}
use Rattle.pcef_packet.specs.declared.header.Addr.TheVariants.{V4, V6}

-- the text writes the address
abbrev pub WritesAddress : List ℕ → Addr → Type 0
WritesAddress text (V4 number) = IsDotted text number
WritesAddress text (V6 number) = IsColonHex text number

-- ---- the same as functions, which only serve the proof of the reader: they are proved to agree
-- what stands before and after the first of these octets
unfoldable pub cut_at : ℕ → List ℕ → Option (List ℕ × List ℕ)
cut_at separator text =
    if nat_lt (position_or_len (λ o. o == separator) text) (length text)
    then Some (before_first (λ o. o == separator) text, after_first (λ o. o == separator) text)
    else None

-- the first number in the highest octet
abbrev pub joined : ℕ → ℕ → ℕ → ℕ → ℕ
joined a b c d = ((a * 256 + b) * 256 + c) * 256 + d

unfoldable pub dotted_of : List ℕ → Option ℕ
dotted_of text = do
  first ← cut_at dot text
  second ← cut_at dot first.1
  third ← cut_at dot second.1
  a ← octet_of first.0
  b ← octet_of second.0
  c ← octet_of third.0
  d ← octet_of third.1
  Some (joined a b c d)

-- the number and the count of groups in text, behind those of another
abbrev pub last_or_more : (ℕ → Option (ℕ × ℕ)) → (ℕ → List ℕ → Option (ℕ × ℕ)) → List ℕ → Option (List ℕ × List ℕ) → Option (ℕ × ℕ)
last_or_more last more text None = group_of text >>= last
last_or_more last more text (Some p) = group_of p.0 >>= λ g. more g p.1

unfoldable pub groups_within : ℕ → ℕ → ℕ → List ℕ → Option (ℕ × ℕ)
groups_within zero number count text = None
groups_within (suc n) number count text =
    last_or_more (λ g. Some (number * 65536 + g, count + 1)) (λ g rest. groups_within n (number * 65536 + g) (count + 1) rest) text (cut_at colon text)

abbrev pub groups_in : List ℕ → Option (ℕ × ℕ)
groups_in text = groups_within 8 0 0 text

unfoldable pub side_in : List ℕ → Option (ℕ × ℕ)
side_in text = if length text == 0 then Some (0, 0) else groups_in text

-- how many octets stand before the first two colons
abbrev pub begins_gap : List ℕ → Bool
begins_gap text = (slice_index text 0 == colon) && (slice_index text 1 == colon)

abbrev pub gap_place : List ℕ → ℕ
gap_place [] = 0
gap_place (o ∷ os) = if begins_gap (o ∷ os) then 0 else suc (gap_place os)

abbrev pub if_eight : ℕ × ℕ → Option ℕ
if_eight g = if g.1 == 8 then Some g.0 else None

abbrev pub if_fewer : ℕ × ℕ → ℕ × ℕ → Option ℕ
if_fewer high low = if nat_le (high.1 + low.1) 7 then Some (high.0 * 65536 ^ (8 - high.1) + low.0) else None

unfoldable pub whole_in : List ℕ → Option ℕ
whole_in text = groups_in text >>= if_eight

unfoldable pub shortened_in : List ℕ → List ℕ → Option ℕ
shortened_in before behind = side_in before >>= λ high. side_in behind >>= λ low. if_fewer high low

unfoldable pub colon_hex_in : List ℕ → Option ℕ
colon_hex_in text =
    if nat_lt (gap_place text) (length text) then shortened_in (take (gap_place text) text) (drop (gap_place text + 2) text)
    else whole_in text

-- only addresses of version 6 have colons
abbrev pub has_colon : List ℕ → Bool
has_colon text = list_any (λ o. o == colon) text

unfoldable pub address_of : List ℕ → Option Addr
address_of text =
    if has_colon text then (colon_hex_in text >>= (λ number. Some (V6 number)))
    else (dotted_of text >>= (λ number. Some (V4 number)))
