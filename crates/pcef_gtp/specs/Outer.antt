-- The GTP-U message that an IP packet carries in UDP (3GPP TS 29.281, clause 4.4.2).
use Rattle.std.specs.Prelude.{ℕ, ◌+◌, ◌*◌, ◌/◌, ◌%◌, ◌^◌, ◌==◌, ◌&&◌, ◌||◌, not, nat_lt, Bool, List, length, slice_range, Result, Ok, Err, if◌then◌else◌}
use Rattle.pcef_gtp.specs.Numbers.{number, octet_at}
use Rattle.pcef_gtp.specs.declared.refusal.NotTunneled.{NotTunneled}
use Rattle.pcef_gtp.specs.declared.refusal.NotTunneled.TheVariants as why

-- ---- version 4 (RFC 791, clause 3.1)
-- the header length is the lower half of octet 0, in units of four octets
unfoldable pub header_len_v4 : List ℕ → ℕ
header_len_v4 octets = octet_at octets 0 % 16 * 4

unfoldable pub total_len_v4 : List ℕ → ℕ
total_len_v4 octets = number octets 2 2

-- the flag MF or the offset isn't 0: the lower 14 bits of octets 6 and 7
unfoldable pub is_fragment_v4 : List ℕ → Bool
is_fragment_v4 octets = not (number octets 6 2 % 2 ^ 14 == 0)

-- the protocol is octet 9, and that of UDP is 17
unfoldable pub datagram_v4 : List ℕ → Result (List ℕ) NotTunneled
datagram_v4 octets =
    if nat_lt (length octets) 20 then Err why.NotWhole
    else if nat_lt (header_len_v4 octets) 20 || (nat_lt (total_len_v4 octets) (header_len_v4 octets) || nat_lt (length octets) (total_len_v4 octets))
    then Err why.NotWhole
    else if octet_at octets 9 == 17
    then if is_fragment_v4 octets then Err why.Fragment else Ok (slice_range octets (header_len_v4 octets) (total_len_v4 octets))
    else Err why.NotGtp

-- ---- version 6 (RFC 8200, clauses 3 and 4.5)
-- the payload length is octets 4 and 5
unfoldable pub total_len_v6 : List ℕ → ℕ
total_len_v6 octets = 40 + number octets 4 2

-- the next header, octet 6, is a fragment header, which has the next one in its first octet
unfoldable pub is_fragment_v6 : List ℕ → Bool
is_fragment_v6 octets = (octet_at octets 6 == 44) && (octet_at octets 40 == 17)

-- UDP stands behind the fixed header; behind other headers it isn't looked for (own choice)
unfoldable pub datagram_v6 : List ℕ → Result (List ℕ) NotTunneled
datagram_v6 octets =
    if nat_lt (length octets) 40 then Err why.NotWhole
    else if nat_lt (length octets) (total_len_v6 octets) then Err why.NotWhole
    else if is_fragment_v6 octets then Err why.Fragment
    else if octet_at octets 6 == 17 then Ok (slice_range octets 40 (total_len_v6 octets))
    else Err why.NotGtp

-- the version is the upper half of octet 0
unfoldable pub datagram_in : List ℕ → Result (List ℕ) NotTunneled
datagram_in octets =
    if octet_at octets 0 / 16 == 4 then datagram_v4 octets
    else if octet_at octets 0 / 16 == 6 then datagram_v6 octets
    else Err why.NotWhole

-- ---- UDP (RFC 768)
-- The destination port is octets 2 and 3, and that of GTP-U 2152. The length, octets 4 and 5, counts the header's
-- eight octets too.
unfoldable pub message_in : List ℕ → Result (List ℕ) NotTunneled
message_in datagram =
    if nat_lt (length datagram) 8 then Err why.NotGtp
    else if number datagram 2 2 == 2152
    then if nat_lt (number datagram 4 2) 8 || nat_lt (length datagram) (number datagram 4 2) then Err why.Length
    else Ok (slice_range datagram 8 (number datagram 4 2))
    else Err why.NotGtp
