-- The packet that a GTP-U message carries (3GPP TS 29.281, clauses 5.1, 5.2.1 and 6.1).
use Rattle.std.specs.Prelude.{ℕ, zero, suc, ◌+◌, ◌-◌, ◌*◌, ◌/◌, ◌%◌, ◌==◌, nat_lt, List, length, drop, slice_range, Result, Ok, Err, if◌then◌else◌}
use Rattle.pcef_base.specs.Readings.{◌>>=◌}
use Rattle.pcef_gtp.specs.Numbers.{number, octet_at}
use Rattle.pcef_gtp.specs.declared.refusal.NotTunneled.{NotTunneled}
use Rattle.pcef_gtp.specs.declared.refusal.NotTunneled.TheVariants as why

-- the message type is octet 1, and that of a G-PDU 255
abbrev pub gpdu : ℕ
gpdu = 255

-- The upper four bits of octet 0 are the version, 1, and the protocol type, 1 for GTP. The length, octets 2 and 3,
-- counts what stands behind the first eight octets.
unfoldable pub body_in : List ℕ → Result (List ℕ) NotTunneled
body_in message =
    if nat_lt (length message) 8 then Err why.ShortHeader
    else if octet_at message 0 / 16 == 3
    then if octet_at message 1 == gpdu
    then if nat_lt (length message) (8 + number message 2 2) then Err why.Length
    else Ok (slice_range message 8 (8 + number message 2 2))
    else Err why.NotGpdu
    else Err why.Version

-- ---- extension headers (clause 5.2.1)
-- The length is octet 0, in units of four octets, and the last octet is the type of the next header. This is that type,
-- and what stands behind the header.
unfoldable pub past : List ℕ → Result (ℕ × List ℕ) NotTunneled
past octets =
    if octet_at octets 0 == 0 then Err why.Extension
    else if nat_lt (length octets) (octet_at octets 0 * 4) then Err why.Extension
    else Ok (octet_at octets (octet_at octets 0 * 4 - 1), drop (octet_at octets 0 * 4) octets)

-- what stands behind at most n headers, from one of this type on; 0 is the type of none
unfoldable pub behind_within : ℕ → ℕ → List ℕ → Result (List ℕ) NotTunneled
behind_within zero kind octets = Err why.Extension
behind_within (suc n) kind octets =
    if kind == 0 then Ok octets
    else past octets >>= (λ found. behind_within n found.0 found.1)

-- a header takes octets, so they bound the headers
abbrev pub behind_extensions : ℕ → List ℕ → Result (List ℕ) NotTunneled
behind_extensions kind octets = behind_within (length octets + 1) kind octets

-- ---- the packet
-- The flags E, S and PN are the lowest three bits of octet 0. With one of them four octets more belong to the header. Of
-- these the last is the type of the first extension header, if E is set.
unfoldable pub packet_behind : ℕ → List ℕ → Result (List ℕ) NotTunneled
packet_behind flags body =
    if flags == 0 then Ok body
    else if nat_lt (length body) 4 then Err why.ShortHeader
    else if nat_lt flags 4 then Ok (drop 4 body)
    else behind_extensions (octet_at body 3) (drop 4 body)

-- the TEID, octets 4 to 7, and the packet of its tunnel
unfoldable pub packet_in : List ℕ → Result (ℕ × List ℕ) NotTunneled
packet_in message =
    body_in message
    >>= (λ body. packet_behind (octet_at message 0 % 8) body
    >>= (λ packet. Ok (number message 4 4, packet)))
