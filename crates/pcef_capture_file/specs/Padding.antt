-- The octets of a packet that was recorded in part.
use Rattle.std.specs.Prelude.{ℕ, ◌-◌, ◌==◌, ◌&&◌, ◌++◌, nat_le, List, length, replicate, if◌then◌else◌}
use Rattle.pcef_packet.specs.HeaderOf.{total_len_v4, version, volume_v6}

-- The length that a packet's header states: Total Length in version 4 (RFC 791, clause 3.1), and in version 6
-- Payload Length beside the 40 octets of the fixed header (RFC 8200, clause 3). Where the header without options
-- or extensions wasn't recorded, nothing is filled in (own choice).
unfoldable pub stated_len : List ℕ → ℕ
stated_len octets =
    if nat_le 20 (length octets) && (version octets == 4) then total_len_v4 octets
    else if nat_le 40 (length octets) && (version octets == 6) then volume_v6 octets
    else 0

-- zeros stand for what is missing
unfoldable pub padded : List ℕ → List ℕ
padded octets = octets ++ replicate (stated_len octets - length octets) 0
