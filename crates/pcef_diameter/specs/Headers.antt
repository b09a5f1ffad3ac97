-- The header of a message (RFC 6733, clause 3).
use Rattle.std.specs.Prelude.{◌<◌, ◌+◌, ◌*◌, ◌/◌, ◌%◌, ◌^◌, ◌==◌, ◌&&◌, ◌||◌, not, ℕ, nat_lt, List, [], ◌∷◌, length, Option, Some, None, if◌then◌else◌}
use Rattle.std.specs.List.{flat_map}
use Rattle.pcef_diameter.specs.Numbers.{word_at, first_octet, other_octets, octets_of, bit}
use Rattle.pcef_diameter.specs.declared.fault.MessageFault.{MessageFault}
use Rattle.pcef_diameter.specs.declared.fault.MessageFault.TheVariants.{Bits, Length, Version}
use Rattle.pcef_diameter.specs.declared.header.MessageHeader.{MessageHeader}

-- The Command Flags stand in octet 4: R, P, E and T from the highest bit on. The other four are reserved, and a
-- receiver ignores them.
abbrev pub command_flags_at : List ℕ → ℕ
command_flags_at octets = first_octet (word_at octets 4)

abbrev pub reserved_at : List ℕ → ℕ
reserved_at octets = command_flags_at octets % 16

-- Version and Message Length in octets 0 to 3, Command Flags and Command Code in 4 to 7, Application-ID in 8 to 11,
-- Hop-by-Hop Identifier in 12 to 15, End-to-End Identifier in 16 to 19
unfoldable pub header_of : List ℕ → Option MessageHeader
header_of octets =
    if nat_lt (length octets) 20 then None
    else Some (record {
      version = first_octet (word_at octets 0);
      len = other_octets (word_at octets 0);
      request = command_flags_at octets / 128 == 1;
      proxiable = command_flags_at octets / 64 % 2 == 1;
      error = command_flags_at octets / 32 % 2 == 1;
      retransmitted = command_flags_at octets / 16 % 2 == 1;
      command = other_octets (word_at octets 4);
      application = word_at octets 8;
      hop_by_hop = word_at octets 12;
      end_to_end = word_at octets 16;
    })

-- what is wrong with the header of a message of `count` octets: the first of these
unfoldable pub header_fault : MessageHeader → ℕ → Option MessageFault
header_fault h count =
    if not (h.version == 1) then Some Version
    else if nat_lt h.len 20 || (not (h.len % 4 == 0) || not (h.len == count)) then Some Length
    else if h.request && h.error then Some Bits
    else None

unfoldable pub command_word : MessageHeader → ℕ
command_word h = (bit h.request 128 + bit h.proxiable 64 + bit h.error 32 + bit h.retransmitted 16) * 2 ^ 24 + h.command

-- the octets of a header: its five words
abbrev pub header_octets : MessageHeader → List ℕ
header_octets h =
    flat_map octets_of ((h.version * 2 ^ 24 + h.len) ∷ command_word h ∷ h.application ∷ h.hop_by_hop ∷ h.end_to_end ∷ [])

-- a header whose numbers have room in their octets
pub record HeaderFits (h : MessageHeader) : Type 0 where
  pub version : h.version < 2 ^ 8
  pub len : h.len < 2 ^ 24
  pub command : h.command < 2 ^ 24
  pub application : h.application < 2 ^ 32
  pub hop_by_hop : h.hop_by_hop < 2 ^ 32
  pub end_to_end : h.end_to_end < 2 ^ 32
