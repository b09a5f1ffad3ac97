-- Options of a block (draft-ietf-opsawg-pcapng, clause 3.5).
use Rattle.std.specs.Prelude.{ℕ, zero, suc, ◌+◌, ◌*◌, ◌/◌, ◌==◌, nat_lt, List, length, take, drop, Option, Some, None, if◌then◌else◌}
use Rattle.pcef_capture_file.specs.Numbers.{number_by}
use Rattle.pcef_capture_file.specs.declared.endianness.Endianness.{Endianness}

-- An option has its code in octets 0 and 1, the length of its value in octets 2 and 3, and then the value, which is
-- filled up to a multiple of four octets.
abbrev pub option_len : ℕ → ℕ
option_len len = 4 + (len + 3) / 4 * 4

-- The option at the front: its code, its value, and what stands behind it. The code 0 ends the options. So does an
-- option that isn't whole (own choice).
unfoldable pub option_at : Endianness → List ℕ → Option (ℕ × List ℕ × List ℕ)
option_at e octets =
    if nat_lt (length octets) 4 then None
    else if number_by e octets 0 2 == 0 then None
    else if nat_lt (length octets) (option_len (number_by e octets 2 2)) then None
    else Some (number_by e octets 0 2, take (number_by e octets 2 2) (drop 4 octets), drop (option_len (number_by e octets 2 2)) octets)

-- the value of this option, or of one behind it
abbrev pub option_value : (List ℕ → Option (List ℕ)) → ℕ → Option (ℕ × List ℕ × List ℕ) → Option (List ℕ)
option_value behind code None = None
option_value behind code (Some o) = if o.0 == code then Some o.1 else behind o.2

-- the value of the first option of a code, among this many
unfoldable pub value_among : ℕ → Endianness → ℕ → List ℕ → Option (List ℕ)
value_among zero e code octets = None
value_among (suc n) e code octets = option_value (λ rest. value_among n e code rest) code (option_at e octets)

-- an option takes octets, so they bound the options
abbrev pub value_of : Endianness → ℕ → List ℕ → Option (List ℕ)
value_of e code octets = value_among (length octets + 1) e code octets
