-- The messages of a stream (RFC 6733, clause 3).
use Rattle.std.specs.Prelude.{ℕ, ◌≤◌, ◌%◌, ◌==◌, ◌&&◌, not, nat_le, nat_lt, Bool, List, [], ◌∷◌, length, if◌then◌else◌}
use Rattle.pcef_diameter.specs.Numbers.{other_octets, word_at}
use Rattle.pcef_gx_peer.specs.declared.front.Front.{Front}
use Rattle.pcef_gx_peer.specs.declared.front.Front.TheVariants.{Lost, More, Whole}

-- own choice
abbrev pub most_octets : ℕ
most_octets = 65536

-- The Message Length stands behind the version, in octets 1 to 3.
abbrev pub len_at : List ℕ → ℕ
len_at octets = other_octets (word_at octets 0)

-- It counts the header, and is a multiple of four.
abbrev pub is_len : ℕ → Bool
is_len len = nat_le 20 len && ((len % 4 == 0) && nat_le len most_octets)

-- What a stream begins with, of which these octets came so far. That a message which can't be read ends it is an own
-- choice.
unfoldable pub front_of : List ℕ → Front
front_of [] = More
front_of (version ∷ behind) =
    if not (version == 1) then Lost
    else if nat_lt (length (version ∷ behind)) 4 then More
    else if not (is_len (len_at (version ∷ behind))) then Lost
    else if nat_lt (length (version ∷ behind)) (len_at (version ∷ behind)) then More
    else Whole (len_at (version ∷ behind))

-- A whole message is there, and neither too short nor too long.
abbrev pub IsAtFront : List ℕ → Front → Type 0
IsAtFront octets (Whole len) = (20 ≤ len) × (len ≤ most_octets) × (len ≤ length octets)
IsAtFront octets More = Unit {0}
IsAtFront octets Lost = Unit {0}
