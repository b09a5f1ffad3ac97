-- Names of rules and of monitoring keys: any octets in a message (TS 29.212, clauses 5.3.6 and 5.3.59), visible ASCII in
-- a session (own choice).
use Rattle.std.specs.Prelude.{◌≡◌, ◌<◌, ◌^◌, ◌+◌, ◌-◌, ◌*◌, ◌/◌, ◌%◌, ◌==◌, ◌&&◌, not, ℕ, nat_lt, Bool, List, [], ◌∷◌, length, All, Option, Some, None, if◌then◌else◌}
use Rattle.std.specs.List.{flat_map}
use Rattle.pcef_base.specs.Readings.{is_from_to}

-- An octet from 0x21 to 0x7E stands for itself, but `%` doesn't.
abbrev pub is_plain : ℕ → Bool
is_plain octet = is_from_to 33 126 octet && not (octet == 37)

-- the character of a hexadecimal digit: 0 to 9, A to F
abbrev pub digit : ℕ → ℕ
digit value = if nat_lt value 10 then 48 + value else 55 + value

-- Any other is `%` with two digits.
abbrev pub escaped : ℕ → List ℕ
escaped octet = if is_plain octet then octet ∷ [] else 37 ∷ digit (octet / 16 % 16) ∷ digit (octet % 16) ∷ []

abbrev pub spelled : List ℕ → List ℕ
spelled octets = flat_map escaped octets

-- There is a name where this has 1 to 64 characters.
unfoldable pub name_of : List ℕ → Option (List ℕ)
name_of octets = if is_from_to 1 64 (length (spelled octets)) then Some (spelled octets) else None

-- ---- back to the octets
abbrev pub is_digit : ℕ → Bool
is_digit character = if nat_lt character 58 then is_from_to 48 57 character else is_from_to 65 70 character

abbrev pub value_of : ℕ → ℕ
value_of character = if nat_lt character 58 then character - 48 else character - 55

abbrev pub is_escape : ℕ → ℕ → ℕ → Bool
is_escape mark high low = (mark == 37) && (is_digit high && is_digit low)

abbrev pub octets_of : List ℕ → List ℕ
octets_of [] = []
octets_of (a ∷ []) = a ∷ []
octets_of (a ∷ b ∷ []) = a ∷ b ∷ []
octets_of (a ∷ b ∷ c ∷ rest) =
    if is_escape a b c then (value_of b * 16 + value_of c) ∷ octets_of rest else a ∷ octets_of (b ∷ c ∷ rest)

-- A name is written back as the octets that it came from, so no two octet strings have one name.
abbrev pub NamesGoBack : Type 0
NamesGoBack = (octets : List ℕ) → All (λ octet. octet < 2 ^ 8) octets → octets_of (spelled octets) ≡ octets
