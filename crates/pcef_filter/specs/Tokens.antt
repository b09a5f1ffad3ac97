-- A filter text as a list of tokens.
use Rattle.std.specs.Prelude.{ℕ, Bool, true, false, ◌==◌, ◌||◌, List, [], ◌∷◌, filter}
use Rattle.std.specs.List.{slice_split}
use Rattle.std.specs.Char.{is_ascii_digit}

-- a token by its octets
abbrev pub Token : Type 0
Token = List ℕ

-- spaces and tabs separate tokens (own choice)
abbrev pub is_blank : ℕ → Bool
is_blank octet = (octet == 32) || (octet == 9)

-- between two adjacent blanks there is no token
abbrev pub has_octets : List ℕ → Bool
has_octets [] = false
has_octets (octet ∷ octets) = true

-- the tokens of a text, in their order
unfoldable pub tokens : List ℕ → List Token
tokens text = filter has_octets (slice_split is_blank text)

-- the first octet is one of `0` to `9`
unfoldable pub begins_with_digit : Token → Bool
begins_with_digit [] = false
begins_with_digit (octet ∷ octets) = is_ascii_digit octet
