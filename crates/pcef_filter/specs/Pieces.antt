-- The pieces of a token (RFC 6733, clause 4.3.1).
use Rattle.std.specs.Prelude.{ℕ, ◌==◌, List}
use Rattle.std.specs.List.{slice_split}
use Rattle.pcef_filter.specs.Tokens.{Token}

-- the octets `/`, `,` and `-`, which join pieces
abbrev pub slash : ℕ
slash = 47

abbrev pub comma : ℕ
comma = 44

abbrev pub dash : ℕ
dash = 45

-- what stands before, between and behind the separators: one piece more than there are of them
unfoldable pub pieces : ℕ → Token → List Token
pieces separator token = slice_split (λ octet. octet == separator) token
