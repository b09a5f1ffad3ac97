-- Numbers of several octets, the highest octet first (RFC 6733, clauses 3, 4.1 and 4.2).
use Rattle.std.specs.Prelude.{ℕ, ◌/◌, ◌%◌, ◌^◌, ◌==◌, Bool, true, false, List, length, take, drop, Option, Some, None, if◌then◌else◌}
use Rattle.std.specs.Int.{w32, w64, from_be_bytes, to_be_bytes}

-- a word: the number in the four octets at a place
abbrev pub word_at : List ℕ → ℕ → ℕ
word_at octets place = from_be_bytes w32 (take 4 (drop place octets))

-- the number in a word's first octet, and that in the other three
abbrev pub first_octet : ℕ → ℕ
first_octet word = word / 2 ^ 24

abbrev pub other_octets : ℕ → ℕ
other_octets word = word % 2 ^ 24

-- the octets of a word
unfoldable pub octets_of : ℕ → List ℕ
octets_of word = to_be_bytes w32 word

-- a flag that is set is the bit of its place
abbrev pub bit : Bool → ℕ → ℕ
bit true place = place
bit false place = 0

-- data of the types Unsigned32 and Unsigned64 have just so many octets
abbrev pub unsigned32_of : List ℕ → Option ℕ
unsigned32_of octets = if length octets == 4 then Some (from_be_bytes w32 octets) else None

abbrev pub unsigned64_of : List ℕ → Option ℕ
unsigned64_of octets = if length octets == 8 then Some (from_be_bytes w64 octets) else None
