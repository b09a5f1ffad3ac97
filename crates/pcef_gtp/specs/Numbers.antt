-- Numbers in octets.
use Rattle.std.specs.Prelude.{ℕ, List, drop, slice_index_or}
use Rattle.byteorder.specs.Endian.{big_number}

-- the number in `len` octets from a place on, the highest first
abbrev pub number : List ℕ → ℕ → ℕ → ℕ
number octets place len = big_number len (drop place octets)

-- the octet at a place, and 0 beyond the end
abbrev pub octet_at : List ℕ → ℕ → ℕ
octet_at octets place = slice_index_or octets place 0
