-- Numbers of several octets.
use Rattle.std.specs.Prelude.{ℕ, List, drop}
use Rattle.byteorder.specs.Endian.{big_number, little_number}
use Rattle.pcef_capture_file.specs.declared.endianness.Endianness.{Endianness}
use Rattle.pcef_capture_file.specs.declared.endianness.Endianness.TheVariants.{Big, Little}

-- the number in `len` octets at a place
abbrev pub number_by : Endianness → List ℕ → ℕ → ℕ → ℕ
number_by Big octets place len = big_number len (drop place octets)
number_by Little octets place len = little_number len (drop place octets)
