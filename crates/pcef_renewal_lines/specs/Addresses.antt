-- Addresses as lines write them: each in full, without leading zeros (RFC 4291, clause 2.2, form 1; RFC 6943, section 3.1.1).
use Rattle.std.specs.Prelude.{ℕ, ◌/◌, ◌%◌, ◌^◌, ◌++◌, List, codes, decimal, false}
use Rattle.std.specs.Fmt.{digits}
use Rattle.pcef_packet.specs.declared.header.Addr.{Addr}
use Rattle.pcef_packet.specs.declared.header.Addr.TheVariants.{V4, V6}

-- four octets with dots between them
abbrev pub dotted_text : ℕ → List ℕ
dotted_text n =
    decimal (n / 16777216) ++ (codes "." ++ (decimal (n / 65536 % 256) ++ (codes "." ++ (decimal (n / 256 % 256) ++ (codes "." ++ decimal (n % 256))))))

-- the group above so many bits, in hexadecimal digits
abbrev pub group_text : ℕ → ℕ → List ℕ
group_text above n = digits 16 false (n / 2 ^ above % 65536)

abbrev pub groups_text : ℕ → List ℕ
groups_text half = group_text 48 half ++ (codes ":" ++ (group_text 32 half ++ (codes ":" ++ (group_text 16 half ++ (codes ":" ++ group_text 0 half)))))

-- eight groups with colons between them
abbrev pub colon_text : ℕ → List ℕ
colon_text n = groups_text (n / 18446744073709551616) ++ (codes ":" ++ groups_text (n % 18446744073709551616))

abbrev pub address_text : Addr → List ℕ
address_text (V4 n) = dotted_text n
address_text (V6 n) = colon_text n
