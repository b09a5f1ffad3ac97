-- IPv4 addresses in text: four numbers from 0 to 255 joined by dots (RFC 6943, section 3.1.1, in its
-- strict form; leading zeros are allowed and don't mean octal: own choice).
use Rattle.std.specs.Prelude.{ℕ, ◌≡◌, nat_lt, nat_le, List, length, Bool, ◌&&◌, Option, Some, None, if◌then◌else◌}
use Rattle.std.specs.Str.{all_ascii_digits}
use Rattle.std.specs.Str.Parse.{digits_value}
use Rattle.pcef_packet.specs.Joined.{WritesJoined, number_of}

-- the octet `.`
abbrev pub dot : ℕ
dot = 46

-- one to three digits, and no more than 255
abbrev pub is_octet : List ℕ → Bool
is_octet digits = ((nat_lt 0 (length digits) && nat_le (length digits) 3) && all_ascii_digits digits) && nat_le (digits_value 10 digits) 255

unfoldable pub octet_of : List ℕ → Option ℕ
octet_of digits = if is_octet digits then Some (digits_value 10 digits) else None

-- four numbers, of which the first is the highest octet of the address
pub record IsDotted (text : List ℕ) (number : ℕ) : Type 0 where
  pub octets : List ℕ
  pub written : WritesJoined dot octet_of text octets
  pub four : length octets ≡ 4
  pub value : number ≡ number_of 256 octets
