-- IPv6 addresses in text: groups of one to four hexadecimal digits, joined by colons (RFC 4291, clause 2.2,
-- the first two forms; the third, with a tail in dotted decimal form, is left out: own choice).
use Rattle.std.specs.Prelude.{ℕ, ◌+◌, ◌-◌, ◌*◌, ◌^◌, ◌≡◌, ◌≤◌, ◌⊎◌, nat_lt, nat_le, ◌&&◌, List, [], ◌∷◌, ◌++◌, length, Option, Some, None, if◌then◌else◌}
use Rattle.pcef_packet.specs.Joined.{◌>>=◌, WritesJoined, number_of}

-- the octet `:`
abbrev pub colon : ℕ
colon = 58

-- the value of a hexadecimal digit of either case
unfoldable pub digit_of : ℕ → Option ℕ
digit_of octet =
    if nat_le 48 octet && nat_le octet 57 then Some (octet - 48)
    else if nat_le 65 octet && nat_le octet 70 then Some (octet - 55)
    else if nat_le 97 octet && nat_le octet 102 then Some (octet - 87)
    else None

-- the number that hexadecimal digits write behind those of another
abbrev pub digits_from : ℕ → List ℕ → Option ℕ
digits_from number [] = Some number
digits_from number (octet ∷ octets) = digit_of octet >>= λ d. digits_from (number * 16 + d) octets

-- one group
unfoldable pub group_of : List ℕ → Option ℕ
group_of text = if nat_lt 0 (length text) && nat_le (length text) 4 then digits_from 0 text else None

-- groups with a colon between each two
abbrev pub WritesGroups : List ℕ → List ℕ → Type 0
WritesGroups text groups = WritesJoined colon group_of text groups

-- nothing, or groups
abbrev pub WritesSide : List ℕ → List ℕ → Type 0
WritesSide text [] = text ≡ []
WritesSide text (group ∷ groups) = WritesGroups text (group ∷ groups)

-- the number of groups, of which the first is the highest
abbrev pub number_of_groups : List ℕ → ℕ
number_of_groups groups = number_of 65536 groups

-- eight groups
pub record IsWhole (text : List ℕ) (number : ℕ) : Type 0 where
  pub groups : List ℕ
  pub written : WritesGroups text groups
  pub eight : length groups ≡ 8
  pub value : number ≡ number_of_groups groups

-- fewer than eight groups, and two colons that stand for one or more groups of zero: the groups before
-- them are the highest, and those behind them the lowest
pub record IsShortened (text : List ℕ) (number : ℕ) : Type 0 where
  pub before : List ℕ
  pub behind : List ℕ
  pub high : List ℕ
  pub low : List ℕ
  pub order : text ≡ before ++ (colon ∷ colon ∷ behind)
  pub high_written : WritesSide before high
  pub low_written : WritesSide behind low
  pub fewer : length high + length low ≤ 7
  pub value : number ≡ number_of_groups high * 65536 ^ (8 - length high) + number_of_groups low

abbrev pub IsColonHex : List ℕ → ℕ → Type 0
IsColonHex text number = IsWhole text number ⊎ IsShortened text number
