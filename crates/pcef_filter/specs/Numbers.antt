-- Decimal numbers.
use Rattle.std.specs.Prelude.{ℕ, ◌≡◌, ◌<◌, ◌≤◌, true, length}
use Rattle.std.specs.Str.{all_ascii_digits}
use Rattle.std.specs.Str.Parse.{digits_value}
use Rattle.pcef_filter.specs.Tokens.{Token}

-- The token is a decimal number of 1 to `most_digits` digits. Leading zeros count as digits and
-- change nothing (own choice).
pub record IsNumber (most_digits : ℕ) (token : Token) (number : ℕ) : Type 0 where
  pub some : 0 < length token
  pub few : length token ≤ most_digits
  pub digits : all_ascii_digits token ≡ true
  pub value : number ≡ digits_value 10 token
