-- The table of digits, and pairs of digits.
use Rattle.std.proofs.Common.{◌≡◌, ◌∙◌, ℕ, zero, suc, ◌+◌, ◌*◌, ◌-◌, ◌<◌, ◌≤◌, ◌&&◌, nat_le, Bool, true, false, if◌then◌else◌, List, [], ◌∷◌, get_or, Option, Some, None, refl, ap, arith}
use Rattle.std.specs.Prelude.{IfSome, MatchOption, Result, Ok, Err}
use Rattle.std.proofs.lemmas.Bool.Decides.{nat_tests}
use Rattle.hex.specs.Hex.{digit_or_error, hex_digit_value, pair_value, ◌>>=◌}
use Rattle.hex.specs.declared.error.FromHexError.{FromHexError}
use Rattle.hex.specs.declared.error.FromHexError.TheVariants.{InvalidHexCharacter}

abbrev or_256 : Option ℕ → ℕ
or_256 (Some v) = v
or_256 None = 256

-- the values of `n` codes, from `a` on
abbrev pub values_from : ℕ → ℕ → List ℕ
values_from a zero = []
values_from a (suc n) = or_256 (hex_digit_value a) ∷ values_from (a + 1) n

value_at : (n a k : ℕ) → k < n → get_or (values_from a n) k 0 ≡ or_256 (hex_digit_value (a + k))
value_at zero a k lt = let never : ⊥ = omega arith in absurd never
value_at (suc n) a zero lt = let same : a ≡ a + 0 = omega arith in ap (λ c. or_256 (hex_digit_value c)) same
value_at (suc n) a (suc k) lt =
    let same : (a + 1) + k ≡ a + suc k = omega arith in
    value_at n (a + 1) k (omega arith) ∙ ap (λ c. or_256 (hex_digit_value c)) same

small_by : (a b d : Bool) (x y z : ℕ) → (a ≡ true → x < 16) → (b ≡ true → y < 16) → (d ≡ true → z < 16) → IfSome (if a then Some x else if b then Some y else if d then Some z else None) (λ v. v < 16)
small_by true b d x y z f g h = f refl
small_by false true d x y z f g h = g refl
small_by false false true x y z f g h = h refl
small_by false false false x y z f g h = tt

small : (c : ℕ) → IfSome (hex_digit_value c) (λ v. v < 16)
small c =
    small_by (nat_le 65 c && nat_le c 70) (nat_le 97 c && nat_le c 102) (nat_le 48 c && nat_le c 57) (c - 55) (c - 87) (c - 48)
    (λ e. grind (arith, nat_tests)) (λ e. grind (arith, nat_tests)) (λ e. grind (arith, nat_tests))

value_of : (c v : ℕ) → c < 256 → v ≡ get_or (values_from 0 256) c 0 → v ≡ or_256 (hex_digit_value c)
value_of c v lt is =
    let same : 0 + c ≡ c = omega arith in
    is ∙ value_at 256 0 c lt ∙ ap (λ n. or_256 (hex_digit_value n)) same

is_by : (o : Option ℕ) (v : ℕ) → IfSome o (λ d. d < 16) → v ≡ or_256 o → MatchOption o (v ≡ 256) (λ d. (v ≡ d) × (d < 16))
is_by (Some d) v lt is = (is, lt)
is_by None v lt is = is

most_by : (o : Option ℕ) (v : ℕ) → IfSome o (λ d. d < 16) → v ≡ or_256 o → v ≤ 256
most_by (Some d) v lt is = omega (arith, lt, is)
most_by None v lt is = omega (arith, is)

pub digit_is : (c v : ℕ) → c < 256 → v ≡ get_or (values_from 0 256) c 0 → MatchOption (hex_digit_value c) (v ≡ 256) (λ d. (v ≡ d) × (d < 16))
digit_is c v lt is = is_by (hex_digit_value c) v (small c) (value_of c v lt is)

pub digit_most : (c v : ℕ) → c < 256 → v ≡ get_or (values_from 0 256) c 0 → v ≤ 256
digit_most c v lt is = most_by (hex_digit_value c) v (small c) (value_of c v lt is)

-- ---- pairs
abbrev pair_by : ℕ → ℕ → ℕ → Option ℕ → Option ℕ → Result ℕ FromHexError
pair_by high low i a b = digit_or_error high i a >>= (λ h. digit_or_error low (i + 1) b >>= (λ l. Ok (h * 16 + l)))

read_by : (high low i x y : ℕ) (a b : Option ℕ) → MatchOption a (x ≡ 256) (λ d. (x ≡ d) × (d < 16)) → MatchOption b (y ≡ 256) (λ d. (y ≡ d) × (d < 16)) → x * 16 + y < 256 → pair_by high low i a b ≡ Ok (x * 16 + y)
read_by high low i x y (Some h) (Some l) first second lt = rw (first.0, second.0) refl
read_by high low i x y (Some h) None first second lt = let never : ⊥ = omega (arith, second, lt) in absurd never
read_by high low i x y None b first second lt = let never : ⊥ = omega (arith, first, lt) in absurd never

refused_by : (high low i x y : ℕ) (a b : Option ℕ) → MatchOption a (x ≡ 256) (λ d. (x ≡ d) × (d < 16)) → MatchOption b (y ≡ 256) (λ d. (y ≡ d) × (d < 16)) → 256 ≤ x * 16 + y → (e : FromHexError) × (pair_by high low i a b ≡ Err e)
refused_by high low i x y (Some h) (Some l) first second le = let never : ⊥ = omega (arith, first.0, first.1, second.0, second.1, le) in absurd never
refused_by high low i x y (Some h) None first second le = (InvalidHexCharacter low (i + 1), refl)
refused_by high low i x y None b first second le = (InvalidHexCharacter high i, refl)

pub pair_read : (high low i x y : ℕ) → MatchOption (hex_digit_value high) (x ≡ 256) (λ d. (x ≡ d) × (d < 16)) → MatchOption (hex_digit_value low) (y ≡ 256) (λ d. (y ≡ d) × (d < 16)) → x * 16 + y < 256 → pair_value high low i ≡ Ok (x * 16 + y)
pair_read high low i x y first second lt = read_by high low i x y (hex_digit_value high) (hex_digit_value low) first second lt

pub pair_refused : (high low i x y : ℕ) → MatchOption (hex_digit_value high) (x ≡ 256) (λ d. (x ≡ d) × (d < 16)) → MatchOption (hex_digit_value low) (y ≡ 256) (λ d. (y ≡ d) × (d < 16)) → 256 ≤ x * 16 + y → (e : FromHexError) × (pair_value high low i ≡ Err e)
pair_refused high low i x y first second le = refused_by high low i x y (hex_digit_value high) (hex_digit_value low) first second le
