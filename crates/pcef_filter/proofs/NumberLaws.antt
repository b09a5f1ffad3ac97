-- Words and numbers: their readings give what the tokens spell.
use Rattle.std.proofs.Common.{ℕ, ◌≡◌, ◌≤◌, Bool, true, false, length, [], ◌∷◌, Option, Some, None, refl, sym, ap, ◌∙◌, arith}
use Rattle.std.specs.Prelude.{nat_lt, nat_le}
use Rattle.std.specs.Str.{all_ascii_digits}
use Rattle.std.specs.Str.Parse.{digits_value}
use Rattle.std.specs.Char.{is_ascii_digit}
use Rattle.std.proofs.lemmas.Option.{cond_some}
use Rattle.std.proofs.lemmas.Bool.Decides.{nat_tests}
use Rattle.std.proofs.lemmas.Slice.Eq.{bytes_eq-Decides}
use Rattle.pcef_filter.specs.Tokens.{Token, begins_with_digit}
use Rattle.pcef_filter.specs.Numbers.{IsNumber}
use Rattle.pcef_filter.specs.ReadingClasses.{is_word, and_then, number_in, up_to}

-- ---- words
pub word_is : (w t : Token) → is_word w t ≡ true → t ≡ w
word_is w t h = (bytes_eq-Decides t w).0 h

-- digits alone are no word that has another octet
pub not_word : (w t : Token) → all_ascii_digits w ≡ false → all_ascii_digits t ≡ true → is_word w t ≡ false
not_word w t other digits = go (is_word w t) refl
  where
    go : (b : Bool) → is_word w t ≡ b → is_word w t ≡ false
    go false differs = differs
    go true same =
        let clash : true ≡ false = sym digits ∙ ap all_ascii_digits (word_is w t same) ∙ other in absurd (cc)

-- ---- what was read of a value that was read
pub then_found : {X Y : Type 0} (o : Option X) (k : X → Option Y) (y : Y) → and_then o k ≡ Some y → (x : X) × (o ≡ Some x) × (k x ≡ Some y)
then_found None k y h = absurd (cc)
then_found (Some x) k y h = (x, refl, h)

-- ---- numbers
number_found : (most : ℕ) (t : Token) (n : ℕ) → number_in most t ≡ Some n → IsNumber most t n
unfolding number_in
number_found most t n h =
    let parted = cond_some _ (digits_value 10 t) n h in
    record { some = grind (arith, nat_tests); few = grind (arith, nat_tests); digits = grind (arith, nat_tests); value = sym parted.1 }

number_again : (most : ℕ) (t : Token) (n : ℕ) → IsNumber most t n → number_in most t ≡ Some n
unfolding number_in
number_again most t n h =
    let some : nat_lt 0 (length t) ≡ true = (let fact = h.some in grind (arith, nat_tests)) in
    let few : nat_le (length t) most ≡ true = (let fact = h.few in grind (arith, nat_tests)) in
    let digits : all_ascii_digits t ≡ true = h.digits in
    rw (some, few, digits) (ap (λ (k : ℕ). Some k) (sym h.value))

pub number_digit : (most : ℕ) (t : Token) (n : ℕ) → IsNumber most t n → begins_with_digit t ≡ true
unfolding begins_with_digit
number_digit most [] n h = let some = h.some in absurd (omega arith)
number_digit most (b ∷ bs) n h = go (is_ascii_digit b) refl
  where
    go : (v : Bool) → is_ascii_digit b ≡ v → is_ascii_digit b ≡ true
    go true is = is
    go false is = let clash = rw is at h.digits in absurd (cc)

-- ---- numbers up to a limit
limit_found : (limit : ℕ) (o : Option ℕ) (n : ℕ) → up_to limit o ≡ Some n → (o ≡ Some n) × (n ≤ limit)
limit_found limit None n h = absurd (cc)
limit_found limit (Some m) n h =
    let parted = cond_some (nat_le m limit) m n h in
    (ap (λ (k : ℕ). Some k) parted.1, (let test = parted.0 in let same = parted.1 in grind (arith, nat_tests)))

limit_again : (limit : ℕ) (n : ℕ) → n ≤ limit → up_to limit (Some n) ≡ Some n
limit_again limit n h = grind (arith, nat_tests)

pub limited_found : (most limit : ℕ) (t : Token) (n : ℕ) → up_to limit (number_in most t) ≡ Some n → IsNumber most t n × (n ≤ limit)
limited_found most limit t n h =
    let fact = limit_found limit (number_in most t) n h in (number_found most t n fact.0, fact.1)

pub limited_again : (most limit : ℕ) (t : Token) (n : ℕ) → IsNumber most t n → n ≤ limit → up_to limit (number_in most t) ≡ Some n
limited_again most limit t n h within = ap (up_to limit) (number_again most t n h) ∙ limit_again limit n within
