-- Digits of numbers that agree above some low bits.
use Rattle.std.proofs.Common.{◌≡◌, ◌<◌, ◌≤◌, ◌+◌, ◌-◌, ◌*◌, ◌/◌, ◌%◌, ◌^◌, ◌∙◌, ℕ, zero, suc, get_or, ap, refl, sym, arith}
use Rattle.std.proofs.Math.Nat.{div-div-eq-div-mul}
use Rattle.std.proofs.lemmas.Nat.{pow-add}
use Rattle.pcef_index.specs.private.Digits.{AgreeAbove, ArePlaces, digit_of, digit_place, digit_places}

-- numbers that agree in their first bits agree in those above fewer
pub front_agrees : (a b rest shift : ℕ) → rest ≤ shift → a / 2 ^ rest ≡ b / 2 ^ rest → a / 2 ^ shift ≡ b / 2 ^ shift
front_agrees a b rest shift less same =
    let sum : rest + (shift - rest) ≡ shift = omega arith in
    let split : 2 ^ rest * 2 ^ (shift - rest) ≡ 2 ^ shift = sym (pow-add 2 rest (shift - rest)) ∙ ap (λ (n : ℕ). 2 ^ n) sum in
    let one : (n : ℕ) → n / 2 ^ rest / 2 ^ (shift - rest) ≡ n / 2 ^ shift = λ n. div-div-eq-div-mul n (2 ^ rest) (2 ^ (shift - rest)) ∙ ap (λ (m : ℕ). n / m) split in
    sym (one a) ∙ ap (λ (n : ℕ). n / 2 ^ (shift - rest)) same ∙ one b

shifted : (n shift more : ℕ) → n / 2 ^ shift / 2 ^ more ≡ n / 2 ^ (shift + more)
shifted n shift more = div-div-eq-div-mul n (2 ^ shift) (2 ^ more) ∙ ap (λ (m : ℕ). n / m) (sym (pow-add 2 shift more))

-- what holds of each number below four
pub below_four : (P : ℕ → Type 0) → P 0 → P 1 → P 2 → P 3 → (n : ℕ) → n < 4 → P n
below_four P p0 p1 p2 p3 zero small = p0
below_four P p0 p1 p2 p3 (suc zero) small = p1
below_four P p0 p1 p2 p3 (suc (suc zero)) small = p2
below_four P p0 p1 p2 p3 (suc (suc (suc zero))) small = p3
below_four P p0 p1 p2 p3 (suc (suc (suc (suc n)))) small = absurd (omega arith)

-- the lowest digits of numbers that agree above some low bits agree there
abbrev LowAgree : ℕ → ℕ → ℕ → Type 0
LowAgree x y l = x / 2 ^ l ≡ y / 2 ^ l → x % 16 / 2 ^ l ≡ y % 16 / 2 ^ l

low_agree : (x y loose : ℕ) → loose < 4 → x / 2 ^ loose ≡ y / 2 ^ loose → x % 16 / 2 ^ loose ≡ y % 16 / 2 ^ loose
low_agree x y = below_four (LowAgree x y) (λ same. omega arith) (λ same. omega arith) (λ same. omega arith) (λ same. omega arith)

-- the digits of numbers that agree above some low bits agree above what is left of these
pub digits_agree : (n m loose k : ℕ) → n / 2 ^ loose ≡ m / 2 ^ loose → AgreeAbove (loose - 4 * k) (digit_of n k) (digit_of m k)
digits_agree n m loose k same small =
    let most : loose ≤ 4 * k + (loose - 4 * k) = omega arith in
    low_agree (n / 2 ^ (4 * k)) (m / 2 ^ (4 * k)) (loose - 4 * k) small
    (shifted n (4 * k) (loose - 4 * k) ∙ front_agrees n m loose (4 * k + (loose - 4 * k)) most same ∙ sym (shifted m (4 * k) (loose - 4 * k)))

-- the places of a number's digits, one by one
pub place_at : (n k : ℕ) → k < 8 → get_or (digit_places n) k 0 ≡ digit_place n k
place_at n zero small = refl
place_at n (suc zero) small = refl
place_at n (suc (suc zero)) small = refl
place_at n (suc (suc (suc zero))) small = refl
place_at n (suc (suc (suc (suc zero)))) small = refl
place_at n (suc (suc (suc (suc (suc zero))))) small = refl
place_at n (suc (suc (suc (suc (suc (suc zero)))))) small = refl
place_at n (suc (suc (suc (suc (suc (suc (suc zero))))))) small = refl
place_at n (suc (suc (suc (suc (suc (suc (suc (suc k)))))))) small = absurd (omega arith)

pub are_places : (n : ℕ) → ArePlaces (digit_places n)
are_places n k small = let e = place_at n k small in omega (arith, e, small)
