-- Words that get more bits.
use Rattle.std.proofs.Common.{◌≡◌, ◌<◌, ◌≤◌, ◌-◌, ◌*◌, ◌%◌, ◌^◌, ◌∙◌, ℕ, List, [], length, get_or, refl, arith, inl, inr, ap}
use Rattle.std.proofs.Math.ListN.{set}
use Rattle.std.specs.Int.{bit_at, bit_not, trailing_zeros, w64}
use Rattle.std.specs.Int.Bits.{bit_and, bit_or}
use Rattle.std.proofs.lemmas.Bool.{cases_eq, cases_lt}
use Rattle.std.proofs.lemmas.List.{get_or-set_same, get_or-set_other, length-set}
use Rattle.std.proofs.lemmas.Nat.{and_le_l, one_shl, or_lt, pow_below, pow_pos}
use Rattle.std.proofs.lemmas.Nat.Bits.{bit_at_and, bit_at_clear_same, bit_at_or, bit_at-lt, bit_at_not, bit_at_ones, bit_at_ones_above, bit_at-pow_other, bit_at-pow_same, bit_at_set_same, bit_at-trailing_zeros, bit_at-zero}
use Rattle.pcef_index.specs.private.Words.{Grows, Has}

pub and_has : (a b i : ℕ) → bit_at a i ≡ 1 → bit_at b i ≡ 1 → bit_at (bit_and a b) i ≡ 1
and_has a b i x y =
    let e = bit_at_and a b i in
    omega arith

-- a bit of the one word, and of the other, is a bit of both together
pub or_keeps : (a b i : ℕ) → bit_at a i ≡ 1 → bit_at (bit_or a b) i ≡ 1
or_keeps a b i has =
    let e = bit_at_or a b i in
    let l = bit_at-lt b i in
    omega arith

pub or_adds : (a b i : ℕ) → bit_at b i ≡ 1 → bit_at (bit_or a b) i ≡ 1
or_adds a b i has =
    let e = bit_at_or a b i in
    let l = bit_at-lt a i in
    omega arith

-- the full word has each bit
pub full_has : (i : ℕ) → i < 64 → bit_at 18446744073709551615 i ≡ 1
full_has i small = bit_at_ones 64 i small

-- no word has no bit
pub none_has : (k i : ℕ) → Has [] k i → ⊥
none_has k i has = let none = bit_at-zero i in omega arith

pub same_grows : (words : List ℕ) → Grows words words
same_grows words = record { long = refl; keeps = λ k i has. has }

pub then_grows : {old mid new : List ℕ} → Grows old mid → Grows mid new → Grows old new
then_grows {old} {mid} {new} a b = record { long = b.long ∙ a.long; keeps = λ k i has. b.keeps k i (a.keeps k i has) }

-- the word with one more bit
abbrev pub with_bit : ℕ → ℕ → ℕ
with_bit word bit = bit_or word (1 * 2 ^ bit % 2 ^ 64)

-- words, of which one gets one more bit
abbrev pub marked : List ℕ → ℕ → ℕ → List ℕ
marked words j bit = set words j (with_bit (get_or words j 0) bit)

pub mark_grows : (words : List ℕ) (j bit : ℕ) → j < length words → Grows words (marked words j bit)
mark_grows words j bit within = record {
  long = length-set words j (with_bit (get_or words j 0) bit);
  keeps = λ k i has. elim (cases_eq k j) [
    | inl same ↦
        (let e = get_or-set_same words j (with_bit (get_or words j 0) bit) 0 within in
        rw (same, e) (or_keeps (get_or words j 0) (1 * 2 ^ bit % 2 ^ 64) i (rw same at has)))
    | inr other ↦ rw (get_or-set_other words j k (with_bit (get_or words j 0) bit) 0 other) has
  ];
}

pub mark_has : (words : List ℕ) (j bit : ℕ) → bit < 64 → j < length words → Has (marked words j bit) j bit
mark_has words j bit small within =
    rw (get_or-set_same words j (with_bit (get_or words j 0) bit) 0 within) (bit_at_set_same w64 (get_or words j 0) bit small)

-- a word without its lowest bit
abbrev pub without_lowest : ℕ → ℕ
without_lowest n = bit_and n (bit_not w64 (1 * 2 ^ trailing_zeros w64 n % 2 ^ 64))

pub lowest_smaller : (n : ℕ) → 0 < n → n < 2 ^ 64 → without_lowest n < n
lowest_smaller n positive fits =
    let low = bit_at-trailing_zeros w64 n positive fits in
    let below : without_lowest n ≤ n = and_le_l n (bit_not w64 (1 * 2 ^ trailing_zeros w64 n % 2 ^ 64)) in
    elim (cases_lt (without_lowest n) n) [
      | inl less ↦ less
      | inr more ↦
          (let same : without_lowest n ≡ n = omega arith in
          let gone = bit_at_clear_same w64 n (trailing_zeros w64 n) low.0 in
          let there : bit_at (without_lowest n) (trailing_zeros w64 n) ≡ 1 = ap (λ (m : ℕ). bit_at m (trailing_zeros w64 n)) same ∙ low.1 in
          absurd (omega arith))
    ]

-- the bits up to one
abbrev pub up_to : ℕ → ℕ
up_to k = bit_or (1 * 2 ^ k % 2 ^ 64) (1 * 2 ^ k % 2 ^ 64 - 1)

up_to_is : (k : ℕ) → k < 64 → up_to k ≡ bit_or (2 ^ k) (2 ^ k - 1)
up_to_is k small = ap (λ (n : ℕ). bit_or n (n - 1)) (one_shl k 64 small)

up_to_fits : (k : ℕ) → k < 64 → up_to k < 2 ^ 64
up_to_fits k small =
    let less = pow_below k 64 small in
    let some = pow_pos k in
    let fits = or_lt 64 (2 ^ k) (2 ^ k - 1) less (omega (arith, less)) in
    omega (arith, up_to_is k small, fits)

up_to_has : (k i : ℕ) → k < 64 → i ≤ k → bit_at (up_to k) i ≡ 1
up_to_has k i small most =
    let all = bit_at_or (2 ^ k) (2 ^ k - 1) i in
    let least = bit_at-lt (2 ^ k) i in
    let other = bit_at-lt (2 ^ k - 1) i in
    ap (λ (n : ℕ). bit_at n i) (up_to_is k small)
    ∙ elim (cases_eq i k) [
      | inl same ↦ (let top : bit_at (2 ^ k) i ≡ 1 = ap (bit_at (2 ^ k)) same ∙ bit_at-pow_same k in omega (arith, all, top, other))
      | inr apart ↦ (let low = bit_at_ones k i (omega (arith, most, apart)) in omega (arith, all, low, least))
    ]

up_to_lacks : (k i : ℕ) → k < 64 → k < i → bit_at (up_to k) i ≡ 0
up_to_lacks k i small more =
    let all = bit_at_or (2 ^ k) (2 ^ k - 1) i in
    let top = bit_at-pow_other k i (omega (arith, more)) in
    let low = bit_at_ones_above k i (omega (arith, more)) in
    ap (λ (n : ℕ). bit_at n i) (up_to_is k small) ∙ omega (arith, all, top, low)

-- a word without its bits up to one
pub above_keeps : (n k i : ℕ) → k < 64 → i < 64 → k < i → bit_at n i ≡ 1 → bit_at (bit_and n (bit_not w64 (up_to k))) i ≡ 1
above_keeps n k i small within more has =
    let other = bit_at_not w64 (up_to k) i (up_to_fits k small) within in
    let lacks = up_to_lacks k i small more in
    and_has n (bit_not w64 (up_to k)) i has (omega (arith, other, lacks))

pub above_clears : (n k i : ℕ) → k < 64 → i ≤ k → bit_at (bit_and n (bit_not w64 (up_to k))) i ≡ 0
above_clears n k i small most =
    let other = bit_at_not w64 (up_to k) i (up_to_fits k small) (omega (arith, small, most)) in
    let has = up_to_has k i small most in
    let both = bit_at_and n (bit_not w64 (up_to k)) i in
    omega (arith, both, other, has)
