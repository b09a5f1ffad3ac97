-- The bits in which two numbers differ.
use Rattle.std.proofs.Common.{◌≡◌, ◌/◌, ◌^◌, ◌==◌, ◌∙◌, ℕ, refl, sym, ap, arith, inl, inr}
use Rattle.std.specs.Int.{bit_at}
use Rattle.std.specs.Int.Bits.{bit_xor, xor_self}
use Rattle.std.proofs.lemmas.Bool.{cases_Bool, eqb-false, eqb-true, ne_eqb}
use Rattle.std.proofs.lemmas.Nat.{xor_shr}
use Rattle.std.proofs.lemmas.Nat.Bits.{bit_at-lt, bit_at-zero, bit_at_xor, same_from_bits}

none_differs : (a b : ℕ) → bit_xor a b ≡ 0 → a ≡ b
none_differs a b none =
    same_from_bits a b (λ i. omega (arith, bit_at_xor a b i, ap (λ (n : ℕ). bit_at n i) none, bit_at-zero i, bit_at-lt a i, bit_at-lt b i))

differ_in : (a b : ℕ) → (bit_xor a b == 0) ≡ (a == b)
differ_in a b =
    elim (cases_Bool (a == b)) [
      | inl same ↦ rw (same, eqb-true a b same, xor_self b) refl
      | inr other ↦ rw other (ne_eqb (bit_xor a b) 0 (λ none. eqb-false a b other (none_differs a b none)))
    ]

-- two numbers differ in none of their first bits just where these are equal
pub same_in_front : (a b k : ℕ) → ((bit_xor a b / 2 ^ k) == 0) ≡ ((a / 2 ^ k) == (b / 2 ^ k))
same_in_front a b k = rw (xor_shr a b k) (differ_in (a / 2 ^ k) (b / 2 ^ k))
