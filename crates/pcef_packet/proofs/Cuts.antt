-- Text that is cut at the first octet of a kind.
use Rattle.std.proofs.Common.{ℕ, suc, ◌≡◌, ◌+◌, ◌<◌, ◌∙◌, ◌++◌, ◌==◌, Bool, true, false, List, [], ◌∷◌, length, take, drop, slice_index, Option, Some, None, refl, sym, ap, arith, inl, inr}
use Rattle.std.specs.Prelude.{nat_lt}
use Rattle.std.specs.List.{list_any, position_or_len}
use Rattle.std.proofs.lemmas.Bool.{cases_Bool, eqb-true}
use Rattle.std.proofs.lemmas.Bool.Decides.{nat_tests}
use Rattle.std.proofs.lemmas.List.{append-nil, length-append}
use Rattle.std.proofs.lemmas.List.Sums.{split_at_first}
use Rattle.std.proofs.Math.Seq.{drop-append-add, take-append_seam}
use Rattle.pcef_packet.specs.AddressTexts.{cut_at}
use Rattle.pcef_packet.specs.Joined.{◌>>=◌}

-- ---- what was read of a value that was read
pub then_found : {X Y : Type 0} (o : Option X) (k : X → Option Y) (y : Y) → (o >>= k) ≡ Some y → (x : X) × (o ≡ Some x) × (k x ≡ Some y)
then_found None k y h = absurd (cc)
then_found (Some x) k y h = (x, refl, h)

-- the octet stands in the text
abbrev pub has : ℕ → List ℕ → Bool
has octet text = list_any (λ o. o == octet) text

-- an octet is itself
pub same_octet : (s : ℕ) → (s == s) ≡ true
same_octet s = grind (arith, nat_tests)

-- the first separator stands behind a front that has none
pub first_behind : (s : ℕ) (xs more : List ℕ) → has s xs ≡ false → position_or_len (λ o. o == s) (xs ++ more) ≡ length xs + position_or_len (λ o. o == s) more
first_behind s [] more h = omega arith
first_behind s (x ∷ xs) more h =
    elim (cases_Bool (x == s)) [
      | inl same ↦ absurd (let clash = rw same at h in cc)
      | inr other ↦ (let rest = first_behind s xs more (rw other at h) in rw (other, rest) (omega arith))
    ]

-- a text without a separator isn't cut
pub cut_none : (s : ℕ) (text : List ℕ) → has s text ≡ false → cut_at s text ≡ None
unfolding cut_at
cut_none s text clear =
    let at : position_or_len (λ o. o == s) text ≡ length text = ap (position_or_len (λ o. o == s)) (sym (append-nil text)) ∙ first_behind s text [] clear ∙ omega arith in
    let test : nat_lt (position_or_len (λ o. o == s) text) (length text) ≡ false = grind (arith, nat_tests) in
    rw test refl

-- one is cut behind a front that has none
pub cut_some : (s : ℕ) (front rest : List ℕ) → has s front ≡ false → cut_at s (front ++ (s ∷ rest)) ≡ Some (front, rest)
unfolding cut_at
cut_some s front rest clear =
    let here : position_or_len (λ o. o == s) (s ∷ rest) ≡ 0 = rw (same_octet s) refl in
    let at : position_or_len (λ o. o == s) (front ++ (s ∷ rest)) ≡ length front = first_behind s front (s ∷ rest) clear ∙ omega (arith, here) in
    let sum = length-append front (s ∷ rest) in
    let test : nat_lt (length front) (length (front ++ (s ∷ rest))) ≡ true = grind (arith, nat_tests) in
    let before : take (length front) (front ++ (s ∷ rest)) ≡ front = take-append_seam front (s ∷ rest) in
    let behind : drop (length front + 1) (front ++ (s ∷ rest)) ≡ rest = drop-append-add front (s ∷ rest) 1 in
    rw (at, test, before, behind) refl

some_pair : (a b c d : List ℕ) → ◌≡◌ {A = Option (List ℕ × List ℕ)} (Some (a, c)) (Some (b, d)) → (a ≡ b) × (c ≡ d)
some_pair a b c d h = (ap first h, ap second h)
  where
    first : Option (List ℕ × List ℕ) → List ℕ
    first None = a
    first (Some p) = p.0

    second : Option (List ℕ × List ℕ) → List ℕ
    second None = c
    second (Some p) = p.1

-- the parts of a text that was cut
pub cut_joined : (s : ℕ) (text front rest : List ℕ) → cut_at s text ≡ Some (front, rest) → text ≡ front ++ (s ∷ rest)
unfolding cut_at
cut_joined s text front rest h =
    elim (cases_Bool (nat_lt (position_or_len (λ o. o == s) text) (length text))) [
      | inl inside ↦
          (let place = less (position_or_len (λ o. o == s) text) (length text) inside in
          let parts = split_at_first (λ o. o == s) text 0 place in
          let both = some_pair (take (position_or_len (λ o. o == s) text) text) front (drop (position_or_len (λ o. o == s) text + 1) text) rest (rw inside at h) in
          let first = both.0 in
          let last = both.1 in
          let here = eqb-true (slice_index text (position_or_len (λ o. o == s) text)) s (at_first text place) in
          parts ∙ rw (first, last, here) refl)
      | inr none ↦ absurd (let clash = rw none at h in cc)
    ]
  where
    less : (a b : ℕ) → nat_lt a b ≡ true → a < b
    less a b h = grind (arith, nat_tests)

    at_first : (xs : List ℕ) → position_or_len (λ o. o == s) xs < length xs → (slice_index xs (position_or_len (λ o. o == s) xs) == s) ≡ true
    at_first [] h = absurd (omega arith)
    at_first (x ∷ xs) h =
        elim (cases_Bool (x == s)) [
          | inl stops ↦ rw stops stops
          | inr goes ↦ (let rest = at_first xs (let h' = rw goes at h in omega arith) in
              let one : 1 + position_or_len (λ o. o == s) xs ≡ suc (position_or_len (λ o. o == s) xs) = omega arith in
              rw (goes, one) rest)
        ]
