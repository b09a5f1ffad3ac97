-- Totals of ledgers, place by place.
use Rattle.std.proofs.Common.{◌≡◌, ◌≢◌, ◌∙◌, ◌<◌, ◌+◌, ◌==◌, ℕ, List, length, sym, ap, arith, inl, inr, get_or, get_or-set_same, get_or-set_other, length-set, if◌then◌else◌, add-zero}
use Rattle.std.proofs.lemmas.List.{set-get_or}
use Rattle.std.proofs.Math.ListN.{set}
use Rattle.std.proofs.lemmas.Bool.Decides.{eqb_tells}
use Rattle.pcef_share.specs.Amounts.{plus}

pub get_plus : (t : List ℕ) (i n k : ℕ) → k < length t → get_or (plus t i n) k 0 ≡ get_or t k 0 + (if k == i then n else 0)
get_plus t i n k inside =
    elim (eqb_tells k i) [
      | inl p ↦
          let within : i < length t = omega (arith, p.1, inside) in
          let at : get_or (plus t i n) i 0 ≡ get_or t i 0 + n = get_or-set_same t i _ 0 within in
          let put : get_or (plus t i n) k 0 ≡ get_or (plus t i n) i 0 = ap (λ x. get_or (plus t i n) x 0) p.1 in
          let had : get_or t k 0 ≡ get_or t i 0 = ap (λ x. get_or t x 0) p.1 in
          rw p.0 (omega (arith, put, at, had))
      | inr p ↦ rw p.0 (get_or-set_other t i k _ 0 p.1 ∙ sym (add-zero _))
    ]

pub length_plus : (t : List ℕ) (i n : ℕ) → length (plus t i n) ≡ length t
length_plus t i n = length-set t i _

pub plus_other : (t : List ℕ) (i n k : ℕ) → k ≢ i → get_or (plus t i n) k 0 ≡ get_or t k 0
plus_other t i n k differ = get_or-set_other t i k _ 0 differ

pub plus_same : (t : List ℕ) (i n : ℕ) → i < length t → get_or (plus t i n) i 0 ≡ get_or t i 0 + n
plus_same t i n inside = get_or-set_same t i _ 0 inside

-- nothing more
pub plus_none : (t : List ℕ) (i : ℕ) → plus t i 0 ≡ t
plus_none t i =
    let same : get_or t i 0 + 0 ≡ get_or t i 0 = omega arith in
    ap (λ x. set t i x) same ∙ set-get_or t i 0
