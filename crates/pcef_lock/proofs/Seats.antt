-- The subscriber of the next worker.
use Rattle.std.proofs.Common.{◌≡◌, ◌∙◌, ◌<◌, ◌-◌, ℕ, zero, suc, List, [], ◌∷◌, ◌++◌, length, refl, sym, ap, arith, Some, length-set}
use Rattle.std.specs.Prelude.{slice_get, slice_set}
use Rattle.std.proofs.lemmas.List.{length_push}
use Rattle.pcef_lock.proofs.Places.{get_end}

set_here : {X : Type 0} (xs : List X) (n : ℕ) (x : X) → n < length xs → slice_get (slice_set xs n x) n ≡ Some x
set_here [] n x inside = absurd (omega (arith, inside))
set_here (y ∷ xs) zero x inside = refl
set_here (y ∷ xs) (suc n) x inside = set_here xs n x (omega (arith, inside))

some_same : {X : Type 0} (x y : X) → Some x ≡ Some y → x ≡ y
some_same x y same = cc

-- the next worker's is the last one, which just took the newest table
pub next_is_ready : {X : Type 0} (old ready rest : List X) (newest next : X) → 0 < length old → ready ≡ slice_set old (length old - 1) newest → ready ≡ rest ++ next ∷ [] → next ≡ newest
next_is_ready old ready rest newest next some set popped =
    let count : length ready ≡ length old = ap length set ∙ length-set old (length old - 1) newest in
    let last : length rest ≡ length old - 1 = omega (arith, count, ap length popped, length_push rest next) in
    let here : slice_get ready (length old - 1) ≡ Some newest = ap (λ xs. slice_get xs (length old - 1)) set ∙ set_here old (length old - 1) newest (omega (arith, some)) in
    let there : slice_get ready (length rest) ≡ Some next = ap (λ xs. slice_get xs (length rest)) popped ∙ get_end rest next in
    some_same next newest (sym there ∙ ap (slice_get ready) last ∙ here)
