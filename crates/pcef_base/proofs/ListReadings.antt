-- Reading the items of a list in a loop: those before an index were read, and the rest is still to be read.
use Rattle.std.proofs.Common.{inl, inr, ◌≡◌, ℕ, ◌+◌, ◌<◌, ◌≤◌, List, [], ◌∷◌, ◌++◌, length, drop, get_or, Result, Ok, Err, refl, sym, ap, ◌∙◌, append_assoc}
use Rattle.std.specs.Prelude.{◌⊎◌}
use Rattle.std.proofs.lemmas.List.{append-nil, at_drop_more, at_drop_all}
use Rattle.pcef_base.specs.Readings.{◌>>=◌}

abbrev pub each : {X A E : Type 0} → (X → Result A E) → List X → Result (List A) E
each reading [] = Ok []
each reading (x ∷ xs) = reading x >>= λ first. each reading xs >>= λ others. Ok (first ∷ others)

abbrev pub after : {A E : Type 0} → List A → Result (List A) E → Result (List A) E
after front rest = rest >>= λ others. Ok (front ++ others)

abbrev pub IsReadTo : {X A E : Type 0} → (X → Result A E) → List X → ℕ → List A → Result (List A) E → Type 0
IsReadTo reading xs i front whole = after front (each reading (drop i xs)) ≡ whole

one_more : {A E : Type 0} (front : List A) (a : A) (rest : Result (List A) E) → after front (rest >>= λ others. Ok (a ∷ others)) ≡ after (front ++ a ∷ []) rest
one_more {A} front a (Ok others) = ap (λ (all : List A). Ok all) (simp append_assoc)
one_more front a (Err e) = refl

at_index : {X A E : Type 0} (reading : X → Result A E) (xs : List X) (i : ℕ) (x : X) → i < length xs → x ≡ get_or xs i x → each reading (drop i xs) ≡ (reading x >>= λ first. each reading (drop (i + 1) xs) >>= λ others. Ok (first ∷ others))
at_index reading xs i x lt is = at_drop_more (each reading) xs i x lt ∙ ap (λ y. reading y >>= λ first. each reading (drop (i + 1) xs) >>= λ others. Ok (first ∷ others)) (sym is)

pub begins : {X A E : Type 0} (reading : X → Result A E) (xs : List X) (whole : Result (List A) E) → each reading xs ≡ whole → IsReadTo reading xs 0 [] whole
begins reading xs (Ok all) is = rw is refl
begins reading xs (Err e) is = rw is refl

pub goes_on : {X A E : Type 0} (reading : X → Result A E) (xs : List X) (i : ℕ) (x : X) (front : List A) (a : A) (whole : Result (List A) E) → i < length xs → x ≡ get_or xs i x → reading x ≡ Ok a
    → IsReadTo reading xs i front whole → IsReadTo reading xs (i + 1) (front ++ a ∷ []) whole
goes_on reading xs i x front a whole lt is read so_far =
    let step : after front (each reading (drop i xs)) ≡ after (front ++ a ∷ []) (each reading (drop (i + 1) xs)) = rw (at_index reading xs i x lt is, read) (one_more front a (each reading (drop (i + 1) xs))) in
    sym step ∙ so_far

-- a fault is the whole list's, unless memory ran out
pub stops : {X A E : Type 0} (no_memory e : E) (reading : X → Result A E) (xs : List X) (i : ℕ) (x : X) (front : List A) (whole : Result (List A) E) → i < length xs → x ≡ get_or xs i x → (e ≡ no_memory) ⊎ (reading x ≡ Err e)
    → IsReadTo reading xs i front whole → (e ≡ no_memory) ⊎ (whole ≡ Err e)
stops no_memory e reading xs i x front whole lt is (inl none) so_far = inl none
stops no_memory e reading xs i x front whole lt is (inr fault) so_far =
    let step : after front (each reading (drop i xs)) ≡ Err e = rw (at_index reading xs i x lt is, fault) refl in
    inr (sym so_far ∙ step)

pub is_done : {X A E : Type 0} (reading : X → Result A E) (xs : List X) (i : ℕ) (front : List A) (whole : Result (List A) E) → length xs ≤ i → IsReadTo reading xs i front whole → whole ≡ Ok front
is_done {X} {A} reading xs i front whole le so_far =
    let step : after front (each reading (drop i xs)) ≡ Ok front = rw (at_drop_all (each reading) xs i le) (ap (λ (all : List A). Ok all) (append-nil front)) in
    sym so_far ∙ step
