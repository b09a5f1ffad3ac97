-- What stands at a place of a list, and the slots of keys.
use Rattle.std.proofs.Common.{◌≡◌, ◌∙◌, ◌≤◌, ◌<◌, ℕ, zero, suc, false, List, [], ◌∷◌, ◌++◌, length, refl, sym, ap, arith, inl, inr, Some, None}
use Rattle.std.specs.Prelude.{slice_get}
use Rattle.std.proofs.lemmas.Bool.{cases_Bool, cases_lt}
use Rattle.pcef_model.specs.Commands.{is_among}
use Rattle.pcef_model.specs.Slots.{place_of}
use Rattle.pcef_model.proofs.SlotPlaces.{Grows, place_grown}
use Rattle.pcef_model.proofs.SlotsLater.{place_within}
use Rattle.pcef_model.proofs.SlotsOf.{StandOnce}

-- ---- what stands at a place
pub get_left : {X : Type 0} (xs ys : List X) (n : ℕ) → n < length xs → slice_get (xs ++ ys) n ≡ slice_get xs n
get_left [] ys n inside = absurd (omega (arith, inside))
get_left (x ∷ xs) ys zero inside = refl
get_left (x ∷ xs) ys (suc n) inside = get_left xs ys n (omega (arith, inside))

pub get_end : {X : Type 0} (xs : List X) (y : X) → slice_get (xs ++ y ∷ []) (length xs) ≡ Some y
get_end [] y = refl
get_end (x ∷ xs) y = get_end xs y

pub get_past : {X : Type 0} (xs : List X) (n : ℕ) → length xs ≤ n → slice_get xs n ≡ None
get_past [] n past = refl
get_past (x ∷ xs) zero past = absurd (omega (arith, past))
get_past (x ∷ xs) (suc n) past = get_past xs n (omega (arith, past))

pub get_within : {X : Type 0} (xs : List X) (n : ℕ) (x : X) → slice_get xs n ≡ Some x → n < length xs
get_within [] n x is = absurd cc
get_within (y ∷ xs) zero x is = omega arith
get_within (y ∷ xs) (suc n) x is = omega (arith, get_within xs n x is)

pub get_there : {X : Type 0} (xs : List X) (n : ℕ) → n < length xs → (x : X) × (slice_get xs n ≡ Some x)
get_there [] n inside = absurd (omega (arith, inside))
get_there (x ∷ xs) zero inside = (x, refl)
get_there (x ∷ xs) (suc n) inside = get_there xs n (omega (arith, inside))

-- ---- keys and their places
-- a key past the first ones isn't among them
pub past_among : (keys all : List (List ℕ)) (n : ℕ) (key : List ℕ) → Grows keys all → StandOnce all → length keys ≤ n → slice_get all n ≡ Some key → is_among key keys ≡ false
past_among keys all n key grows once past is =
    elim (cases_Bool (is_among key keys)) [
      | inr absent ↦ absent
      | inl there ↦
          let at : place_of key all ≡ Some n = once n key is in
          let here : place_of key keys ≡ Some n = sym (place_grown key keys grows.0 there) ∙ ap (place_of key) (sym grows.1) ∙ at in
          absurd (omega (arith, past, place_within key keys n here))
    ]

-- where none stands, the list has ended
pub past_none : {X : Type 0} (xs : List X) (n : ℕ) → slice_get xs n ≡ None → length xs ≤ n
past_none xs n none =
    elim (cases_lt n (length xs)) [
      | inl inside ↦ let there = get_there xs n inside in absurd (let e = there.1 in cc)
      | inr past ↦ past
    ]
