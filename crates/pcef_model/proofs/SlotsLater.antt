-- A row goes on counting for the keys of its slots as the journal grows.
use Rattle.std.proofs.Common.{◌≡◌, ◌∙◌, ◌≤◌, ◌<◌, ℕ, suc, true, false, List, [], ◌∷◌, ◌++◌, length, refl, sym, ap, ap₂, arith, inl, inr, Some, None, ◌==◌, length-append}
use Rattle.std.specs.Prelude.{Bool, Option, ◌||◌, if◌then◌else◌, slice_get, zero}
use Rattle.std.specs.Option.{option_map, option_map_or}
use Rattle.std.proofs.lemmas.Bool.{cases_Bool, cases_lt, eqb-true, false_from_ne_true}
use Rattle.std.proofs.lemmas.Option.{slice_get_past}
use Rattle.pcef_rule.specs.declared.quantity.Slot.{Slot}
use Rattle.pcef_model.specs.declared.row.Row.{Row}
use Rattle.pcef_model.specs.Setting.{Setting, same_name}
use Rattle.pcef_model.specs.Commands.{is_among}
use Rattle.pcef_model.specs.Entries.{Journal}
use Rattle.pcef_model.specs.Journals.{at, counts, counts_in, slots, tables}
use Rattle.pcef_model.specs.Slots.{AreSlotsBelow, CountsFor, place_of}
use Rattle.pcef_model.proofs.SlotPlaces.{Grows, place_grown, place_there}
use Rattle.pcef_model.proofs.SlotWords.{IsWithin, has_one_of, is_at}
use Rattle.pcef_model.proofs.SlotsOf.{slots_once}
use Rattle.pcef_model.proofs.Strangers.{stranger_counts}

-- a key that isn't there has no place
place_none : (key : List ℕ) (keys : List (List ℕ)) → is_among key keys ≡ false → place_of key keys ≡ None
place_none key [] absent = refl
place_none key (k ∷ keys) absent =
    elim (cases_Bool (same_name key k)) [
      | inl same ↦ let there : is_among key (k ∷ keys) ≡ true = rw same refl in cc
      | inr differs ↦ let later : is_among key keys ≡ false = rw differs at absent in rw (differs, place_none key keys later) refl
    ]

-- its place is past those that were there before it
place_past : (key : List ℕ) (keys more : List (List ℕ)) (n : ℕ) → is_among key keys ≡ false → place_of key (keys ++ more) ≡ Some n → length keys ≤ n
place_past key [] more n absent is = omega arith
place_past key (k ∷ keys) more n absent is =
    elim (cases_Bool (same_name key k)) [
      | inl same ↦ let there : is_among key (k ∷ keys) ≡ true = rw same refl in cc
      | inr differs ↦
          let later : is_among key keys ≡ false = rw differs at absent in
          from (place_of key (keys ++ more)) (rw differs at is) (λ m some. place_past key keys more m later some)
    ]
  where
    from : (o : Option ℕ) → option_map (λ m. suc m) o ≡ Some n → ((m : ℕ) → o ≡ Some m → length keys ≤ m) → suc (length keys) ≤ n
    from None past below = absurd cc
    from (Some m) past below =
        let least = below m refl in
        let next : suc m ≡ n = cc in omega (arith, least, next)

pub place_within : (key : List ℕ) (keys : List (List ℕ)) (n : ℕ) → place_of key keys ≡ Some n → n < length keys
place_within key [] n is = absurd cc
place_within key (k ∷ keys) n is =
    elim (cases_Bool (same_name key k)) [
      | inl same ↦ let first : Some 0 ≡ Some n = rw same at is in (let zero_is : 0 ≡ n = cc in omega (arith, zero_is))
      | inr differs ↦ from (place_of key keys) (rw differs at is) (λ m some. place_within key keys m some)
    ]
  where
    from : (o : Option ℕ) → option_map (λ m. suc m) o ≡ Some n → ((m : ℕ) → o ≡ Some m → m < length keys) → n < suc (length keys)
    from None past below = absurd cc
    from (Some m) past below =
        let most = below m refl in
        let next : suc m ≡ n = cc in omega (arith, most, next)

-- a slot stays its key's as keys come
slot_grown : (keys more : List (List ℕ)) (n : ℕ) (key : List ℕ) → n < length keys → is_at (place_of key (keys ++ more)) n ≡ is_at (place_of key keys) n
slot_grown keys more n key within =
    elim (cases_Bool (is_among key keys)) [
      | inl there ↦ ap (λ o. is_at o n) (place_grown key keys more there)
      | inr absent ↦ from (place_of key (keys ++ more)) refl absent ∙ sym (ap (λ o. is_at o n) (place_none key keys absent))
    ]
  where
    from : (o : Option ℕ) → place_of key (keys ++ more) ≡ o → is_among key keys ≡ false → is_at (place_of key (keys ++ more)) n ≡ false
    from None none absent = ap (λ o. is_at o n) none
    from (Some m) some absent =
        ap (λ o. is_at o n) some ∙ false_from_ne_true (m == n) (λ same.
        let past = place_past key keys more m absent some in
        let is = eqb-true m n same in absurd (omega (arith, past, within, is)))

-- slots that are less than a number are less than a greater one
pub below_more : (m n : ℕ) (own : List Slot) → m ≤ n → AreSlotsBelow m own → AreSlotsBelow n own
below_more m n [] more below = tt
below_more m n (slot ∷ own) more below = (omega (arith, more, below.0), below.1, below_more m n own more below.2)

-- slots of keys stay such as keys come
pub within_grown : (keys all : List (List ℕ)) (own : List Slot) → Grows keys all → IsWithin keys own → IsWithin all own
within_grown keys all own grows within = below_more (length keys) (length all) own (omega (arith, ap length grows.1, length-append keys grows.0)) within

pub slots_grown : (keys all : List (List ℕ)) (own : List Slot) (key : List ℕ) → Grows keys all → IsWithin keys own → has_one_of all own key ≡ has_one_of keys own key
slots_grown keys all [] key grows within = refl
slots_grown keys all (slot ∷ own) key grows within =
    ap₂ (λ a b. a || b) (ap (λ ks. is_at (place_of key ks) slot.0) grows.1 ∙ slot_grown keys grows.0 slot.0 key within.0) (slots_grown keys all own key grows within.2)

get_left : {X : Type 0} (xs ys : List X) (n : ℕ) → n < length xs → slice_get (xs ++ ys) n ≡ slice_get xs n
get_left [] ys n inside = absurd (omega (arith, inside))
get_left (x ∷ xs) ys zero inside = refl
get_left (x ∷ xs) ys (suc n) inside = get_left xs ys n (omega (arith, inside))

-- a row that counts for the keys of its slots goes on doing so
pub counts_later : (p : Setting) (j k : Journal) (r : Row) (own : List Slot) → at p k r.generation ≡ at p j r.generation → Grows (slots p j) (slots p k) → CountsFor p j r own → CountsFor p k r own
counts_later p j k r own same grows are n = are n ∙ ap (λ (b : Bool). if b then 1 else 0) (sym (from (slice_get (slots p k) n) refl))
  where
    counting : (key : List ℕ) → counts p k key r ≡ counts p j key r
    counting key = ap (λ g. counts_in p g key r.header) same

    -- a key that came later counts for nothing
    late : (key : List ℕ) → slice_get (slots p k) n ≡ Some key → length (slots p j) ≤ n → counts p j key r ≡ false
    late key some past =
        stranger_counts p j key r (false_from_ne_true (is_among key (slots p j)) (λ there.
        let first = place_there key (slots p j) there in
        let now_at : place_of key (slots p k) ≡ Some first.0 = ap (place_of key) grows.1 ∙ place_grown key (slots p j) grows.0 there ∙ first.1 in
        let one : Some first.0 ≡ Some n = sym now_at ∙ slots_once p (tables k) n key some in
        let e : first.0 ≡ n = cc in
        let inside = place_within key (slots p j) first.0 first.1 in absurd (omega (arith, e, inside, past))))

    early : n < length (slots p j) → slice_get (slots p k) n ≡ slice_get (slots p j) n
    early inside = ap (λ ks. slice_get ks n) grows.1 ∙ get_left (slots p j) grows.0 n inside

    from : (o : Option (List ℕ)) → slice_get (slots p k) n ≡ o → option_map_or (λ key. counts p k key r) (slice_get (slots p k) n) false ≡ option_map_or (λ key. counts p j key r) (slice_get (slots p j) n) false
    from o is =
        elim (cases_lt n (length (slots p j))) [
          | inl inside ↦ ap (λ x. option_map_or (λ key. counts p k key r) x false) (early inside) ∙ each (slice_get (slots p j) n)
          | inr past ↦ beyond o is past ∙ sym (ap (λ x. option_map_or (λ key. counts p j key r) x false) (slice_get_past (slots p j) n past))
        ]
      where
        each : (x : Option (List ℕ)) → option_map_or (λ key. counts p k key r) x false ≡ option_map_or (λ key. counts p j key r) x false
        each None = refl
        each (Some key) = counting key

        beyond : (x : Option (List ℕ)) → slice_get (slots p k) n ≡ x → length (slots p j) ≤ n → option_map_or (λ key. counts p k key r) (slice_get (slots p k) n) false ≡ false
        beyond None none past = ap (λ x. option_map_or (λ key. counts p k key r) x false) none
        beyond (Some key) some past = ap (λ x. option_map_or (λ key. counts p k key r) x false) some ∙ counting key ∙ late key some past
