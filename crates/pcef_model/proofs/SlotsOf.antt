-- The slots of the keys that pass a test: slot by slot, and key by key.
use Rattle.std.proofs.Common.{◌≡◌, ◌∙◌, ◌≤◌, ◌<◌, ◌+◌, ◌==◌, ◌||◌, ℕ, zero, suc, Bool, true, false, List, [], ◌∷◌, ◌++◌, Some, None, length, refl, sym, ap, arith, inl, inr, if◌then◌else◌}
use Rattle.std.specs.Prelude.{Option, cond, slice_get}
use Rattle.std.specs.Option.{option_map, option_map_or}
use Rattle.std.specs.List.{count_by, list_any}
use Rattle.std.proofs.lemmas.Bool.{cases_Bool, cases_lt, eq-eqb, false_from_ne_true}
use Rattle.std.proofs.lemmas.Bool.Decides.{eqb_tells}
use Rattle.std.proofs.lemmas.List.Sums.{sum_by-cons}
use Rattle.std.proofs.lemmas.Option.{slice_get-get_or, slice_get_past, slice_get_within}
use Rattle.pcef_rule.specs.declared.quantity.Slot.{Slot}
use Rattle.pcef_model.specs.declared.command.Command.{Command}
use Rattle.pcef_model.specs.Setting.{Setting, same_name}
use Rattle.pcef_model.specs.Generations.{add_if_some, slots_of}
use Rattle.pcef_model.specs.Commands.{is_among, key_named}
use Rattle.pcef_model.specs.Slots.{AreSlotsBelow, AreSlotsOf, is_one_of, place_of}
use Rattle.pcef_model.proofs.Sameness.{same_name_is, same_name_self}
use Rattle.pcef_model.proofs.SlotPlaces.{place_grown, suc_of}
use Rattle.pcef_model.proofs.SlotWords.{IsWithin, has_one_of, is_at}

-- ---- keys and their places
pub among_at : (keys : List (List ℕ)) (n : ℕ) (key : List ℕ) → slice_get keys n ≡ Some key → is_among key keys ≡ true
among_at [] n key is = absurd cc
among_at (k ∷ keys) zero key is =
    let same : k ≡ key = cc in
    rw same (rw (same_name_self key) refl)
among_at (k ∷ keys) (suc n) key is =
    elim (cases_Bool (same_name key k)) [
      | inl here ↦ rw here refl
      | inr later ↦ rw later (among_at keys n key is)
    ]

-- a key stands at its place
pub key_at : (key : List ℕ) (keys : List (List ℕ)) (n : ℕ) → place_of key keys ≡ Some n → slice_get keys n ≡ Some key
key_at key [] n is = absurd cc
key_at key (k ∷ keys) n is =
    elim (cases_Bool (same_name key k)) [
      | inl same ↦
          let first : Some 0 ≡ Some n = rw same at is in
          let zero_is : 0 ≡ n = cc in
          ap (slice_get (k ∷ keys)) (sym zero_is) ∙ ap (λ (x : List ℕ). Some x) (sym (same_name_is key k same))
      | inr differs ↦
          let w = suc_of (place_of key keys) n (rw differs at is) in
          ap (slice_get (k ∷ keys)) w.2 ∙ key_at key keys w.0 w.1
    ]

-- each key that has a slot stands once
abbrev pub StandOnce : List (List ℕ) → Type 0
StandOnce keys = (n : ℕ) (key : List ℕ) → slice_get keys n ≡ Some key → place_of key keys ≡ Some n

-- the list with one key more
last_or_before : (keys : List (List ℕ)) (k key : List ℕ) (n : ℕ) → slice_get (keys ++ k ∷ []) n ≡ Some key → n < length keys → slice_get keys n ≡ Some key
last_or_before [] k key n is within = absurd (omega (arith, within))
last_or_before (l ∷ keys) k key zero is within = is
last_or_before (l ∷ keys) k key (suc n) is within = last_or_before keys k key n is (omega (arith, within))

last_is : (keys : List (List ℕ)) (k key : List ℕ) (n : ℕ) → slice_get (keys ++ k ∷ []) n ≡ Some key → length keys ≤ n → (n ≡ length keys) × (k ≡ key)
last_is [] k key zero is past = (refl, cc)
last_is [] k key (suc n) is past = absurd cc
last_is (l ∷ keys) k key zero is past = absurd (omega (arith, past))
last_is (l ∷ keys) k key (suc n) is past =
    let w = last_is keys k key n is (omega (arith, past)) in (omega (arith, w.0), w.1)

place_last : (k : List ℕ) (keys : List (List ℕ)) → is_among k keys ≡ false → place_of k (keys ++ k ∷ []) ≡ Some (length keys)
place_last k [] absent = rw (same_name_self k) refl
place_last k (l ∷ keys) absent =
    elim (cases_Bool (same_name k l)) [
      | inl same ↦ let there : is_among k (l ∷ keys) ≡ true = rw same refl in cc
      | inr differs ↦ let later : is_among k keys ≡ false = rw differs at absent in rw (differs, place_last k keys later) refl
    ]

once_more : (named : Option (List ℕ)) (keys : List (List ℕ)) → StandOnce keys → StandOnce (add_if_some named keys)
once_more None keys once = once
once_more (Some k) keys once =
    elim (cases_Bool (is_among k keys)) [
      | inl there ↦ rw there once
      | inr absent ↦ rw absent (λ n key is.
          elim (cases_lt n (length keys)) [
            | inl within ↦
                let before = last_or_before keys k key n is within in
                place_grown key keys (k ∷ []) (among_at keys n key before) ∙ once n key before
            | inr past ↦
                let w = last_is keys k key n is past in
                ap (λ x. place_of x (keys ++ k ∷ [])) (sym w.1) ∙ place_last k keys absent ∙ ap (λ (m : ℕ). Some m) (sym w.0)
          ])
    ]

pub slots_once : (p : Setting) (cs : List Command) → StandOnce (slots_of p cs)
unfolding slots_of
slots_once p [] n key is = absurd cc
slots_once p (c ∷ cs) n key is = once_more (key_named p c) (slots_of p cs) (slots_once p cs) n key is

-- ---- how often a slot stands
abbrev pub how_often : ℕ → List Slot → ℕ
how_often n own = count_by (λ slot. n == slot.0) own

stands_here : (n : ℕ) (slot : Slot) (own : List Slot) → (n == slot.0) ≡ true → how_often n (slot ∷ own) ≡ suc (how_often n own)
stands_here n slot own is =
    sum_by-cons (λ (s : Slot). cond (n == s.0) 1 0) slot own ∙ ap (λ (b : Bool). cond b 1 0 + how_often n own) is ∙ omega arith

stands_later : (n : ℕ) (slot : Slot) (own : List Slot) → (n == slot.0) ≡ false → how_often n (slot ∷ own) ≡ how_often n own
stands_later n slot own isnt =
    sum_by-cons (λ (s : Slot). cond (n == s.0) 1 0) slot own ∙ ap (λ (b : Bool). cond b 1 0 + how_often n own) isnt ∙ omega arith

none_stands : (n : ℕ) (own : List Slot) → is_one_of n own ≡ false → how_often n own ≡ 0
none_stands n [] none = refl
none_stands n (slot ∷ own) none =
    elim (cases_Bool (n == slot.0)) [
      | inl is ↦ let some : is_one_of n (slot ∷ own) ≡ true = rw is refl in cc
      | inr isnt ↦ let later : is_one_of n own ≡ false = rw isnt at none in stands_later n slot own isnt ∙ none_stands n own later
    ]

one_stands : (n : ℕ) (own : List Slot) → is_one_of n own ≡ true → 1 ≤ how_often n own
one_stands n [] some = absurd cc
one_stands n (slot ∷ own) some =
    elim (cases_Bool (n == slot.0)) [
      | inl is ↦ omega (arith, stands_here n slot own is)
      | inr isnt ↦
          let later : is_one_of n own ≡ true = rw isnt at some in
          let rest = one_stands n own later in omega (arith, stands_later n slot own isnt, rest)
    ]

fewer_stand : (n : ℕ) (slot : Slot) (own : List Slot) → how_often n own ≤ how_often n (slot ∷ own)
fewer_stand n slot own =
    elim (cases_Bool (n == slot.0)) [ inl is ↦ omega (arith, stands_here n slot own is) | inr isnt ↦ omega (arith, stands_later n slot own isnt) ]

-- slots that stand once at most, each less than a number
once_below : (k : ℕ) (own : List Slot) → ((n : ℕ) → how_often n own ≤ 1) → ((n : ℕ) → is_one_of n own ≡ true → n < k) → AreSlotsBelow k own
once_below k [] once below = tt
once_below k (slot ∷ own) once below =
    let self : (slot.0 == slot.0) ≡ true = eq-eqb slot.0 slot.0 refl in
    let here : is_one_of slot.0 (slot ∷ own) ≡ true = rw self refl in
    let twice = stands_here slot.0 slot own self in
    let alone : is_one_of slot.0 own ≡ false = false_from_ne_true (is_one_of slot.0 own) (λ again.
    let most = once slot.0 in
    let least = one_stands slot.0 own again in absurd (omega (arith, most, least, twice))) in (
      below slot.0 here,
      alone,
      once_below k own (λ n. let most = once n in let fewer = fewer_stand n slot own in omega (arith, most, fewer))
          (λ n is. below n (elim (cases_Bool (n == slot.0)) [ inl same ↦ rw same refl | inr differs ↦ rw differs is ])),
    )

-- ---- what it says of them
passes : (keys : List (List ℕ)) (test : List ℕ → Bool) (own : List Slot) (n : ℕ) (b : Bool) → option_map_or test (slice_get keys n) false ≡ b → AreSlotsOf keys test own → is_one_of n own ≡ b
passes keys test own n true is are =
    elim (cases_Bool (is_one_of n own)) [
      | inl one ↦ one
      | inr none ↦
          let never = none_stands n own none in
          let once : how_often n own ≡ 1 = are n ∙ rw is refl in absurd (omega (arith, never, once))
    ]
passes keys test own n false is are =
    false_from_ne_true (is_one_of n own) (λ one.
    let least = one_stands n own one in
    let never : how_often n own ≡ 0 = are n ∙ rw is refl in absurd (omega (arith, least, never)))

pub slot_is : (keys : List (List ℕ)) (test : List ℕ → Bool) (own : List Slot) (n : ℕ) → AreSlotsOf keys test own → is_one_of n own ≡ option_map_or test (slice_get keys n) false
slot_is keys test own n are = passes keys test own n (option_map_or test (slice_get keys n) false) refl are

at_most_once : (b : Bool) (m : ℕ) → m ≡ (if b then 1 else 0) → m ≤ 1
at_most_once true m is = omega (arith, is)
at_most_once false m is = omega (arith, is)

pub slots_below : (keys : List (List ℕ)) (test : List ℕ → Bool) (own : List Slot) → AreSlotsOf keys test own → IsWithin keys own
slots_below keys test own are =
    once_below (length keys) own (λ n. at_most_once (option_map_or test (slice_get keys n) false) (how_often n own) (are n))
    (λ n one. from n (slice_get keys n) refl (sym (slot_is keys test own n are) ∙ one))
  where
    from : (n : ℕ) (o : Option (List ℕ)) → slice_get keys n ≡ o → option_map_or test (slice_get keys n) false ≡ true → n < length keys
    from n None none is = (let off : false ≡ true = sym (ap (λ o. option_map_or test o false) none) ∙ is in absurd cc)
    from n (Some key) some is = slice_get_within keys n key some

-- ---- what it takes
once_or_not : (k n : ℕ) (own : List Slot) → AreSlotsBelow k own → how_often n own ≡ (if is_one_of n own then 1 else 0)
once_or_not k n [] below = refl
once_or_not k n (slot ∷ own) below =
    elim (eqb_tells n slot.0) [
      | inl is ↦
          let none : how_often n own ≡ 0 = none_stands n own (ap (λ m. is_one_of m own) is.1 ∙ below.1) in
          stands_here n slot own is.0 ∙ rw is.0 (ap suc none)
      | inr isnt ↦ stands_later n slot own isnt.0 ∙ rw isnt.0 (once_or_not k n own below.2)
    ]

past_all : (k n : ℕ) (own : List Slot) → AreSlotsBelow k own → k ≤ n → is_one_of n own ≡ false
past_all k n [] below past = refl
past_all k n (slot ∷ own) below past =
    elim (eqb_tells n slot.0) [
      | inl is ↦ absurd (omega (arith, is.1, below.0, past))
      | inr isnt ↦ rw isnt.0 (past_all k n own below.2 past)
    ]

pub are_slots_of : (keys : List (List ℕ)) (test : List ℕ → Bool) (own : List Slot) → StandOnce keys → IsWithin keys own → ((key : List ℕ) → test key ≡ has_one_of keys own key) → AreSlotsOf keys test own
are_slots_of keys test own once within each n =
    once_or_not (length keys) n own within ∙ ap (λ (b : Bool). if b then 1 else 0) (from (slice_get keys n) refl)
  where
    from : (o : Option (List ℕ)) → slice_get keys n ≡ o → is_one_of n own ≡ option_map_or test (slice_get keys n) false
    from None none =
        elim (cases_lt n (length keys)) [
          | inl inside ↦ let e = sym none ∙ slice_get-get_or keys n [] inside in absurd cc
          | inr past ↦ past_all (length keys) n own within past ∙ sym (ap (λ o. option_map_or test o false) none)
        ]
    from (Some key) some =
        sym (ap (λ o. option_map_or test o false) some ∙ each key ∙ ap (λ o. list_any (λ (slot : Slot). is_at o slot.0) own) (once n key some))
