-- Keys that have a slot: each stands once, and a key that has none counts nothing.
use Rattle.std.proofs.Common.{◌≡◌, ◌∙◌, ℕ, Bool, true, false, List, [], ◌∷◌, ◌++◌, length, refl, sym, ap, arith, inl, inr, nat_le}
use Rattle.std.specs.Prelude.{Err, IfOk, Ok, OnOk, Option, Result, Some, None, is_some, not, ◌||◌, ◌&&◌, filter}
use Rattle.pcef_rule.specs.declared.quantity.Slot.{Slot}
use Rattle.pcef_usage.specs.declared.usage.SlotFault.{SlotFault}
use Rattle.std.proofs.lemmas.Bool.{cases_Bool}
use Rattle.std.proofs.lemmas.List.{map_push}
use Rattle.pcef_model.specs.declared.command.Command.{Command}
use Rattle.pcef_model.specs.declared.row.Row.{Row}
use Rattle.pcef_model.specs.declared.level.Level.{Level}
use Rattle.pcef_model.specs.Setting.{Setting, same_name}
use Rattle.pcef_model.specs.Generations.{add_if_some, slots_of}
use Rattle.pcef_model.specs.Commands.{add_key, is_among, key_named}
use Rattle.pcef_model.specs.Entries.{Journal, rows}
use Rattle.pcef_model.specs.Journals.{counted, counts, now, octets_of, slots, tables}
use Rattle.pcef_model.proofs.Sameness.{same_name_is, same_name_not, same_name_of}
use Rattle.pcef_model.proofs.Strangers.{stranger_counts, stranger_off}
use Rattle.pcef_usage.specs.declared.usage.KeyState.{KeyState}
use Rattle.pcef_usage.specs.Keys.{IsSlotOf, fresh, has_slot, keys_of, slot_place, with_slot}
use Rattle.pcef_usage.specs.PendingReports.{Distinct}
use Rattle.pcef_usage.proofs.Places.{or_no}
use Rattle.pcef_usage.proofs.Tells.{has_slot_is}

pub or_false : (a : Bool) → (a || false) ≡ a
or_false true = refl
or_false false = refl

pub or_assoc : (a b c : Bool) → (a || (b || c)) ≡ ((a || b) || c)
or_assoc true b c = refl
or_assoc false b c = refl

pub and_no : (a b : Bool) → b ≡ false → (a && b) ≡ false
and_no true b absent = absent
and_no false b absent = refl

-- ---- a key that gets a slot
pub without_slot : (k : List ℕ) (states : List KeyState) (slot : Option Slot) → IsSlotOf k states slot → is_some slot ≡ false → has_slot k states ≡ false
without_slot k states None is none = is
without_slot k states (Some s) is none = cc

place_fresh : (k : List ℕ) (level : Level) (states : List KeyState) → has_slot k states ≡ false → slot_place k (states ++ fresh k level ∷ []) ≡ length states
place_fresh k level [] absent = rw (same_name_of k k refl) refl
place_fresh k level (s ∷ states) absent =
    let parts = or_no (same_name k s.key) (has_slot k states) absent in
    rw (parts.0, place_fresh k level states parts.1) refl

-- it gets the next one
pub slot_is_place : (r : Result Slot SlotFault) (k : List ℕ) (level : Level) (old new : List KeyState) → has_slot k old ≡ false →
    IfOk r (λ s. s.0 ≡ length old) → OnOk r (new ≡ old ++ fresh k level ∷ []) → IfOk r (λ s. s.0 ≡ slot_place k new)
slot_is_place (Ok s) k level old new absent is states = is ∙ sym (ap (slot_place k) states ∙ place_fresh k level old absent)
slot_is_place (Err e) k level old new absent is states = tt

-- ---- one key more, or some fewer
pub is_among_append : (k l : List ℕ) (keys : List (List ℕ)) → is_among k (keys ++ l ∷ []) ≡ (is_among k keys || same_name k l)
is_among_append k l [] = or_false (same_name k l)
is_among_append k l (m ∷ keys) = ap (λ b. same_name k m || b) (is_among_append k l keys) ∙ or_assoc (same_name k m) (is_among k keys) (same_name k l)

add_known : (k l : List ℕ) (keys : List (List ℕ)) → is_among l keys ≡ true → is_among k keys ≡ (is_among k keys || same_name k l)
add_known k l keys known =
    elim (cases_Bool (same_name k l)) [
      | inl same ↦ let is : is_among k keys ≡ true = ap (λ x. is_among x keys) (same_name_is k l same) ∙ known in is ∙ sym (ap (λ b. b || same_name k l) is)
      | inr differs ↦ sym (ap (λ b. is_among k keys || b) differs ∙ or_false (is_among k keys))
    ]

pub is_among_add : (k l : List ℕ) (keys : List (List ℕ)) → is_among k (add_key l keys) ≡ (is_among k keys || same_name k l)
is_among_add k l keys =
    elim (cases_Bool (is_among l keys)) [
      | inl known ↦ rw known (add_known k l keys known)
      | inr unknown ↦ rw unknown (is_among_append k l keys)
    ]

-- ---- a key that has no slot
pub off_before_add : (k : List ℕ) (named : Option (List ℕ)) (keys : List (List ℕ)) → is_among k (add_if_some named keys) ≡ false → is_among k keys ≡ false
off_before_add k None keys absent = absent
off_before_add k (Some l) keys absent = (or_no (is_among k keys) (same_name k l) (sym (is_among_add k l keys) ∙ absent)).0

-- no row counts for it
none_counted : (test : Row → Bool) (rs : List Row) → ((r : Row) → test r ≡ false) → octets_of test rs ≡ 0
unfolding octets_of
none_counted test [] none = refl
none_counted test (r ∷ rs) none = rw (none r) (omega (arith, none_counted test rs none))

pub stranger_counted : (p : Setting) (j : Journal) (k : List ℕ) → is_among k (slots p j) ≡ false → counted p j k ≡ 0
stranger_counted p j k absent = none_counted (counts p j k) (rows j) (λ r. stranger_counts p j k r absent)

pub slot_of_on : (p : Setting) (j : Journal) (k : List ℕ) → is_among k (now p j).on ≡ true → is_among k (slots p j) ≡ true
slot_of_on p j k on =
    elim (cases_Bool (is_among k (slots p j))) [
      | inl is ↦ is
      | inr isnt ↦ let off : is_among k (now p j).on ≡ false = stranger_off p (tables j) k isnt in cc
    ]

-- ---- keys that have a slot stand once
distinct_append : (k : List ℕ) (keys : List (List ℕ)) → Distinct keys → is_among k keys ≡ false → Distinct (keys ++ k ∷ [])
distinct_append k [] distinct absent = (refl, tt)
distinct_append k (l ∷ keys) distinct absent =
    let parts = or_no (same_name k l) (is_among k keys) absent in
    (is_among_append l k keys ∙ ap (λ b. b || same_name l k) distinct.0 ∙ same_name_not k l parts.0, distinct_append k keys distinct.1 parts.1)

distinct_add : (named : Option (List ℕ)) (keys : List (List ℕ)) → Distinct keys → Distinct (add_if_some named keys)
distinct_add None keys distinct = distinct
distinct_add (Some k) keys distinct =
    elim (cases_Bool (is_among k keys)) [
      | inl is ↦ rw is distinct
      | inr isnt ↦ rw isnt (distinct_append k keys distinct isnt)
    ]

pub distinct_slots : (p : Setting) (cs : List Command) → Distinct (slots_of p cs)
unfolding slots_of
distinct_slots p [] = tt
distinct_slots p (c ∷ cs) = distinct_add (key_named p c) (slots_of p cs) (distinct_slots p cs)

pub keys_with_slot : (named : Option (List ℕ)) (level : Level) (states : List KeyState) → keys_of (with_slot named level states) ≡ add_if_some named (keys_of states)
keys_with_slot None level states = refl
keys_with_slot (Some k) level states =
    elim (cases_Bool (has_slot k states)) [
      | inl is ↦ let among : is_among k (keys_of states) ≡ true = sym (has_slot_is k states) ∙ is in rw (is, among) refl
      | inr isnt ↦ let among : is_among k (keys_of states) ≡ false = sym (has_slot_is k states) ∙ isnt in rw (isnt, among) (map_push (λ (s : KeyState). s.key) states (fresh k level))
    ]
