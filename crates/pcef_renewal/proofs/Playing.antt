-- A new session while a renewal is played on it.
use Rattle.std.proofs.Common.{◌≡◌, ◌∙◌, ◌<◌, ℕ, Bool, true, false, List, [], ◌∷◌, ◌++◌, Some, None, length, length-append, nat_le, refl, sym, subst, arith, inl, inr}
use Rattle.std.specs.Prelude.{Option}
use Rattle.std.proofs.lemmas.Bool.{cases_Bool, lt-leb, or_cases}
use Rattle.std.proofs.lemmas.List.Elements.{Contains-push_cases}
use Rattle.pcef_model.specs.declared.command.Command.{Command}
use Rattle.pcef_model.specs.Commands.{is_among}
use Rattle.pcef_model.specs.Entries.{Journal, rows}
use Rattle.pcef_model.specs.Generations.{add_if_some, slots_of}
use Rattle.pcef_model.specs.Journals.{now, slots, tables}
use Rattle.pcef_model.specs.Lawful.{Lawful}
use Rattle.pcef_model.specs.Refusals.{Conditions, common_refusals, finds_no_slot, first_of, limited_count, was_closed, was_terminated}
use Rattle.pcef_model.specs.Setting.{Setting, most_keys}
use Rattle.pcef_model.proofs.FewKeys.{few_slots}
use Rattle.pcef_model.proofs.Levels.{among_add}
use Rattle.pcef_model.proofs.Sameness.{same_name_is}
use Rattle.pcef_model.proofs.SlotsGrow.{HasSlot}
use Rattle.pcef_renewal.proofs.Fitting.{KeysOnce, absent_named, among_from, among_to, no_longer, once_push}
use Rattle.pcef_renewal.proofs.Quiet.{NoneReached}

-- ---- what holds while it is played
-- j is the journal of the old session, k of the new one, in which n commands have come
pub record Playing (p : Setting) (j k : Journal) (n : ℕ) : Type 0 where
  pub lawful : Lawful p k
  pub no_rows : rows k ≡ []
  pub open_yet : was_closed k ≡ false
  pub goes_on : was_terminated k ≡ false
  pub far : NoneReached k
  pub count : limited_count k ≡ n
  pub slots_there : (key : List ℕ) → is_among key (slots p k) ≡ true → is_among key (slots p j) ≡ true
  pub session : (key : List ℕ) → is_among key (now p k).session ≡ true → is_among key (now p j).session ≡ true

-- ---- refusals
pub next_none : {R : Type 0} (b : Bool) (r : R) (cs : Conditions R) → b ≡ false → first_of cs ≡ None → first_of ((b, r) ∷ cs) ≡ None
next_none b r cs isnt none = rw isnt none

pub both_none : {R : Type 0} (cs ds : Conditions R) → first_of cs ≡ None → first_of ds ≡ None → first_of (cs ++ ds) ≡ None
both_none [] ds one other = other
both_none (c ∷ cs) ds one other =
    elim (cases_Bool c.0) [
      | inl is ↦ absurd (let some : Some c.1 ≡ None = rw is at one in cc)
      | inr isnt ↦ rw isnt (both_none cs ds (rw isnt at one) other)
    ]

pub common_none : (p : Setting) (j k : Journal) (n : ℕ) → Playing p j k n → n < p.commands → first_of (common_refusals p k) ≡ None
common_none p j k n playing room =
    let full : nat_le p.commands (limited_count k) ≡ false = lt-leb p.commands (limited_count k) (omega (arith, playing.count, room)) in
    rw (playing.goes_on, playing.open_yet, full) refl

-- ---- slots
slots_once_by : (keys : List (List ℕ)) (named : Option (List ℕ)) → KeysOnce keys → KeysOnce (add_if_some named keys)
slots_once_by keys None once = once
slots_once_by keys (Some key) once =
    elim (cases_Bool (is_among key keys)) [
      | inl there ↦ rw there once
      | inr absent ↦ rw absent (once_push (λ (k : List ℕ). k) keys key once (absent_named key keys absent))
    ]

pub made_slots_once : (p : Setting) (cs : List Command) → KeysOnce (slots_of p cs)
unfolding slots_of Rattle.pcef_model.proofs.Names.Once
made_slots_once p [] = tt
made_slots_once p (c ∷ cs) = slots_once_by (slots_of p cs) _ (made_slots_once p cs)

-- a key with a slot before finds one
pub finds_slot : (p : Setting) (j k : Journal) (n : ℕ) → Playing p j k n → Lawful p j → (key : List ℕ) → is_among key (slots p j) ≡ true → finds_no_slot p k (Some key) ≡ false
finds_slot p j k n playing lawful key there =
    elim (cases_Bool (is_among key (slots p k))) [
      | inl known ↦ rw known refl
      | inr new ↦
          let more = no_longer (λ (x : List ℕ). x) (slots p k ++ key ∷ []) (slots p j)
          (once_push (λ (x : List ℕ). x) (slots p k) key (made_slots_once p (tables k)) (absent_named key (slots p k) new))
          (λ x one. elim (Contains-push_cases (slots p k) key x one) [
            | inl old ↦ among_to x (slots p j) (playing.slots_there x (among_from x (slots p k) old))
            | inr same ↦ among_to x (slots p j) (subst (λ (y : List ℕ). is_among y (slots p j) ≡ true) same there)
          ]) in
          let few = few_slots p j lawful in
          rw (new, lt-leb most_keys (length (slots p k)) (omega (arith, more, few, length-append (slots p k) (key ∷ [])))) refl
    ]

-- the slots and levels after a key is named
pub slots_after_key : (p : Setting) (j k : Journal) (n : ℕ) → Playing p j k n → (named : Option (List ℕ)) → HasSlot (slots p j) named →
    (key : List ℕ) → is_among key (add_if_some named (slots p k)) ≡ true → is_among key (slots p j) ≡ true
slots_after_key p j k n playing None has key there = playing.slots_there key there
slots_after_key p j k n playing (Some l) has key there =
    elim (or_cases _ _ (sym (among_add key l (slots p k)) ∙ there)) [
      | inl old ↦ playing.slots_there key old
      | inr same ↦ subst (λ (x : List ℕ). is_among x (slots p j) ≡ true) (sym (same_name_is key l same)) has
    ]
