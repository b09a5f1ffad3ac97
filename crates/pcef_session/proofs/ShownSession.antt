-- The flags of slots for all packets, as commands come.
use Rattle.std.proofs.Common.{◌≡◌, ◌∙◌, ◌<◌, ◌==◌, ◌||◌, ◌&&◌, not, ℕ, Bool, true, false, List, [], ◌∷◌, Some, None, filter, get_or, length, length-set, set, refl, sym, ap, ap₂, arith, inl, inr}
use Rattle.std.specs.Prelude.{Option, if◌then◌else◌}
use Rattle.std.proofs.lemmas.Bool.{cases_Bool, eq-eqb, eqb-true, false_from_ne_true}
use Rattle.pcef_base.proofs.Tests.{contrary}
use Rattle.pcef_table.specs.SessionSlots.{no_slots, slots_up}
use Rattle.pcef_model.specs.declared.command.Command.{Command}
use Rattle.pcef_model.specs.declared.command.Command.TheVariants.{Monitor, Stop, Terminate}
use Rattle.pcef_model.specs.declared.level.Level.TheVariants.{Rule, Session}
use Rattle.pcef_model.specs.declared.entry.Entry.TheVariants as entry
use Rattle.pcef_model.specs.Setting.{Setting, same_name}
use Rattle.pcef_model.specs.ActiveRules.{Active, has_key}
use Rattle.pcef_model.specs.Commands.{add_key, at_session_level, is_among, switched}
use Rattle.pcef_model.specs.Generations.{Generation, next, rules_after, still_on}
use Rattle.pcef_model.specs.Entries.{Journal}
use Rattle.pcef_model.specs.Journals.{at, gen, level_of, now, slots}
use Rattle.pcef_model.specs.Lawful.{Lawful}
use Rattle.pcef_model.specs.Refusals.{clashes, first_of, refusals}
use Rattle.pcef_model.specs.Slots.{place_of}
use Rattle.pcef_model.proofs.SlotWords.{IsWithin, has_one_of}
use Rattle.pcef_model.proofs.Acceptance.{monitor_accepted}
use Rattle.pcef_model.proofs.Growth.{at_newest}
use Rattle.pcef_model.proofs.Levels.{among_add, new_without, session_has_slot, session_keys_have_no_rule}
use Rattle.pcef_model.proofs.Sameness.{same_name_is, same_name_not, same_name_of, same_name_turned}
use Rattle.pcef_model.proofs.SlotPlaces.{Grows, place_once}
use Rattle.pcef_model.proofs.SlotsGrow.{slots_grow_by}
use Rattle.pcef_model.proofs.SlotsLater.{place_within, slots_grown, within_grown}
use Rattle.pcef_usage.proofs.Gone.{among_filter}
use Rattle.pcef_session.specs.Shown.{ShowsSessionKeys, is_session_on}
use Rattle.pcef_session.proofs.SessionFlags.{flag_set, has_at, has_none, is_up, up_within, within_up}
use Rattle.pcef_session.proofs.SessionKeys.{ShowsByKey, by_key, by_slot}

-- ---- as the journal grows
later_by_key : (p : Setting) (j k : Journal) (g : ℕ) (flags : List Bool) → at p k g ≡ at p j g → Grows (slots p j) (slots p k) → ShowsByKey p j g flags → ShowsByKey p k g flags
later_by_key p j k g flags same grows shows = record {
  eight = shows.eight;
  within = within_grown (slots p j) (slots p k) (slots_up flags) grows shows.within;
  on_is = λ key.
      ap (λ (q : Generation). is_session_on q key) same ∙ shows.on_is key ∙ sym (slots_grown (slots p j) (slots p k) (slots_up flags) key grows shows.within);
}

-- ---- as a table command comes
-- it leaves each key of session level as it was
next_by_key : (p : Setting) (j : Journal) (c : Command) (flags : List Bool) → at p (entry.Command c ∷ j) (gen (entry.Command c ∷ j)) ≡ next p (now p j) c →
    ((key : List ℕ) → is_session_on (next p (now p j) c) key ≡ is_session_on (now p j) key) → ShowsByKey p j (gen j) flags → ShowsByKey p (entry.Command c ∷ j) (gen (entry.Command c ∷ j)) flags
next_by_key p j c flags after same shows =
    let k : Journal = entry.Command c ∷ j in
    record {
      eight = shows.eight;
      within = within_grown (slots p j) (slots p k) (slots_up flags) (slots_grow_by p j c) shows.within;
      on_is = λ key.
          ap (λ (q : Generation). is_session_on q key) after ∙ same key ∙ ap (λ (q : Generation). is_session_on q key) (sym (at_newest p j)) ∙ shows.on_is key
          ∙ sym (slots_grown (slots p j) (slots p k) (slots_up flags) key (slots_grow_by p j c) shows.within);
    }

-- it switches one
set_by_key : (p : Setting) (j : Journal) (c : Command) (key : List ℕ) (n : ℕ) (b : Bool) (flags : List Bool) →
    at p (entry.Command c ∷ j) (gen (entry.Command c ∷ j)) ≡ next p (now p j) c → place_of key (slots p (entry.Command c ∷ j)) ≡ Some n → n < 8 →
    ((k : List ℕ) → is_session_on (next p (now p j) c) k ≡ (if same_name k key then b else is_session_on (now p j) k)) → ShowsByKey p j (gen j) flags →
    ShowsByKey p (entry.Command c ∷ j) (gen (entry.Command c ∷ j)) (set flags n b)
set_by_key p j c key n b flags after place few switches shows =
    let after_j : Journal = entry.Command c ∷ j in
    let keys : List (List ℕ) = slots p after_j in
    let grown = slots_grow_by p j c in
    let inside : n < length flags = (let e = shows.eight in omega (arith, few, e)) in
    let old_within : IsWithin keys (slots_up flags) = within_grown (slots p j) keys (slots_up flags) grown shows.within in
    record {
      eight = length-set flags n b ∙ shows.eight;
      within = within_up keys (set flags n b) (λ m is.
          elim (cases_Bool (m == n)) [
            | inl same ↦ let e = eqb-true m n same in let w = place_within key keys n place in omega (arith, e, w)
            | inr differs ↦ up_within keys flags m old_within (sym (flag_set flags n m b inside ∙ rw differs refl) ∙ is)
          ]);
      on_is = λ k. ap (λ (q : Generation). is_session_on q k) after ∙ switches k ∙ from k (place_of k keys) refl;
    }
  where
    old : (k : List ℕ) → is_session_on (now p j) k ≡ has_one_of (slots p (entry.Command c ∷ j)) (slots_up flags) k
    old k =
        ap (λ (q : Generation). is_session_on q k) (sym (at_newest p j)) ∙ shows.on_is k
        ∙ sym (slots_grown (slots p j) (slots p (entry.Command c ∷ j)) (slots_up flags) k (slots_grow_by p j c) shows.within)

    from : (k : List ℕ) (o : Option ℕ) → place_of k (slots p (entry.Command c ∷ j)) ≡ o →
        (if same_name k key then b else is_session_on (now p j) k) ≡ has_one_of (slots p (entry.Command c ∷ j)) (slots_up (set flags n b)) k
    from k None none =
        let differs : same_name k key ≡ false = false_from_ne_true (same_name k key) (λ same.
        let e : None ≡ Some n = sym none ∙ ap (λ x. place_of x (slots p (entry.Command c ∷ j))) (same_name_is k key same) ∙ place in cc) in
        rw differs (old k ∙ has_none (slots p (entry.Command c ∷ j)) (slots_up flags) k none ∙ sym (has_none (slots p (entry.Command c ∷ j)) (slots_up (set flags n b)) k none))
    from k (Some m) some =
        let inside : n < length flags = (let e = shows.eight in omega (arith, few, e)) in
        let right : has_one_of (slots p (entry.Command c ∷ j)) (slots_up (set flags n b)) k ≡ (if m == n then b else get_or flags m false) =
        has_at (slots p (entry.Command c ∷ j)) (slots_up (set flags n b)) k m some ∙ is_up m (set flags n b) ∙ flag_set flags n m b inside in
        elim (cases_Bool (same_name k key)) [
          | inl same ↦
              let e : Some m ≡ Some n = sym some ∙ ap (λ x. place_of x (slots p (entry.Command c ∷ j))) (same_name_is k key same) ∙ place in
              let hit : (m == n) ≡ true = eq-eqb m n cc in
              rw same (sym (right ∙ rw hit refl))
          | inr differs ↦
              let miss : (m == n) ≡ false = false_from_ne_true (m == n) (λ hit.
              contrary (same_name k key) (same_name_of k key (place_once k key (slots p (entry.Command c ∷ j)) m some (place ∙ ap (λ (i : ℕ). Some i) (sym (eqb-true m n hit))))) differs) in
              rw differs (old k ∙ has_at (slots p (entry.Command c ∷ j)) (slots_up flags) k m some ∙ is_up m flags ∙ sym (right ∙ rw miss refl))
        ]

-- all keys go off
and_no : (a : Bool) → (a && false) ≡ false
and_no true = refl
and_no false = refl

ended_by_key : (p : Setting) (j : Journal) → at p (entry.Command Terminate ∷ j) (gen (entry.Command Terminate ∷ j)) ≡ next p (now p j) Terminate →
    ShowsByKey p (entry.Command Terminate ∷ j) (gen (entry.Command Terminate ∷ j)) no_slots
ended_by_key p j after = record {
  eight = refl;
  within = tt;
  on_is = λ key. ap (λ (q : Generation). is_session_on q key) after ∙ and_no (is_among key (at_session_level Terminate (now p j).session));
}

-- ---- slot by slot
pub session_later : (p : Setting) (j k : Journal) (g : ℕ) (flags : List Bool) → at p k g ≡ at p j g → Grows (slots p j) (slots p k) → ShowsSessionKeys p j g flags → ShowsSessionKeys p k g flags
session_later p j k g flags same grows shows = by_slot p k g flags (later_by_key p j k g flags same grows (by_key p j g flags shows))

pub session_next : (p : Setting) (j : Journal) (c : Command) (flags : List Bool) → at p (entry.Command c ∷ j) (gen (entry.Command c ∷ j)) ≡ next p (now p j) c →
    ((key : List ℕ) → is_session_on (next p (now p j) c) key ≡ is_session_on (now p j) key) → ShowsSessionKeys p j (gen j) flags → ShowsSessionKeys p (entry.Command c ∷ j) (gen (entry.Command c ∷ j)) flags
session_next p j c flags after same shows =
    by_slot p (entry.Command c ∷ j) (gen (entry.Command c ∷ j)) flags (next_by_key p j c flags after same (by_key p j (gen j) flags shows))

pub session_set : (p : Setting) (j : Journal) (c : Command) (key : List ℕ) (n : ℕ) (b : Bool) (flags : List Bool) →
    at p (entry.Command c ∷ j) (gen (entry.Command c ∷ j)) ≡ next p (now p j) c → place_of key (slots p (entry.Command c ∷ j)) ≡ Some n → n < 8 →
    ((k : List ℕ) → is_session_on (next p (now p j) c) k ≡ (if same_name k key then b else is_session_on (now p j) k)) → ShowsSessionKeys p j (gen j) flags →
    ShowsSessionKeys p (entry.Command c ∷ j) (gen (entry.Command c ∷ j)) (set flags n b)
session_set p j c key n b flags after place few switches shows =
    by_slot p (entry.Command c ∷ j) (gen (entry.Command c ∷ j)) (set flags n b) (set_by_key p j c key n b flags after place few switches (by_key p j (gen j) flags shows))

pub session_ended : (p : Setting) (j : Journal) → at p (entry.Command Terminate ∷ j) (gen (entry.Command Terminate ∷ j)) ≡ next p (now p j) Terminate →
    ShowsSessionKeys p (entry.Command Terminate ∷ j) (gen (entry.Command Terminate ∷ j)) no_slots
session_ended p j after = by_slot p (entry.Command Terminate ∷ j) (gen (entry.Command Terminate ∷ j)) no_slots (ended_by_key p j after)

-- ---- what a command makes of keys of session level
kept_on : (key : List ℕ) (test : List ℕ → Bool) (keys : List (List ℕ)) → test key ≡ true → is_among key (filter test keys) ≡ is_among key keys
kept_on key test [] passes = refl
kept_on key test (k ∷ keys) passes =
    elim (cases_Bool (same_name key k)) [
      | inl same ↦
          let at_k : test k ≡ true = ap test (sym (same_name_is key k same)) ∙ passes in rw (at_k, same) refl
      | inr differs ↦ elim (cases_Bool (test k)) [
        | inl kept ↦ rw (kept, differs) (kept_on key test keys passes)
        | inr dropped ↦ rw (dropped, differs) (kept_on key test keys passes)
      ]
    ]

-- a key without rules doesn't go off for want of them
still_session : (old new : List Active) (on : List (List ℕ)) (key : List ℕ) → has_key key old ≡ false → is_among key (still_on old new on) ≡ is_among key on
still_session old new on key none = kept_on key (λ k. not (has_key k old) || has_key k new) on (ap (λ b. not b || has_key key new) none)

session_level : (g : Generation) (key : List ℕ) → is_among key g.session ≡ true → level_of g key ≡ Session
session_level g key is = rw is refl

pub no_rule : (p : Setting) (j : Journal) (key : List ℕ) → Lawful p j → is_among key (now p j).session ≡ true → has_key key (now p j).rules ≡ false
no_rule p j key lawful is = session_keys_have_no_rule p j lawful key (session_level (now p j) key is)

-- where a command names no key of session level and switches those that are on as before
pub same_session : (p : Setting) (j : Journal) (c : Command) → Lawful p j → at_session_level c (now p j).session ≡ (now p j).session →
    ((key : List ℕ) → is_among key (now p j).session ≡ true → is_among key (switched c (now p j).on) ≡ is_among key (now p j).on) → (key : List ℕ) →
    is_session_on (next p (now p j) c) key ≡ is_session_on (now p j) key
same_session p j c lawful levels on key =
    ap (λ ks. is_among key ks && is_among key (next p (now p j) c).on) levels ∙
    elim (cases_Bool (is_among key (now p j).session)) [
      | inl is ↦ ap (λ b. is_among key (now p j).session && b)
          (still_session (now p j).rules (rules_after p (now p j) c) (switched c (now p j).on) key (no_rule p j key lawful is) ∙ on key is)
      | inr isnt ↦ rw isnt refl
    ]

-- the key of a Monitor at rule level isn't of session level
apart : (p : Setting) (j : Journal) (l key : List ℕ) → clashes p j Rule (Some l) ≡ false → is_among key (now p j).session ≡ true → same_name key l ≡ false
apart p j l key clash is =
    false_from_ne_true (same_name key l) (λ same.
    let session : is_among l (now p j).session ≡ true = ap (λ k. is_among k (now p j).session) (sym (same_name_is key l same)) ∙ is in
    let there : is_among l (slots p j) ≡ true = session_has_slot p j l session in
    let clashing : true ≡ false = rw (there, session) at clash in cc)

or_none : (a : Bool) → (a || false) ≡ a
or_none true = refl
or_none false = refl

and_yes : (a : Bool) → (a && not false) ≡ a
and_yes true = refl
and_yes false = refl

and_not : (a : Bool) → (a && not true) ≡ false
and_not true = refl
and_not false = refl

pub monitored_rule : (p : Setting) (j : Journal) (l : List ℕ) (amount : ℕ) → Lawful p j → first_of (refusals p j (Monitor l amount Rule)) ≡ None → (key : List ℕ) →
    is_session_on (next p (now p j) (Monitor l amount Rule)) key ≡ is_session_on (now p j) key
monitored_rule p j l amount lawful accepted =
    same_session p j (Monitor l amount Rule) lawful refl (λ key is.
    among_add key l (now p j).on ∙ ap (λ b. is_among key (now p j).on || b) (apart p j l key (monitor_accepted p j l amount Rule accepted).0 is) ∙ or_none (is_among key (now p j).on))

-- a key that is stopped, of rule level
pub stays_on : (on : List (List ℕ)) (l key : List ℕ) → same_name key l ≡ false → is_among key (filter (λ m. not (same_name l m)) on) ≡ is_among key on
stays_on on l key differs =
    among_filter (λ m. not (same_name l m)) key on ∙ ap (λ b. is_among key on && not b) (same_name_not key l differs) ∙ and_yes (is_among key on)

pub stopped_rule : (p : Setting) (j : Journal) (l : List ℕ) → Lawful p j → is_among l (now p j).session ≡ false → (key : List ℕ) →
    is_session_on (next p (now p j) (Stop l)) key ≡ is_session_on (now p j) key
stopped_rule p j l lawful isnt =
    same_session p j (Stop l) lawful refl (λ key is. stays_on (now p j).on l key (false_from_ne_true (same_name key l) (λ same.
    contrary (is_among l (now p j).session) (ap (λ k. is_among k (now p j).session) (sym (same_name_is key l same)) ∙ is) isnt)))

-- the key of a Monitor at session level has no rule
pub monitored_without : (p : Setting) (j : Journal) (l : List ℕ) (amount : ℕ) → Lawful p j → first_of (refusals p j (Monitor l amount Session)) ≡ None → has_key l (now p j).rules ≡ false
monitored_without p j l amount lawful accepted =
    elim (cases_Bool (is_among l (now p j).session)) [
      | inl is ↦ no_rule p j l lawful is
      | inr fresh ↦ new_without p j l amount accepted fresh
    ]

or_yes : (a : Bool) → (a || true) ≡ true
or_yes true = refl
or_yes false = refl

pub monitored_session : (p : Setting) (j : Journal) (l : List ℕ) (amount : ℕ) → Lawful p j → first_of (refusals p j (Monitor l amount Session)) ≡ None → (key : List ℕ) →
    is_session_on (next p (now p j) (Monitor l amount Session)) key ≡ (if same_name key l then true else is_session_on (now p j) key)
monitored_session p j l amount lawful accepted key =
    let g : Generation = now p j in
    let c : Command = Monitor l amount Session in
    elim (cases_Bool (same_name key l)) [
      | inl same ↦
          let none : has_key key g.rules ≡ false = ap (λ k. has_key k g.rules) (same_name_is key l same) ∙ monitored_without p j l amount lawful accepted in
          let level : is_among key (add_key l g.session) ≡ true = among_add key l g.session ∙ ap (λ b. is_among key g.session || b) same ∙ or_yes (is_among key g.session) in
          let on : is_among key (next p g c).on ≡ true =
          still_session g.rules (rules_after p g c) (add_key l g.on) key none ∙ among_add key l g.on ∙ ap (λ b. is_among key g.on || b) same ∙ or_yes (is_among key g.on) in
          rw same (ap₂ (λ a b. a && b) level on)
      | inr differs ↦
          let level : is_among key (add_key l g.session) ≡ is_among key g.session =
          among_add key l g.session ∙ ap (λ b. is_among key g.session || b) differs ∙ or_none (is_among key g.session) in
          rw differs (
          ap (λ b. b && is_among key (next p g c).on) level ∙
          elim (cases_Bool (is_among key g.session)) [
            | inl is ↦ ap (λ b. is_among key g.session && b)
                (still_session g.rules (rules_after p g c) (add_key l g.on) key (no_rule p j key lawful is)
                ∙ among_add key l g.on ∙ ap (λ b. is_among key g.on || b) differs ∙ or_none (is_among key g.on))
            | inr isnt ↦ rw isnt refl
          ])
    ]

pub stopped_session : (p : Setting) (j : Journal) (l : List ℕ) → Lawful p j → is_among l (now p j).session ≡ true → (key : List ℕ) →
    is_session_on (next p (now p j) (Stop l)) key ≡ (if same_name key l then false else is_session_on (now p j) key)
stopped_session p j l lawful session key =
    let g : Generation = now p j in
    let c : Command = Stop l in
    elim (cases_Bool (same_name key l)) [
      | inl same ↦
          let none : has_key key g.rules ≡ false = ap (λ k. has_key k g.rules) (same_name_is key l same) ∙ no_rule p j l lawful session in
          let off : is_among key (next p g c).on ≡ false =
          still_session g.rules (rules_after p g c) (switched c g.on) key none
          ∙ among_filter (λ m. not (same_name l m)) key g.on ∙ ap (λ b. is_among key g.on && not b) (same_name_turned key l same) ∙ and_not (is_among key g.on) in
          rw same (ap (λ b. is_among key g.session && b) off ∙ and_no (is_among key g.session))
      | inr differs ↦
          rw differs (elim (cases_Bool (is_among key g.session)) [
            | inl is ↦ ap (λ b. is_among key g.session && b)
                (still_session g.rules (rules_after p g c) (switched c g.on) key (no_rule p j key lawful is) ∙ stays_on g.on l key differs)
            | inr isnt ↦ rw isnt refl
          ])
    ]
