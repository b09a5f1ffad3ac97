-- A table that shows a generation counts each packet for the key that the generation says.
use Rattle.std.proofs.Common.{◌≡◌, ◌<◌, ◌∙◌, ℕ, length, Bool, true, false, ◌&&◌, ◌==◌, List, [], refl, sym, ap, ap₂, arith, subst, inl, inr, find, Contains, Some, None, if◌then◌else◌}
use Rattle.std.specs.Prelude.{Option, IfSome, ◌||◌}
use Rattle.std.specs.Option.{option_map, option_map_or, option_to_list}
use Rattle.std.proofs.lemmas.Bool.{cases_Bool, eqb-true, eq-eqb, false_from_ne_true, and_left, and_right}
use Rattle.pcef_packet.specs.declared.header.Header.{Header}
use Rattle.pcef_packet.specs.Addresses.{is_assigned, ue_side}
use Rattle.pcef_rule.specs.declared.quantity.Slot.{Slot}
use Rattle.pcef_rule.specs.Gate.{opens}
use Rattle.pcef_table.specs.declared.entry.TableEntry.{TableEntry}
use Rattle.pcef_model.specs.declared.verdict.Verdict.{Verdict}
use Rattle.pcef_model.specs.declared.verdict.Verdict.TheVariants.{Stray, Unmatched, Gated, Passed}
use Rattle.pcef_table.specs.Sources.{source_is_named}
use Rattle.pcef_table.specs.Tables.{TableValue}
use Rattle.pcef_table.specs.SessionSlots.{slots_counted}
use Rattle.pcef_table.specs.Verdicts.{counted_slot, slot_for}
use Rattle.pcef_session.proofs.SessionFlags.{with_up, with_up_within}
use Rattle.pcef_session.proofs.SessionKeys.{by_key}
use Rattle.pcef_base.proofs.Foremost.{found_is_foremost}
use Rattle.pcef_model.specs.Setting.{Setting, most_keys, same_name}
use Rattle.pcef_model.specs.ActiveRules.{Active, decisive, is_decisive, is_key}
use Rattle.pcef_model.specs.Generations.{Generation}
use Rattle.pcef_model.specs.Commands.{is_among}
use Rattle.pcef_model.specs.Entries.{Journal}
use Rattle.pcef_model.specs.Journals.{Decision, at, counts_in, decided_by, decision, gated, verdict_at, passed, slots, stray, tables, unmatched, verdict_of, passed_for}
use Rattle.pcef_base.proofs.Tests.{contrary}
use Rattle.pcef_model.proofs.Sameness.{same_name_is, same_name_of}
use Rattle.pcef_model.specs.Slots.{AreSlotsOf, counts_now, place_of, slot_of}
use Rattle.pcef_model.proofs.SlotWords.{IsWithin, has_one_of, is_at}
use Rattle.pcef_session.specs.Shown.{Shows, StandsFor}
use Rattle.pcef_model.proofs.BoundRules.{NamesOnce}
use Rattle.pcef_model.proofs.SlotsGrow.{HasSlot, shown_slots}
use Rattle.pcef_model.proofs.Decisive.{once_is}
use Rattle.pcef_session.proofs.ShownVerdicts.{rule_is}
use Rattle.pcef_model.proofs.SlotPlaces.{place_once, place_there}
use Rattle.pcef_model.proofs.SlotsOf.{are_slots_of, slots_once}
use Rattle.pcef_model.proofs.SlotsLater.{place_within}
use Rattle.pcef_base.proofs.Found.{find_some}

-- ---- the slot of an entry
place_at : (key k : List ℕ) (keys : List (List ℕ)) (n : ℕ) → place_of k keys ≡ Some n → same_name key k ≡ false → is_at (place_of key keys) n ≡ false
place_at key k keys n is differs = from (place_of key keys) refl
  where
    from : (o : Option ℕ) → place_of key keys ≡ o → is_at o n ≡ false
    from None none = refl
    from (Some m) some = false_from_ne_true (m == n) (λ same. contrary (same_name key k)
        (same_name_of key k (place_once key k keys n (some ∙ ap (λ (i : ℕ). Some i) (eqb-true m n same)) is)) differs)

keyed_counts : (keys on : List (List ℕ)) (k key : List ℕ) (slot : Option Slot) → is_among k on ≡ true → option_map (λ (s : Slot). s.0) slot ≡ place_of k keys → is_among k keys ≡ true →
    (same_name key k && is_among key on) ≡ has_one_of keys (option_to_list slot) key
keyed_counts keys on k key None counted slot_is has =
    let w = place_there k keys has in absurd (let e : None ≡ Some w.0 = slot_is ∙ w.1 in cc)
keyed_counts keys on k key (Some s) counted slot_is has =
    elim (cases_Bool (same_name key k)) [
      | inl same ↦
          let is = same_name_is key k same in
          let left : (same_name key k && is_among key on) ≡ true = rw same (ap (λ n. is_among n on) is ∙ counted) in
          let right : is_at (place_of key keys) s.0 ≡ true = ap (λ n. is_at (place_of n keys) s.0) is ∙ ap (λ o. is_at o s.0) (sym slot_is) ∙ eq-eqb s.0 s.0 refl in
          left ∙ sym (ap (λ b. b || false) right)
      | inr differs ↦ and_left (same_name key k) (is_among key on) differs ∙ sym (ap (λ b. b || false) (place_at key k keys s.0 (sym slot_is) differs))
    ]

slot_counts : (keys on : List (List ℕ)) (key_of : Option (List ℕ)) (counted : Bool) (slot : Option Slot) (key : List ℕ) → counted ≡ counts_now on key_of →
    option_map (λ (s : Slot). s.0) slot ≡ slot_of keys key_of → HasSlot keys key_of → (is_key key key_of && is_among key on) ≡ has_one_of keys (option_to_list (if counted then slot else None)) key
slot_counts keys on None counted slot key counted_is slot_is has = rw counted_is refl
slot_counts keys on (Some k) counted slot key counted_is slot_is has =
    elim (cases_Bool (is_among k on)) [
      | inl is_on ↦ let is : counted ≡ true = counted_is ∙ is_on in rw is (keyed_counts keys on k key slot is_on slot_is has)
      | inr is_off ↦
          let is : counted ≡ false = counted_is ∙ is_off in
          rw is (elim (cases_Bool (same_name key k)) [
            | inl same ↦ and_right (same_name key k) (is_among key on) (ap (λ n. is_among n on) (same_name_is key k same) ∙ is_off)
            | inr differs ↦ and_left (same_name key k) (is_among key on) differs
          ])
    ]

-- ---- the rule that lets a packet pass
gate_of : (header : Header) (x r : Active) → decided_by header (Some x) ≡ passed r → x ≡ r
gate_of header x r is =
    elim (cases_Bool (opens x.properties.gate header.dir)) [
      | inl opened ↦ let e : passed x ≡ passed r = rw opened at is in cc
      | inr closed ↦ let e : gated x ≡ passed r = rw closed at is in absurd cc
    ]

passed_is : (p : Setting) (g : Generation) (header : Header) (r : Active) → decision p g header ≡ passed r → Contains g.rules r
passed_is p g header r is =
    elim (cases_Bool (is_assigned (ue_side header) p.ue)) [
      | inr other ↦ let e : stray ≡ passed r = rw other at is in absurd cc
      | inl own ↦ from (decisive g.rules p.ue header) refl (rw own at is)
    ]
  where
    from : (o : Option Active) → decisive g.rules p.ue header ≡ o → decided_by header o ≡ passed r → Contains g.rules r
    from None none by = absurd cc
    from (Some x) some by =
        let f = found_is_foremost (λ _ _. Unit {0}) (is_decisive g.rules p.ue header) g.rules x (λ i j d below within. tt) some in
        subst (Contains g.rules) (gate_of header x r by) f.there

-- the entry of a rule's name stands for the rule
entry_named : (p : Setting) (j : Journal) (g : ℕ) (t : TableValue) (r : Active) → Shows p j g t → NamesOnce (at p j g).rules → Contains (at p j g).rules r →
    (e : TableEntry) × (find (λ e. source_is_named p.catalog r.properties.name e.source) t.entries ≡ Some e) × StandsFor p j g e r
entry_named p j g t r shows once there =
    let w = shows.each r there in
    let w_is = rule_is p.catalog w.0.source r w.2.rule_is in
    let named : source_is_named p.catalog r.properties.name w.0.source ≡ true =
    ap (λ o. same_name (option_map_or (λ q. q.name) o []) r.properties.name) w_is.properties_are ∙ same_name_of r.properties.name r.properties.name refl in
    let f = find_some (λ (e : TableEntry). source_is_named p.catalog r.properties.name e.source) t.entries w.0 w.1 named in
    let v = shows.only f.0 f.2 in
    let v_is = rule_is p.catalog f.0.source v.0 v.2.rule_is in
    let names : v.0.properties.name ≡ r.properties.name =
    same_name_is v.0.properties.name r.properties.name (sym (ap (λ o. same_name (option_map_or (λ q. q.name) o []) r.properties.name) v_is.properties_are) ∙ f.3) in
    let same : v.0 ≡ r = once_is (at p j g).rules v.0 r once v.1 there names in
    (f.0, f.1, subst (StandsFor p j g f.0) same v.2)

-- ---- counting
-- the slot of a rule's key is one of eight
keyed_within : (keys : List (List ℕ)) (key : Option (List ℕ)) (s : Slot) → Some s.0 ≡ slot_of keys key → s.0 < length keys
keyed_within keys None s is = absurd cc
keyed_within keys (Some key) s is = place_within key keys s.0 (sym is)

slotted : (keys : List (List ℕ)) (slot : Option Slot) (key : Option (List ℕ)) (b : Bool) → option_map (λ s. s.0) slot ≡ slot_of keys key → (s : Slot) → (if b then slot else None) ≡ Some s → s.0 < length keys
slotted keys None key true is s some = absurd cc
slotted keys (Some x) key true is s some = let same : x ≡ s = cc in keyed_within keys key s (ap (λ (y : Slot). Some y.0) (sym same) ∙ is)
slotted keys slot key false is s some = absurd cc

slot_below : (slot : Option Slot) (b : Bool) → IfSome slot (λ x. x.0 < most_keys) → (s : Slot) → (if b then slot else None) ≡ Some s → s.0 < most_keys
slot_below None true low s some = absurd cc
slot_below (Some x) true low s some = let same : x ≡ s = cc in subst (λ (y : Slot). y.0 < most_keys) same low
slot_below slot false low s some = absurd cc

counted_within : (p : Setting) (j : Journal) (g : ℕ) (t : TableValue) (rule : List ℕ) (o : Option TableEntry) → Shows p j g t → find (λ e. source_is_named p.catalog rule e.source) t.entries ≡ o →
    (s : Slot) → option_map_or counted_slot o None ≡ Some s → (s.0 < most_keys) × (s.0 < length (slots p j))
counted_within p j g t rule None shows is s some = absurd cc
counted_within p j g t rule (Some e) shows is s some =
    let f = found_is_foremost (λ _ _. Unit {0}) (λ (x : TableEntry). source_is_named p.catalog rule x.source) t.entries e (λ i k d below within. tt) is in
    let r = shows.only e f.there in
    (slot_below e.slot e.counted r.2.slot_low s some, slotted (slots p j) e.slot r.0.properties.key e.counted r.2.slot_is s some)

joined : (a b c : Bool) → ((a || b) && c) ≡ ((b && c) || (a && c))
joined true true true = refl
joined true true false = refl
joined true false true = refl
joined true false false = refl
joined false true true = refl
joined false true false = refl
joined false false true = refl
joined false false false = refl

-- the keys of the slots that a table gives to a verdict are those that the packet counts for
shown_counts : (p : Setting) (j : Journal) (g : ℕ) (t : TableValue) (header : Header) (v : Verdict) (key : List ℕ) → Shows p j g t → NamesOnce (at p j g).rules →
    v ≡ verdict_at p (at p j g) header → counts_in p (at p j g) key header ≡ has_one_of (slots p j) (slots_counted p.catalog t v) key
shown_counts p j g t header v key shows once is = rw is (from (decision p (at p j g) header) refl)
  where
    from : (d : Decision) → decision p (at p j g) header ≡ d →
        (passed_for (at p j g) key d && is_among key (at p j g).on) ≡ has_one_of (slots p j) (slots_counted p.catalog t (verdict_of (at p j g) d)) key
    from stray decided = refl
    from unmatched decided = refl
    from (gated r) decided = refl
    from (passed r) decided =
        let there = passed_is p (at p j g) header r decided in
        let w = entry_named p j g t r shows once there in
        let own : Option Slot = option_map_or counted_slot (find (λ (e : TableEntry). source_is_named p.catalog r.properties.name e.source) t.entries) None in
        let rule : (is_key key r.properties.key && is_among key (at p j g).on) ≡ has_one_of (slots p j) (option_to_list own) key =
        slot_counts (slots p j) (at p j g).on r.properties.key w.0.counted w.0.slot key w.2.counted_is w.2.slot_is (shown_slots p j g r there)
        ∙ ap (λ (o : Option TableEntry). has_one_of (slots p j) (option_to_list (option_map_or counted_slot o None)) key) (sym w.1) in
        joined (is_key key r.properties.key) (is_among key (at p j g).session) (is_among key (at p j g).on)
        ∙ ap₂ (λ a b. a || b) ((by_key p j g t.session shows.session).on_is key) rule
        ∙ sym (with_up (slots p j) t.session own key (λ s some.
        let inside = counted_within p j g t r.properties.name (find (λ (e : TableEntry). source_is_named p.catalog r.properties.name e.source) t.entries) shows refl s some in
        let eight = shows.session.eight in omega (arith, inside.0, eight)))

-- and they are slots of keys
shown_within : (p : Setting) (j : Journal) (g : ℕ) (t : TableValue) (v : Verdict) → Shows p j g t → IsWithin (slots p j) (slots_counted p.catalog t v)
shown_within p j g t Stray shows = tt
shown_within p j g t Unmatched shows = tt
shown_within p j g t (Gated rule) shows = tt
shown_within p j g t (Passed rule bearer) shows =
    with_up_within (slots p j) t.session (slot_for p.catalog t.entries (Passed rule bearer))
    (λ s some.
    let inside = counted_within p j g t rule (find (λ (e : TableEntry). source_is_named p.catalog rule e.source) t.entries) shows refl s some in
    let eight = shows.session.eight in (omega (arith, inside.0, eight), inside.1))
    (by_key p j g t.session shows.session).within

-- so these are the slots of those keys
pub shown_slots_of : (p : Setting) (j : Journal) (g : ℕ) (t : TableValue) (header : Header) (v : Verdict) → Shows p j g t → NamesOnce (at p j g).rules → v ≡ verdict_at p (at p j g) header →
    AreSlotsOf (slots p j) (λ key. counts_in p (at p j g) key header) (slots_counted p.catalog t v)
shown_slots_of p j g t header v shows once is =
    are_slots_of (slots p j) (λ key. counts_in p (at p j g) key header) (slots_counted p.catalog t v) (slots_once p (tables j)) (shown_within p j g t v shows)
    (λ key. shown_counts p j g t header v key shows once is)
