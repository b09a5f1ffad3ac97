-- The tables that Install, Remove and Monitor make show the next generation.
use Rattle.std.proofs.Common.{◌≡◌, ◌∙◌, ◌+◌, ℕ, Bool, true, false, ◌||◌, ◌&&◌, not, List, [], ◌∷◌, refl, sym, ap, subst, arith, inl, inr, filter, map, Contains, Some, None, ◌==◌}
use Rattle.std.specs.Prelude.{◌⊎◌, ◌<◌, IfSome, Option}
use Rattle.std.specs.List.{list_any}
use Rattle.std.specs.Option.{option_map, option_map_or}
use Rattle.std.proofs.lemmas.Bool.{cases_Bool, or_right, eqb-true, eq-eqb, false_from_ne_true, not_from_false, not_from_true}
use Rattle.std.proofs.lemmas.List.Elements.{Contains-append_cases, Contains-append_left, Contains-append_right}
use Rattle.pcef_rule.specs.declared.quantity.BearerId.{BearerId}
use Rattle.pcef_rule.specs.declared.quantity.Qos.{Qos}
use Rattle.pcef_rule.specs.declared.quantity.Slot.{Slot}
use Rattle.pcef_rule.specs.declared.rule.Properties.{Properties}
use Rattle.pcef_rule.specs.Precedence.{rank_by}
use Rattle.pcef_rule.proofs.OrderOfRules.{one_goes_first}
use Rattle.pcef_table.specs.declared.entry.TableEntry.{TableEntry}
use Rattle.pcef_catalog.specs.declared.listing.Offer.{Offer}
use Rattle.pcef_table.specs.Sources.{name_of, no_rank, source_origin, properties_of, source_rank}
use Rattle.pcef_table.specs.Tables.{IsTable, TableValue, has_other_name, goes_ahead, is_behind, is_slot, placed, with_counting, without_entry}
use Rattle.pcef_model.specs.declared.entry.Entry.TheVariants as entry
use Rattle.pcef_model.specs.declared.command.Command.{Command}
use Rattle.pcef_model.specs.declared.command.Command.TheVariants.{Monitor, Stop}
use Rattle.pcef_model.specs.declared.level.Level.{Level}
use Rattle.pcef_model.specs.Setting.{Setting, most_keys, same_name, same_qos}
use Rattle.pcef_model.specs.ActiveRules.{Active, has_key, is_key, put}
use Rattle.pcef_model.specs.Generations.{Generation, id_after, next, rules_after, slots_of, still_on}
use Rattle.pcef_model.specs.Commands.{add_key, is_among, switched, is_table}
use Rattle.pcef_model.specs.Bearers.{default_id}
use Rattle.pcef_model.specs.Entries.{Journal}
use Rattle.pcef_model.specs.Journals.{at, gen, now, slots, tables}
use Rattle.pcef_model.proofs.Growth.{at_newest, gen_after_table, now_after_table, tables_of_table}
use Rattle.pcef_base.proofs.Tests.{contrary}
use Rattle.pcef_model.proofs.Sameness.{same_name_is, same_name_of, same_qos_self, same_name_not, same_name_turned}
use Rattle.pcef_model.specs.declared.entry.Entry.TheVariants as entry
use Rattle.pcef_usage.proofs.Gone.{among_filter}
use Rattle.pcef_usage.proofs.Slots.{is_among_add}
use Rattle.pcef_model.specs.Changes.{MakesActive}
use Rattle.pcef_session.specs.Shown.{Shows, ShowsSessionKeys, StandsFor, entry_rule}
use Rattle.pcef_model.specs.Slots.{counts_now, place_of, slot_of}
use Rattle.pcef_model.specs.Lawful.{Lawful}
use Rattle.pcef_model.proofs.BearerIds.{lawful_bound}
use Rattle.pcef_model.proofs.BoundRules.{NamesOnce}
use Rattle.pcef_base.proofs.Found.{any_from}
use Rattle.pcef_model.proofs.Members.{filter_from, filter_to, first_there, later_there, map_from, map_to, put_cases, put_new, put_old, there_cases}
use Rattle.pcef_model.proofs.SlotsGrow.{shown_slots, slot_stays}
use Rattle.pcef_model.proofs.Decisive.{made_once}
use Rattle.pcef_session.proofs.ShownVerdicts.{rule_is}
use Rattle.pcef_model.proofs.SlotPlaces.{Grows, place_once, slots_grow}
use Rattle.pcef_model.proofs.RulesAfter.{filter_all}

-- ---- keys that stay on
on_kept : (key : List ℕ) (test : List ℕ → Bool) (keys : List (List ℕ)) → test key ≡ true → is_among key (filter test keys) ≡ is_among key keys
on_kept key test [] passes = refl
on_kept key test (k ∷ keys) passes =
    elim (cases_Bool (same_name key k)) [
      | inl same ↦
          let at_k : test k ≡ true = ap test (sym (same_name_is key k same)) ∙ passes in rw (at_k, same) refl
      | inr differs ↦ elim (cases_Bool (test k)) [
        | inl kept ↦ rw (kept, differs) (on_kept key test keys passes)
        | inr dropped ↦ rw (dropped, differs) (on_kept key test keys passes)
      ]
    ]

pub has_key_from : (rs : List Active) (r : Active) (key : List ℕ) → Contains rs r → r.properties.key ≡ Some key → has_key key rs ≡ true
has_key_from rs r key there is = any_from (λ x. is_key key x.properties.key) rs r there (ap (is_key key) is ∙ same_name_of key key refl)

-- the key of a rule that is there afterwards stays on or off
pub still : (old new : List Active) (on : List (List ℕ)) (r : Active) → Contains new r → counts_now (still_on old new on) r.properties.key ≡ counts_now on r.properties.key
still old new on r there = from r.properties.key refl
  where
    from : (key : Option (List ℕ)) → r.properties.key ≡ key → counts_now (still_on old new on) key ≡ counts_now on key
    from None is = refl
    from (Some key) is =
        on_kept key (λ k. not (has_key k old) || has_key k new) on (or_right (not (has_key key old)) (has_key key new) (has_key_from new r key there is))

-- ---- bearers that stay
-- the pair of a rule that was there keeps its id
unfoldable pub Fives : Setting → Generation → Type 0
Fives p g = (q : Qos) → same_qos q p.default_qos ≡ true → g.id_of q ≡ default_id

id_stays : (p : Setting) (g : Generation) (new : List Active) (r : Active) → Fives p g → Contains g.rules r → id_after p g new r.properties.qos ≡ g.id_of r.properties.qos
unfolding Fives
id_stays p g new r fives there =
    elim (cases_Bool (same_qos r.properties.qos p.default_qos)) [
      | inl default ↦ rw default (sym (fives r.properties.qos default))
      | inr other ↦
          let has : list_any (λ (x : Active). same_qos r.properties.qos x.properties.qos) g.rules ≡ true =
          any_from (λ (x : Active). same_qos r.properties.qos x.properties.qos) g.rules r there (same_qos_self r.properties.qos) in
          rw (other, has) refl
    ]

-- ---- the next generation
pub after_is : (p : Setting) (j : Journal) (c : Command) → is_table c ≡ true → at p (entry.Command c ∷ j) (gen (entry.Command c ∷ j)) ≡ next p (now p j) c
after_is p j c is = at_newest p (entry.Command c ∷ j) ∙ now_after_table p j c is

-- an entry keeps the bearer of a rule that was there
bearer_next : (p : Setting) (j : Journal) (c : Command) (e : TableEntry) (r : Active) → is_table c ≡ true → Fives p (now p j) → Contains (now p j).rules r →
    StandsFor p j (gen j) e r → e.bearer.0 ≡ (at p (entry.Command c ∷ j) (gen (entry.Command c ∷ j))).id_of r.properties.qos
bearer_next p j c e r is fives there stands =
    rw (after_is p j c is) (stands.bearer_is ∙ ap (λ (g : Generation). g.id_of r.properties.qos) (at_newest p j) ∙ sym (id_stays p (now p j) (rules_after p (now p j) c) r fives there))

-- and the slot of its key
slot_next : (p : Setting) (j : Journal) (c : Command) (e : TableEntry) (r : Active) → is_table c ≡ true → Contains (now p j).rules r →
    StandsFor p j (gen j) e r → option_map (λ s. s.0) e.slot ≡ slot_of (slots p (entry.Command c ∷ j)) r.properties.key
slot_next p j c e r is there stands =
    let grown : Grows (slots p j) (slots p (entry.Command c ∷ j)) = (let g = slots_grow p c (tables j) in (g.0, ap (slots_of p) (tables_of_table j c is) ∙ g.1)) in
    let shown : Contains (at p j (gen j)).rules r = subst (λ (g : Generation). Contains g.rules r) (sym (at_newest p j)) there in
    stands.slot_is ∙ sym (slot_stays (slots p j) (slots p (entry.Command c ∷ j)) r.properties.key grown (shown_slots p j (gen j) r shown))

-- an entry goes on standing for a rule that stays, where its key stays on or off
pub stands_next : (p : Setting) (j : Journal) (c : Command) (e : TableEntry) (r : Active) → is_table c ≡ true → Fives p (now p j) → Contains (now p j).rules r →
    counts_now (next p (now p j) c).on r.properties.key ≡ counts_now (now p j).on r.properties.key →
    StandsFor p j (gen j) e r → StandsFor p (entry.Command c ∷ j) (gen (entry.Command c ∷ j)) e r
stands_next p j c e r is fives there on stands = record {
  rule_is = stands.rule_is;
  bearer_is = bearer_next p j c e r is fives there stands;
  slot_is = slot_next p j c e r is there stands;
  slot_low = stands.slot_low;
  counted_is = rw (after_is p j c is) (stands.counted_is ∙ ap (λ (g : Generation). counts_now g.on r.properties.key) (at_newest p j) ∙ sym on);
}

-- what a table says of a generation that a table command made
pub shows_next : (p : Setting) (j : Journal) (c : Command) (t : TableValue) → is_table c ≡ true → t.number ≡ gen j + 1 → IsTable p.catalog t.entries →
    ShowsSessionKeys p (entry.Command c ∷ j) (gen (entry.Command c ∷ j)) t.session →
    ((r : Active) → Contains (rules_after p (now p j) c) r → (e : TableEntry) × Contains t.entries e × StandsFor p (entry.Command c ∷ j) (gen (entry.Command c ∷ j)) e r) →
    ((e : TableEntry) → Contains t.entries e → (r : Active) × Contains (rules_after p (now p j) c) r × StandsFor p (entry.Command c ∷ j) (gen (entry.Command c ∷ j)) e r) →
    Shows p (entry.Command c ∷ j) (gen (entry.Command c ∷ j)) t
shows_next p j c t is number table session each only =
    let after = after_is p j c is in
    record {
      number_is = omega (arith, number, gen_after_table j c is);
      ordered = table;
      session = session;
      each = λ r there. each r (subst (λ (g : Generation). Contains g.rules r) after there);
      only = λ e there. let w = only e there in (w.0, subst (λ (g : Generation). Contains g.rules w.0) (sym after) w.1, w.2);
    }

-- the rule of each entry, and the entry of each rule, in the newest generation
pub each_now : (p : Setting) (j : Journal) (t : TableValue) → Shows p j (gen j) t → (r : Active) → Contains (now p j).rules r → (e : TableEntry) × Contains t.entries e × StandsFor p j (gen j) e r
each_now p j t shows r there = shows.each r (subst (λ (g : Generation). Contains g.rules r) (sym (at_newest p j)) there)

pub only_now : (p : Setting) (j : Journal) (t : TableValue) → Shows p j (gen j) t → (e : TableEntry) → Contains t.entries e → (r : Active) × Contains (now p j).rules r × StandsFor p j (gen j) e r
only_now p j t shows e there = let w = shows.only e there in (w.0, subst (λ (g : Generation). Contains g.rules w.0) (at_newest p j) w.1, w.2)

-- the name of an entry is that of its rule
pub name_is : (p : Setting) (j : Journal) (g : ℕ) (e : TableEntry) (r : Active) → StandsFor p j g e r → name_of p.catalog e.source ≡ r.properties.name
name_is p j g e r stands = ap (λ o. option_map_or (λ q. q.name) o []) (rule_is p.catalog e.source r stands.rule_is).properties_are

-- ---- a rule that becomes active
pub rank_name : (offers : List Offer) (e : TableEntry) → (source_rank offers e.source).name ≡ name_of offers e.source
rank_name offers e = from (properties_of offers e.source)
  where
    from : (o : Option Properties) → (option_map_or (rank_by (source_origin e.source)) o no_rank).name ≡ option_map_or (λ q. q.name) o []
    from None = refl
    from (Some q) = refl

-- an entry of another name stands before the new one or behind it
side_of : (offers : List Offer) (x e : TableEntry) → has_other_name offers (name_of offers x.source) e ≡ true →
    (goes_ahead offers x e ≡ true) ⊎ (is_behind offers x e ≡ true)
side_of offers x e other =
    elim (one_goes_first (source_rank offers e.source) (source_rank offers x.source) (λ same.
    contrary (has_other_name offers (name_of offers x.source) e) other
    (not_from_true (same_name (name_of offers e.source) (name_of offers x.source))
    (same_name_of (name_of offers e.source) (name_of offers x.source) (sym (rank_name offers e) ∙ same ∙ rank_name offers x))))) [
      | inl before ↦ inl before.0
      | inr behind ↦ inr behind.1
    ]

placed_new : (offers : List Offer) (x : TableEntry) (entries : List TableEntry) → Contains (placed offers x entries) x
placed_new offers x entries =
    let others = without_entry offers (name_of offers x.source) entries in
    Contains-append_right (filter (goes_ahead offers x) others) (x ∷ filter (is_behind offers x) others) x (first_there x (filter (is_behind offers x) others))

placed_old : (offers : List Offer) (x : TableEntry) (entries : List TableEntry) (e : TableEntry) → Contains entries e → has_other_name offers (name_of offers x.source) e ≡ true →
    Contains (placed offers x entries) e
placed_old offers x entries e there other =
    let others = without_entry offers (name_of offers x.source) entries in
    let stays : Contains others e = filter_to (has_other_name offers (name_of offers x.source)) entries e there other in
    elim (side_of offers x e other) [
      | inl before ↦
          Contains-append_left (filter (goes_ahead offers x) others) (x ∷ filter (is_behind offers x) others) e (filter_to (goes_ahead offers x) others e stays before)
      | inr behind ↦
          Contains-append_right (filter (goes_ahead offers x) others) (x ∷ filter (is_behind offers x) others) e
          (later_there x (filter (is_behind offers x) others) e (filter_to (is_behind offers x) others e stays behind))
    ]

placed_cases : (offers : List Offer) (x : TableEntry) (entries : List TableEntry) (e : TableEntry) → Contains (placed offers x entries) e →
    (x ≡ e) ⊎ (Contains entries e × (has_other_name offers (name_of offers x.source) e ≡ true))
placed_cases offers x entries e there =
    let others = without_entry offers (name_of offers x.source) entries in
    let old : Contains others e → Contains entries e × (has_other_name offers (name_of offers x.source) e ≡ true) =
    λ stays. filter_from (has_other_name offers (name_of offers x.source)) entries e stays in
    elim (Contains-append_cases (filter (goes_ahead offers x) others) (x ∷ filter (is_behind offers x) others) e there) [
      | inl before ↦ inr (old (filter_from (goes_ahead offers x) others e before).0)
      | inr rest ↦ elim (there_cases x (filter (is_behind offers x) others) e rest) [
        | inl same ↦ inl same
        | inr behind ↦ inr (old (filter_from (is_behind offers x) others e behind).0)
      ]
    ]

-- the entry of the new rule stands for it, and those of other rules for theirs
pub shows_put : (p : Setting) (j : Journal) (c : Command) (new : Active) (x : TableEntry) (t : TableValue) (number : ℕ) (entries : List TableEntry) (flags : List Bool) → MakesActive p c new → Fives p (now p j) → Shows p j (gen j) t →
    StandsFor p (entry.Command c ∷ j) (gen (entry.Command c ∷ j)) x new →
    number ≡ t.number + 1 → entries ≡ placed p.catalog x t.entries → IsTable p.catalog entries → ShowsSessionKeys p (entry.Command c ∷ j) (gen (entry.Command c ∷ j)) flags →
    Shows p (entry.Command c ∷ j) (gen (entry.Command c ∷ j)) (record { number = number; entries = entries; session = flags })
shows_put p j c new x t number entries flags makes fives shows stands number_is entries_are table session =
    let k : Journal = entry.Command c ∷ j in
    let is = makes.is_table in
    let rules_are : rules_after p (now p j) c ≡ put new (now p j).rules = makes.rules_are (now p j) in
    let on : (r : Active) → Contains (rules_after p (now p j) c) r → counts_now (next p (now p j) c).on r.properties.key ≡ counts_now (now p j).on r.properties.key =
    λ r there. still (now p j).rules (rules_after p (now p j) c) (switched c (now p j).on) r there ∙ ap (λ keys. counts_now keys r.properties.key) (makes.on_is (now p j).on) in
    let once : NamesOnce (now p j).rules = made_once p (tables j) in
    let x_name : name_of p.catalog x.source ≡ new.properties.name = name_is p k (gen k) x new stands in
    shows_next p j c (record { number = number; entries = entries; session = flags }) is (omega (arith, number_is, shows.number_is)) table session
    (λ r there. elim (put_cases new (now p j).rules r once (subst (λ rs. Contains rs r) rules_are there)) [
      | inl same ↦ (x, subst (λ es. Contains es x) (sym entries_are) (placed_new p.catalog x t.entries), subst (StandsFor p k (gen k) x) same stands)
      | inr old ↦
          let w = each_now p j t shows r old.0 in
          let differs : same_name (name_of p.catalog w.0.source) (name_of p.catalog x.source) ≡ false =
          ap (λ n. same_name n (name_of p.catalog x.source)) (name_is p j (gen j) w.0 r w.2) ∙ ap (same_name r.properties.name) x_name ∙ old.1 in (
            w.0,
            subst (λ es. Contains es w.0) (sym entries_are) (placed_old p.catalog x t.entries w.0 w.1 (not_from_false (same_name (name_of p.catalog w.0.source) (name_of p.catalog x.source)) differs)),
            stands_next p j c w.0 r is fives old.0 (on r there) w.2,
          )
    ])
    (λ e there. elim (placed_cases p.catalog x t.entries e (subst (λ es. Contains es e) entries_are there)) [
      | inl same ↦ (new, subst (λ rs. Contains rs new) (sym rules_are) (put_new new (now p j).rules), subst (λ (y : TableEntry). StandsFor p k (gen k) y new) same stands)
      | inr old ↦
          let w = only_now p j t shows e old.0 in
          let differs : same_name w.0.properties.name new.properties.name ≡ false =
          false_from_ne_true (same_name w.0.properties.name new.properties.name) (λ same.
          contrary (has_other_name p.catalog (name_of p.catalog x.source) e) old.1
          (not_from_true (same_name (name_of p.catalog e.source) (name_of p.catalog x.source))
          (ap (λ n. same_name n (name_of p.catalog x.source)) (name_is p j (gen j) e w.0 w.2) ∙ ap (same_name w.0.properties.name) x_name ∙ same))) in
          let after = subst (λ rs. Contains rs w.0) (sym rules_are) (put_old new (now p j).rules w.0 w.1 differs) in
          (w.0, after, stands_next p j c e w.0 is fives w.1 (on w.0 after) w.2)
    ])

-- ---- Monitor
or_false : (b : Bool) → (b || false) ≡ b
or_false true = refl
or_false false = refl

-- an entry counts for the slot of a key that is switched on where the key is its rule's
counting_next : (keys on : List (List ℕ)) (key : List ℕ) (slot : Slot) (e : TableEntry) (key_of : Option (List ℕ)) → place_of key keys ≡ Some slot.0 →
    option_map (λ (s : Slot). s.0) e.slot ≡ slot_of keys key_of → e.counted ≡ counts_now on key_of → (with_counting slot true e).counted ≡ counts_now (add_key key on) key_of
counting_next keys on key slot e key_of place slot_is counted_is = from e.slot key_of refl slot_is counted_is
  where
    from : (o : Option Slot) (k : Option (List ℕ)) → e.slot ≡ o → option_map (λ (s : Slot). s.0) o ≡ slot_of keys k → e.counted ≡ counts_now on k →
        (with_counting slot true e).counted ≡ counts_now (add_key key on) k
    from None None none is counted = rw none counted
    from (Some s) None some is counted = absurd cc
    from None (Some k) none is counted =
        let differs : same_name k key ≡ false = false_from_ne_true (same_name k key) (λ same.
        let e2 : None ≡ Some slot.0 = is ∙ ap (λ n. place_of n keys) (same_name_is k key same) ∙ place in cc) in
        rw none (counted ∙ sym (is_among_add k key on ∙ ap (λ b. is_among k on || b) differs ∙ or_false (is_among k on)))
    from (Some s) (Some k) some is counted =
        elim (cases_Bool (same_name k key)) [
          | inl same ↦
              let e2 : Some s.0 ≡ Some slot.0 = is ∙ ap (λ n. place_of n keys) (same_name_is k key same) ∙ place in
              let hit : (s.0 == slot.0) ≡ true = eq-eqb s.0 slot.0 cc in
              rw (some, hit) (sym (is_among_add k key on ∙ or_right (is_among k on) (same_name k key) same))
          | inr differs ↦
              let miss : (s.0 == slot.0) ≡ false = false_from_ne_true (s.0 == slot.0) (λ hit.
              contrary (same_name k key) (same_name_of k key (place_once k key keys s.0 (sym is) (place ∙ ap (λ (n : ℕ). Some n) (sym (eqb-true s.0 slot.0 hit))))) differs) in
              rw (some, miss) (counted ∙ sym (is_among_add k key on ∙ ap (λ b. is_among k on || b) differs ∙ or_false (is_among k on)))
        ]

and_no : (a : Bool) → (a && not true) ≡ false
and_no true = refl
and_no false = refl

and_yes : (a : Bool) → (a && not false) ≡ a
and_yes true = refl
and_yes false = refl

-- it doesn't where the key is switched off
uncounting_next : (keys on : List (List ℕ)) (key : List ℕ) (slot : Slot) (e : TableEntry) (key_of : Option (List ℕ)) → place_of key keys ≡ Some slot.0 →
    option_map (λ (s : Slot). s.0) e.slot ≡ slot_of keys key_of → e.counted ≡ counts_now on key_of → (with_counting slot false e).counted ≡ counts_now (filter (λ m. not (same_name key m)) on) key_of
uncounting_next keys on key slot e key_of place slot_is counted_is = from e.slot key_of refl slot_is counted_is
  where
    off : (k : List ℕ) → same_name k key ≡ true → is_among k (filter (λ m. not (same_name key m)) on) ≡ false
    off k same =
        among_filter (λ m. not (same_name key m)) k on ∙ ap (λ b. is_among k on && not b) (same_name_turned k key same) ∙ and_no (is_among k on)

    stays : (k : List ℕ) → same_name k key ≡ false → is_among k (filter (λ m. not (same_name key m)) on) ≡ is_among k on
    stays k differs =
        among_filter (λ m. not (same_name key m)) k on ∙ ap (λ b. is_among k on && not b) (same_name_not k key differs) ∙ and_yes (is_among k on)

    from : (o : Option Slot) (k : Option (List ℕ)) → e.slot ≡ o → option_map (λ (s : Slot). s.0) o ≡ slot_of keys k → e.counted ≡ counts_now on k →
        (with_counting slot false e).counted ≡ counts_now (filter (λ m. not (same_name key m)) on) k
    from None None none is counted = rw none counted
    from (Some s) None some is counted = absurd cc
    from None (Some k) none is counted =
        let differs : same_name k key ≡ false = false_from_ne_true (same_name k key) (λ same.
        let e2 : None ≡ Some slot.0 = is ∙ ap (λ n. place_of n keys) (same_name_is k key same) ∙ place in cc) in
        rw none (counted ∙ sym (stays k differs))
    from (Some s) (Some k) some is counted =
        elim (cases_Bool (same_name k key)) [
          | inl same ↦
              let e2 : Some s.0 ≡ Some slot.0 = is ∙ ap (λ n. place_of n keys) (same_name_is k key same) ∙ place in
              let hit : (s.0 == slot.0) ≡ true = eq-eqb s.0 slot.0 cc in
              rw (some, hit) (sym (off k same))
          | inr differs ↦
              let miss : (s.0 == slot.0) ≡ false = false_from_ne_true (s.0 == slot.0) (λ hit.
              contrary (same_name k key) (same_name_of k key (place_once k key keys s.0 (sym is) (place ∙ ap (λ (n : ℕ). Some n) (sym (eqb-true s.0 slot.0 hit))))) differs) in
              rw (some, miss) (counted ∙ sym (stays k differs))
        ]

-- what counting leaves of an entry
keeps_source : (slot : Slot) (b : Bool) (e : TableEntry) → (with_counting slot b e).source ≡ e.source
keeps_source slot b e = elim (cases_Bool (is_slot slot e.slot)) [ inl hit ↦ rw hit refl | inr miss ↦ rw miss refl ]

keeps_bearer : (slot : Slot) (b : Bool) (e : TableEntry) → (with_counting slot b e).bearer ≡ e.bearer
keeps_bearer slot b e = elim (cases_Bool (is_slot slot e.slot)) [ inl hit ↦ rw hit refl | inr miss ↦ rw miss refl ]

keeps_slot : (slot : Slot) (b : Bool) (e : TableEntry) → (with_counting slot b e).slot ≡ e.slot
keeps_slot slot b e = elim (cases_Bool (is_slot slot e.slot)) [ inl hit ↦ rw hit refl | inr miss ↦ rw miss refl ]

-- a command that leaves the rules and switches a key: the entries that have its slot count from then on, or don't
pub shows_switched : (p : Setting) (j : Journal) (c : Command) (slot : Slot) (b : Bool) (t : TableValue) (number : ℕ) (entries : List TableEntry) (flags : List Bool) → is_table c ≡ true →
    rules_after p (now p j) c ≡ (now p j).rules →
    ((e : TableEntry) (key_of : Option (List ℕ)) → option_map (λ (s : Slot). s.0) e.slot ≡ slot_of (slots p (entry.Command c ∷ j)) key_of → e.counted ≡ counts_now (now p j).on key_of →
    (with_counting slot b e).counted ≡ counts_now (switched c (now p j).on) key_of) →
    Fives p (now p j) → Shows p j (gen j) t → number ≡ t.number + 1 → entries ≡ map (with_counting slot b) t.entries → IsTable p.catalog entries →
    ShowsSessionKeys p (entry.Command c ∷ j) (gen (entry.Command c ∷ j)) flags →
    Shows p (entry.Command c ∷ j) (gen (entry.Command c ∷ j)) (record { number = number; entries = entries; session = flags })
shows_switched p j c slot b t number entries flags is stay turns fives shows number_is entries_are table session =
    let k : Journal = entry.Command c ∷ j in
    let back : (r : Active) → Contains (rules_after p (now p j) c) r → Contains (now p j).rules r = λ r there. subst (λ (rs : List Active). Contains rs r) stay there in
    let stands : (e : TableEntry) (r : Active) → Contains (rules_after p (now p j) c) r → StandsFor p j (gen j) e r → StandsFor p k (gen k) (with_counting slot b e) r =
    λ e r there stands. record {
      rule_is = ap (entry_rule p.catalog) (keeps_source slot b e) ∙ stands.rule_is;
      bearer_is = ap (λ (x : BearerId). x.0) (keeps_bearer slot b e) ∙ bearer_next p j c e r is fives (back r there) stands;
      slot_is = ap (option_map (λ (s : Slot). s.0)) (keeps_slot slot b e) ∙ slot_next p j c e r is (back r there) stands;
      slot_low = subst (λ (o : Option Slot). IfSome o (λ s. s.0 < most_keys)) (sym (keeps_slot slot b e)) stands.slot_low;
      counted_is = rw (after_is p j c is)
          (turns e r.properties.key (slot_next p j c e r is (back r there) stands)
          (stands.counted_is ∙ ap (λ (g : Generation). counts_now g.on r.properties.key) (at_newest p j))
          ∙ sym (still (now p j).rules (rules_after p (now p j) c) (switched c (now p j).on) r there));
    } in
    shows_next p j c (record { number = number; entries = entries; session = flags }) is (omega (arith, number_is, shows.number_is)) table session
    (λ r there.
    let w = each_now p j t shows r (back r there) in
    (with_counting slot b w.0, subst (λ es. Contains es (with_counting slot b w.0)) (sym entries_are) (map_to (with_counting slot b) t.entries w.0 w.1), stands w.0 r there w.2))
    (λ e there.
    let v = map_from (with_counting slot b) t.entries e (subst (λ es. Contains es e) entries_are there) in
    let w = only_now p j t shows v.0 v.1 in
    let after : Contains (rules_after p (now p j) c) w.0 = subst (λ (rs : List Active). Contains rs w.0) (sym stay) w.1 in
    (w.0, after, subst (λ (y : TableEntry). StandsFor p k (gen k) y w.0) v.2 (stands v.0 w.0 after w.2)))

-- the entries that have the slot of the key count now
pub shows_monitor : (p : Setting) (j : Journal) (key : List ℕ) (amount : ℕ) (level : Level) (slot : Slot) (t : TableValue) (number : ℕ) (entries : List TableEntry) (flags : List Bool) → Fives p (now p j) → Shows p j (gen j) t →
    place_of key (slots p (entry.Command (Monitor key amount level) ∷ j)) ≡ Some slot.0 → number ≡ t.number + 1 → entries ≡ map (with_counting slot true) t.entries → IsTable p.catalog entries →
    ShowsSessionKeys p (entry.Command (Monitor key amount level) ∷ j) (gen (entry.Command (Monitor key amount level) ∷ j)) flags →
    Shows p (entry.Command (Monitor key amount level) ∷ j) (gen (entry.Command (Monitor key amount level) ∷ j)) (record { number = number; entries = entries; session = flags })
shows_monitor p j key amount level slot t number entries flags fives shows place number_is entries_are table session =
    shows_switched p j (Monitor key amount level) slot true t number entries flags refl (filter_all (now p j).rules)
    (λ e key_of slot_is counted_is. counting_next (slots p (entry.Command (Monitor key amount level) ∷ j)) (now p j).on key slot e key_of place slot_is counted_is) fives shows number_is entries_are table session

-- and no longer
pub shows_stop : (p : Setting) (j : Journal) (key : List ℕ) (slot : Slot) (t : TableValue) (number : ℕ) (entries : List TableEntry) (flags : List Bool) → Fives p (now p j) → Shows p j (gen j) t →
    place_of key (slots p (entry.Command (Stop key) ∷ j)) ≡ Some slot.0 → number ≡ t.number + 1 → entries ≡ map (with_counting slot false) t.entries → IsTable p.catalog entries →
    ShowsSessionKeys p (entry.Command (Stop key) ∷ j) (gen (entry.Command (Stop key) ∷ j)) flags →
    Shows p (entry.Command (Stop key) ∷ j) (gen (entry.Command (Stop key) ∷ j)) (record { number = number; entries = entries; session = flags })
shows_stop p j key slot t number entries flags fives shows place number_is entries_are table session =
    shows_switched p j (Stop key) slot false t number entries flags refl (filter_all (now p j).rules)
    (λ e key_of slot_is counted_is. uncounting_next (slots p (entry.Command (Stop key) ∷ j)) (now p j).on key slot e key_of place slot_is counted_is) fives shows number_is entries_are table session

-- the default pair keeps the default bearer
pub lawful_fives : (p : Setting) (j : Journal) → Lawful p j → Fives p (now p j)
unfolding Fives
lawful_fives p j lawful q default = (lawful_bound p j lawful).five q default
