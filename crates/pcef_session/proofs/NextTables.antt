-- The tables that commands make show their generations, with at most one entry for each rule.
use Rattle.std.proofs.Common.{◌≡◌, ◌∙◌, ◌≤◌, ◌<◌, ◌+◌, ℕ, suc, Bool, true, false, ◌&&◌, ◌||◌, List, [], ◌∷◌, ◌++◌, length, refl, sym, ap, subst, arith, inl, inr, map, Contains, Some, None, All, AllPairs, IsTrue}
use Rattle.std.specs.Prelude.{Option, Result, Ok, Err, IfOk, IfSome, slice_get, not, unwrap_or, nat_le, set, if◌then◌else◌}
use Rattle.std.specs.Option.{option_map}
use Rattle.std.proofs.lemmas.Option.{slice_get_within}
use Rattle.std.specs.List.{AllByRecursion, IsDistinct, list_any}
use Rattle.std.proofs.lemmas.Bool.{cases_Bool, false_from_ne_true, leb-false}
use Rattle.std.proofs.lemmas.List.{length-map}
use Rattle.std.proofs.lemmas.List.Elements.{All-head, All-tail}
use Rattle.std.proofs.lemmas.Map.Made.{length-le_from_is_member}
use Rattle.std.specs.Cmp.Lexicographic.{nat_list_eq_equiv}
use Rattle.pcef_rule.specs.declared.quantity.Slot.{Slot}
use Rattle.pcef_rule.specs.declared.rule.Properties.{Properties}
use Rattle.pcef_rule.specs.Precedence.{Rank, goes_before}
use Rattle.pcef_table.specs.declared.entry.TableEntry.{TableEntry}
use Rattle.pcef_table.specs.declared.entry.Source.{Source}
use Rattle.pcef_table.specs.declared.entry.Source.TheVariants.{Dynamic, Predefined}
use Rattle.pcef_catalog.specs.declared.listing.Offer.{Offer}
use Rattle.pcef_table.specs.Sources.{IsKnown, name_of, source_rank}
use Rattle.pcef_table.specs.Tables.{GoesBefore, IsTable, TableValue, placed, with_counting, without_taken, is_taken, is_slot}
use Rattle.pcef_base.proofs.Foremost.{ordered_head, ordered_tail}
use Rattle.pcef_table.proofs.Ordered.{apart, counting_is_table, placed_is_table, part_is_table}
use Rattle.pcef_model.specs.declared.entry.Entry.TheVariants as entry
use Rattle.pcef_model.specs.declared.command.Command.{Command}
use Rattle.pcef_model.specs.declared.command.Command.TheVariants.{ReportNow, Triggers, Notice, LoseBearer, Close, Terminate, Install, Activate, Monitor, Remove, Stop}
use Rattle.pcef_model.specs.declared.level.Level.{Level}
use Rattle.pcef_model.specs.declared.level.Level.TheVariants.{Rule, Session}
use Rattle.pcef_model.proofs.RulesAfter.{filter_all}
use Rattle.pcef_model.specs.Setting.{Setting, most_keys, same_name}
use Rattle.pcef_model.specs.ActiveRules.{Active, has_key, predefined, put}
use Rattle.pcef_model.specs.ActiveRules as rules
use Rattle.pcef_model.specs.Generations.{Generation, add_if_some, next, rules_after, slots_of}
use Rattle.pcef_model.specs.Commands.{add_key, at_session_level, is_among, key_named, switched, is_table, activated}
use Rattle.pcef_model.specs.Entries.{Journal}
use Rattle.pcef_model.specs.Journals.{at, gen, level_of, now, slots, tables}
use Rattle.pcef_model.proofs.Growth.{at_newest, tables_of_table, tables_of_other}
use Rattle.pcef_base.proofs.Tests.{contrary}
use Rattle.pcef_model.proofs.Sameness.{same_name_is, same_name_not, same_name_of, same_name_turned}
use Rattle.pcef_model.specs.declared.entry.Entry.TheVariants as entry
use Rattle.pcef_model.specs.ActiveRules as rules
use Rattle.pcef_usage.specs.declared.usage.KeyState.{KeyState}
use Rattle.pcef_usage.specs.Keys.{finds_no_place, has_slot, keys_of, slot_place as place_in, state_at}
use Rattle.pcef_usage.specs.PendingReports.{AllCount, AllOn, Counts, OnIs}
use Rattle.pcef_usage.proofs.Slots.{slot_of_on}
use Rattle.pcef_usage.proofs.Tells.{all_same, has_slot_is}
use Rattle.pcef_session.specs.private.Parts.{Held}
use Rattle.pcef_session.specs.Agreement.{KeyAgrees}
use Rattle.pcef_bearer.specs.Bindings.{Binding}
use Rattle.pcef_bearer.specs.BindingSteps.{id_excluding, without_bound as bound_without}
use Rattle.pcef_session.specs.declared.prepared.Activation.{Activation}
use Rattle.pcef_bearer.specs.Standing.{binding_of}
use Rattle.pcef_rule.specs.declared.quantity.BearerId.{BearerId}
use Rattle.pcef_session.specs.Preparing.{GetsBearer, IsActivationOf, IsBearerOf, IsTableAfter}
use Rattle.pcef_model.specs.Changes.{MakesActive}
use Rattle.pcef_session.specs.private.Keys.{entries_switched, flags_left, flags_switched, is_on, key_switched, level_switched, switches_on}
use Rattle.pcef_model.specs.Refusals.{becoming_active, finds_no_slot as finds_none, first_of, refusals}
use Rattle.pcef_session.specs.Shown.{Shows, ShowsSessionKeys, StandsFor, is_session_on, entry_rule}
use Rattle.pcef_session.proofs.ShownSession.{monitored_rule, monitored_session, monitored_without, no_rule, same_session, session_ended, session_next, session_set, stays_on, stopped_rule, stopped_session}
use Rattle.pcef_session.proofs.Refused.{slotless_is}
use Rattle.pcef_usage.proofs.Levels.{level_at}
use Rattle.pcef_usage.proofs.Loops.{place_known}
use Rattle.pcef_usage.proofs.Slots.{is_among_add}
use Rattle.pcef_model.specs.Slots.{counts_now, place_of, slot_of}
use Rattle.pcef_model.proofs.Acceptance.{can_become, few_put, monitor_accepted, stop_accepted}
use Rattle.pcef_model.proofs.BearerIds.{lawful_bound}
use Rattle.pcef_bearer.proofs.BoundBearers.{next_id}
use Rattle.pcef_session.proofs.HeldSound.{IsSoundHeld, few_generations}
use Rattle.pcef_session.proofs.KeptRules.{kept_length}
use Rattle.pcef_model.proofs.BoundRules.{NamesOnce}
use Rattle.pcef_base.proofs.Found.{any_from}
use Rattle.pcef_model.proofs.Members.{first_there, later_there, map_to, put_new}
use Rattle.pcef_session.proofs.ShownChanges.{Fives, after_is, has_key_from, lawful_fives, name_is, shows_monitor, shows_put, still, shows_stop}
use Rattle.pcef_model.proofs.Decisive.{made_once, once_is}
use Rattle.pcef_session.proofs.ShownVerdicts.{rule_is}
use Rattle.pcef_session.proofs.ShownLater.{shows_same, shows_after}
use Rattle.pcef_session.specs.private.Entries.{with_command, IsEntryOf, IsEntryOn, ShowsNext}
use Rattle.pcef_session.proofs.TakenAway.{StayCounted, shows_left, stay_counted}
use Rattle.pcef_model.specs.Reports.{after_command}

-- ---- slots
here_place : (k : List ℕ) (states : List KeyState) → is_among k (keys_of states) ≡ true → place_of k (keys_of states) ≡ Some (place_in k states)
here_place k [] there = absurd cc
here_place k (s ∷ states) there =
    elim (cases_Bool (same_name k s.key)) [
      | inl same ↦ rw same refl
      | inr differs ↦ let later : is_among k (keys_of states) ≡ true = rw differs at there in rw differs (ap (option_map (λ n. suc n)) (here_place k states later))
    ]

next_place : (k : List ℕ) (states : List KeyState) → is_among k (keys_of states) ≡ false → place_of k (keys_of states ++ k ∷ []) ≡ Some (place_in k states)
next_place k [] absent = rw (same_name_of k k refl) refl
next_place k (s ∷ states) absent =
    elim (cases_Bool (same_name k s.key)) [
      | inl same ↦ let there : is_among k (keys_of (s ∷ states)) ≡ true = rw same refl in cc
      | inr differs ↦ let later : is_among k (keys_of states) ≡ false = rw differs at absent in rw differs (ap (option_map (λ n. suc n)) (next_place k states later))
    ]

-- a key without a slot has the place past the end
pub place_past : (k : List ℕ) (states : List KeyState) → has_slot k states ≡ false → length states ≡ place_in k states
place_past k [] absent = refl
place_past k (s ∷ states) absent =
    elim (cases_Bool (same_name k s.key)) [
      | inl same ↦ let there : has_slot k (s ∷ states) ≡ true = rw same refl in cc
      | inr differs ↦ let later : has_slot k states ≡ false = rw differs at absent in rw differs (ap suc (place_past k states later))
    ]

-- what stands past the end is of rule level
pub state_past : (k : List ℕ) (states : List KeyState) → has_slot k states ≡ false → (state_at (place_in k states) states).level ≡ Rule
state_past k [] absent = refl
state_past k (s ∷ states) absent =
    elim (cases_Bool (same_name k s.key)) [
      | inl same ↦ let there : has_slot k (s ∷ states) ≡ true = rw same refl in cc
      | inr differs ↦ let later : has_slot k states ≡ false = rw differs at absent in rw differs (state_past k states later)
    ]

-- a key's slot is its place, or the next one
pub key_place : (k : List ℕ) (states : List KeyState) → place_of k (add_key k (keys_of states)) ≡ Some (place_in k states)
key_place k states =
    elim (cases_Bool (is_among k (keys_of states))) [
      | inl there ↦ rw there (here_place k states there)
      | inr absent ↦ rw absent (next_place k states absent)
    ]

pub slots_next : (p : Setting) (j : Journal) (c : Command) → is_table c ≡ true → slots p (entry.Command c ∷ j) ≡ add_if_some (key_named p c) (slots p j)
unfolding slots_of
slots_next p j c is = ap (slots_of p) (tables_of_table j c is)

slot_named : (p : Setting) (j : Journal) (c : Command) (states : List KeyState) (key : Option (List ℕ)) → is_table c ≡ true → key_named p c ≡ key → keys_of states ≡ slots p j →
    option_map (λ k. place_in k states) key ≡ slot_of (slots p (entry.Command c ∷ j)) key
slot_named p j c states None table is keys = refl
slot_named p j c states (Some k) table is keys =
    sym (key_place k states) ∙ ap (place_of k) (ap (add_key k) keys ∙ ap (λ o. add_if_some o (slots p j)) (sym is) ∙ sym (slots_next p j c table))

-- ---- keys that are on
pub all_on_from : (p : Setting) (j : Journal) (states : List KeyState) → AllByRecursion (KeyAgrees p j) states → AllOn p j states
unfolding AllOn
all_on_from p j states all = all_same (KeyAgrees p j) (OnIs p j) states (λ s h. record { on_is = h.on_is }) all

pub all_levels_from : (p : Setting) (j : Journal) (states : List KeyState) → AllByRecursion (KeyAgrees p j) states → AllByRecursion (λ s. s.level ≡ level_of (now p j) s.key) states
all_levels_from p j states all = all_same (KeyAgrees p j) (λ s. s.level ≡ level_of (now p j) s.key) states (λ s h. h.level_is) all

pub all_count_from : (p : Setting) (j : Journal) (states : List KeyState) → AllByRecursion (KeyAgrees p j) states → AllCount p j [] states
unfolding AllCount
all_count_from p j states all =
    all_same (KeyAgrees p j) (Counts p j []) states (λ s h. record { grant_is = h.grant_is; reported_is = h.reported_is; counted_is = h.counted_is }) all

on_any : (on : List (List ℕ)) (k : List ℕ) (states : List KeyState) → AllByRecursion (λ s. s.on ≡ is_among s.key on) states →
    list_any (λ s. same_name s.key k && s.on) states ≡ (is_among k (keys_of states) && is_among k on)
on_any on k [] all = refl
on_any on k (s ∷ states) all =
    let rest = on_any on k states all.1 in
    elim (cases_Bool (same_name s.key k)) [
      | inl same ↦
          let turned : same_name k s.key ≡ true = same_name_turned s.key k same in
          let here : s.on ≡ is_among k on = all.0 ∙ ap (λ n. is_among n on) (same_name_is s.key k same) in
          rw (same, turned) (joined s.on (is_among k on) (list_any (λ s. same_name s.key k && s.on) states) (is_among k (keys_of states)) here rest)
      | inr differs ↦
          let turned : same_name k s.key ≡ false = same_name_not s.key k differs in
          rw (differs, turned) rest
    ]
  where
    joined : (a b c d : Bool) → a ≡ b → c ≡ (d && b) → (a || c) ≡ b
    joined true b c d is rest = is
    joined false true c d is rest = absurd cc
    joined false false c true is rest = rest
    joined false false c false is rest = rest

pub on_is : (p : Setting) (j : Journal) (states : List KeyState) (key : Option (List ℕ)) → keys_of states ≡ slots p j → AllByRecursion (KeyAgrees p j) states →
    is_on key states ≡ counts_now (now p j).on key
on_is p j states None keys all = refl
on_is p j states (Some k) keys all =
    on_any (now p j).on k states (all_same (KeyAgrees p j) (λ s. s.on ≡ is_among s.key (now p j).on) states (λ s h. h.on_is) all) ∙ ap (λ ks. is_among k ks && is_among k (now p j).on) keys ∙ within
  where
    within : (is_among k (slots p j) && is_among k (now p j).on) ≡ is_among k (now p j).on
    within =
        elim (cases_Bool (is_among k (now p j).on)) [
          | inl is ↦ let slot : is_among k (slots p j) ≡ true = slot_of_on p j k is in rw (slot, is) refl
          | inr isnt ↦ rw isnt (none (is_among k (slots p j)))
        ]
      where
        none : (b : Bool) → (b && false) ≡ false
        none true = refl
        none false = refl

-- ---- the entry of a rule that becomes active
pub stands_new : (p : Setting) (j : Journal) (c : Command) (r : Active) (e : TableEntry) (states : List KeyState) → MakesActive p c r → keys_of states ≡ slots p j → entry_rule p.catalog e.source ≡ Some r →
    e.bearer.0 ≡ (next p (now p j) c).id_of r.properties.qos →
    option_map (λ (s : Slot). s.0) e.slot ≡ option_map (λ k. place_in k states) r.properties.key → IfSome e.slot (λ s. s.0 < most_keys) → e.counted ≡ counts_now (now p j).on r.properties.key →
    StandsFor p (entry.Command c ∷ j) (gen (entry.Command c ∷ j)) e r
stands_new p j c r e states makes keys source bearer slot low counted = record {
  rule_is = source;
  bearer_is = bearer ∙ sym (ap (λ (g : Generation). g.id_of r.properties.qos) (after_is p j c makes.is_table));
  slot_is = slot ∙ slot_named p j c states r.properties.key makes.is_table makes.key_is keys;
  slot_low = low;
  counted_is = rw (after_is p j c makes.is_table)
      (counted ∙ sym (still (now p j).rules (rules_after p (now p j) c) (switched c (now p j).on) r
      (subst (λ rs. Contains rs r) (sym (makes.rules_are (now p j))) (put_new r (now p j).rules)) ∙ ap (λ on. counts_now on r.properties.key) (makes.on_is (now p j).on)));
}

-- ---- one entry for each rule
rank_at : (p : Setting) (j : Journal) (g : ℕ) (e : TableEntry) (r : Active) → StandsFor p j g e r → source_rank p.catalog e.source ≡ rules.rank_of r
rank_at p j g e r stands = (rule_is p.catalog e.source r stands.rule_is).rank_is

apart_names : (p : Setting) (j : Journal) (g : ℕ) (t : TableValue) (e f : TableEntry) → Shows p j g t → NamesOnce (at p j g).rules → Contains t.entries e → Contains t.entries f →
    GoesBefore p.catalog e f → same_name (name_of p.catalog e.source) (name_of p.catalog f.source) ≡ false
apart_names p j g t e f shows once e_there f_there before =
    false_from_ne_true (same_name (name_of p.catalog e.source) (name_of p.catalog f.source)) (λ same.
    let a = shows.only e e_there in
    let b = shows.only f f_there in
    let names : a.0.properties.name ≡ b.0.properties.name =
    sym (name_is p j g e a.0 a.2) ∙ same_name_is (name_of p.catalog e.source) (name_of p.catalog f.source) same ∙ name_is p j g f b.0 b.2 in
    let one : a.0 ≡ b.0 = once_is (at p j g).rules a.0 b.0 once a.1 b.1 names in
    let ranks : source_rank p.catalog e.source ≡ source_rank p.catalog f.source = rank_at p j g e a.0 a.2 ∙ ap rules.rank_of one ∙ sym (rank_at p j g f b.0 b.2) in
    not_before (source_rank p.catalog e.source) (source_rank p.catalog f.source) ranks before)
  where
    not_before : (x y : Rank) → x ≡ y → IsTrue (goes_before x y) → ⊥
    not_before x y is before =
        let here : goes_before x x ≡ true = ap (goes_before x) is ∙ before in contrary (goes_before x x) here (apart x x here)

names_distinct : (p : Setting) (j : Journal) (g : ℕ) (t : TableValue) (entries : List TableEntry) → Shows p j g t → NamesOnce (at p j g).rules → ((e : TableEntry) → Contains entries e → Contains t.entries e) →
    AllPairs (GoesBefore p.catalog) entries → IsDistinct same_name (map (λ e. name_of p.catalog e.source) entries)
unfolding IsDistinct
names_distinct p j g t [] shows once within ordered = tt
names_distinct p j g t (e ∷ entries) shows once within ordered = (
  others entries (λ f there. later_there e entries f there) (ordered_head (GoesBefore p.catalog) e entries ordered),
  names_distinct p j g t entries shows once (λ f there. within f (later_there e entries f there)) (ordered_tail (GoesBefore p.catalog) e entries ordered),
)
  where
    others : (rest : List TableEntry) → ((f : TableEntry) → Contains rest f → Contains (e ∷ entries) f) → All (GoesBefore p.catalog e) rest →
        AllByRecursion (λ name. same_name (name_of p.catalog e.source) name ≡ false) (map (λ f. name_of p.catalog f.source) rest)
    others [] inside all = tt
    others (f ∷ rest) inside all = (
      apart_names p j g t e f shows once (within e (first_there e entries)) (within f (inside f (first_there f rest))) (All-head (GoesBefore p.catalog e) f rest all),
      others rest (λ x there. inside x (later_there f rest x there)) (All-tail (GoesBefore p.catalog e) f rest all),
    )

-- ---- the name of each entry is one of a rule
any_named : (q : List ℕ) (p : Setting) (entries : List TableEntry) → list_any (same_name q) (map (λ e. name_of p.catalog e.source) entries) ≡ true →
    (e : TableEntry) × Contains entries e × (same_name q (name_of p.catalog e.source) ≡ true)
any_named q p [] any = absurd cc
any_named q p (e ∷ entries) any =
    elim (cases_Bool (same_name q (name_of p.catalog e.source))) [
      | inl same ↦ (e, first_there e entries, same)
      | inr differs ↦ let r = any_named q p entries (rw differs at any) in (r.0, later_there e entries r.0 r.1, r.2)
    ]

pub few_entries : (p : Setting) (j : Journal) (g : ℕ) (t : TableValue) → Shows p j g t → NamesOnce (at p j g).rules → length t.entries ≤ length (at p j g).rules
few_entries p j g t shows once =
    let names = map (λ (e : TableEntry). name_of p.catalog e.source) t.entries in
    let all = map (λ (r : Active). r.properties.name) (at p j g).rules in
    let fewer : length names ≤ length all = length-le_from_is_member nat_list_eq_equiv names all (names_distinct p j g t t.entries shows once (λ e there. there) shows.ordered.ordered)
    (λ q there.
    let w = any_named q p t.entries there in
    let v = shows.only w.0 w.1 in
    let same : same_name q v.0.properties.name ≡ true = ap (same_name q) (sym (name_is p j g w.0 v.0 v.2)) ∙ w.2 in
    any_from (same_name q) all v.0.properties.name (map_to (λ (r : Active). r.properties.name) (at p j g).rules v.0 v.1) same) in
    omega (arith, fewer, length-map t.entries (λ (e : TableEntry). name_of p.catalog e.source), length-map (at p j g).rules (λ (r : Active). r.properties.name))

-- ---- the table with a rule that becomes active
pub put_shows : (p : Setting) (j : Journal) (c : Command) (r : Active) (e : TableEntry) (t : TableValue) → MakesActive p c r → Fives p (now p j) → Shows p j (gen j) t →
    StandsFor p (entry.Command c ∷ j) (gen (entry.Command c ∷ j)) e r → IsKnown p.catalog e.source → ShowsSessionKeys p (entry.Command c ∷ j) (gen (entry.Command c ∷ j)) t.session →
    Shows p (entry.Command c ∷ j) (gen (entry.Command c ∷ j)) (record { number = t.number + 1; entries = placed p.catalog e t.entries; session = t.session })
put_shows p j c r e t makes fives shows stands known session =
    shows_put p j c r e t (t.number + 1) (placed p.catalog e t.entries) t.session makes fives shows stands refl refl (placed_is_table p.catalog e t.entries known shows.ordered) session

-- it has room for the entry
pub room_put : (p : Setting) (j : Journal) (c : Command) (r : Active) (e : TableEntry) (t : TableValue) → MakesActive p c r → Fives p (now p j) → Shows p j (gen j) t →
    StandsFor p (entry.Command c ∷ j) (gen (entry.Command c ∷ j)) e r → IsKnown p.catalog e.source → ShowsSessionKeys p (entry.Command c ∷ j) (gen (entry.Command c ∷ j)) t.session →
    length (put r (now p j).rules) ≤ 64 → length (placed p.catalog e t.entries) ≤ 64
room_put p j c r e t makes fives shows stands known session few =
    let k : Journal = entry.Command c ∷ j in
    let next_rules : (at p k (gen k)).rules ≡ put r (now p j).rules = ap (λ (g : Generation). g.rules) (after_is p j c makes.is_table) ∙ makes.rules_are (now p j) in
    let once : NamesOnce (at p k (gen k)).rules = subst (λ (g : Generation). NamesOnce g.rules) (sym (at_newest p k)) (made_once p (tables k)) in
    let fewer = few_entries p k (gen k) (record { number = t.number + 1; entries = placed p.catalog e t.entries; session = t.session }) (put_shows p j c r e t makes fives shows stands known session) once in
    omega (arith, fewer, ap length next_rules, few)

-- ---- a table with these fields
pub shows_as : (p : Setting) (j : Journal) (g : ℕ) (t : TableValue) (number : ℕ) (entries : List TableEntry) (flags : List Bool) → t.number ≡ number → t.entries ≡ entries → t.session ≡ flags →
    Shows p j g (record { number = number; entries = entries; session = flags }) → Shows p j g t
shows_as p j g t number entries flags number_is entries_are flags_are shows = record {
  number_is = number_is ∙ shows.number_is;
  ordered = subst (IsTable p.catalog) (sym entries_are) shows.ordered;
  session = subst (ShowsSessionKeys p j g) (sym flags_are) shows.session;
  each = λ r there. let w = shows.each r there in (w.0, subst (λ es. Contains es w.0) (sym entries_are) w.1, w.2);
  only = λ e there. shows.only e (subst (λ es. Contains es e) entries_are there);
}

-- ---- what a session makes of its table
-- what holds of a value holds of a result that is that value
pub if_ok_is : {T E : Type 0} (P : T → Type 0) (x : T) (r : Result T E) → P x → IfOk r (λ t. t ≡ x) → IfOk r P
if_ok_is P x (Ok t) holds is = subst P (sym is) holds
if_ok_is P x (Err e) holds is = tt

-- a key that is switched leaves each rule
pub same_rules : (level : Level) (slot : Slot) (on : Bool) (entries : List TableEntry) → map (λ e. e.source) (entries_switched level slot on entries) ≡ map (λ e. e.source) entries
same_rules Session slot on entries = refl
same_rules Rule slot on [] = refl
same_rules Rule slot on (e ∷ entries) = rest (is_slot slot e.slot) (same_rules Rule slot on entries)
  where
    rest : (b : Bool) → map (λ e. e.source) (map (with_counting slot on) entries) ≡ map (λ e. e.source) entries →
        (if b then record e { counted = on } else e).source ∷ map (λ e. e.source) (map (with_counting slot on) entries) ≡ e.source ∷ map (λ e. e.source) entries
    rest true same = ap (λ l. e.source ∷ l) same
    rest false same = ap (λ l. e.source ∷ l) same

pub number_fits : (v : Held) → IsSoundHeld v → v.parts.table.number + 1 < 4294967296
number_fits v sound =
    let number : v.parts.table.number ≡ gen v.journal = sound.agrees.table_shows.number_is in
    let few = few_generations v.journal in omega (arith, number, few, sound.few_commands, sound.most_commands)

fives_now : (v : Held) → IsSoundHeld v → Fives v.setting (now v.setting v.journal)
fives_now v sound = lawful_fives v.setting v.journal sound.agrees.lawful

shows_now : (v : Held) → IsSoundHeld v → Shows v.setting v.journal (gen v.journal) v.parts.table
shows_now v sound = sound.agrees.table_shows

-- the rules that are kept are those that are active
few_active : (v : Held) → IsSoundHeld v → length (now v.setting v.journal).rules ≤ 64
few_active v sound = omega (arith, sound.few_rules, kept_length v.setting.catalog v.parts.rules (now v.setting v.journal).rules sound.agrees.rules_are)

-- a key that has a slot or finds one has one of eight
few_places : (v : Held) (key : List ℕ) (slot : Slot) → IsSoundHeld v → finds_no_place (Some key) v.parts.keys ≡ false → slot.0 ≡ place_in key v.parts.keys → slot.0 < 8
few_places v key slot sound finds slot_is =
    elim (cases_Bool (has_slot key v.parts.keys)) [
      | inl there ↦
          let w = place_known key v.parts.keys (sym (has_slot_is key v.parts.keys) ∙ there) in
          let few = sound.few_keys in omega (arith, w, few, slot_is)
      | inr absent ↦
          let room : nat_le most_keys (length v.parts.keys) ≡ false = rw absent at finds in
          let below = leb-false most_keys (length v.parts.keys) room in
          let past = place_past key v.parts.keys absent in omega (arith, below, past, slot_is)
    ]

low_slot : (v : Held) (key : Option (List ℕ)) (slot : Option Slot) → IsSoundHeld v → finds_none v.setting v.journal key ≡ false → option_map (λ (s : Slot). s.0) slot ≡ option_map (λ k. place_in k v.parts.keys) key →
    IfSome slot (λ s. s.0 < most_keys)
low_slot v key None sound finds is = tt
low_slot v None (Some s) sound finds is = absurd cc
low_slot v (Some key) (Some s) sound finds is =
    few_places v key s sound (slotless_is v.setting v.journal (Some key) v.parts.keys sound.agrees.keys_are ∙ finds) cc

-- the entry that was made for a rule stands for it, whichever command makes it active
entry_stands : (v : Held) (c : Command) (r : Active) (x : Activation) (e : TableEntry) → IsSoundHeld v → first_of (becoming_active v.setting v.journal r.properties) ≡ None → MakesActive v.setting c r → IsActivationOf v.setting r x → IsEntryOf v.parts.binding v.parts.keys x e →
    StandsFor v.setting (with_command c v.journal) (gen (with_command c v.journal)) e r
entry_stands v c r x e sound accepted makes is_of is =
    let p : Setting = v.setting in
    let g : Generation = now p v.journal in
    let same : x.properties ≡ r.properties = is_of.properties_are in
    let bound : id_excluding (binding_of p g).default_qos (binding_of p g).bound (bound_without r.properties.name (binding_of p g).bound) r.properties.qos ≡ Some e.bearer.0 =
    subst (λ (q : Properties). id_excluding (binding_of p g).default_qos (binding_of p g).bound (bound_without q.name (binding_of p g).bound) q.qos ≡ Some e.bearer.0) same
    (subst (λ (b : Binding). id_excluding b.default_qos b.bound (bound_without x.properties.name b.bound) x.properties.qos ≡ Some e.bearer.0) sound.agrees.binding_is is.bearer_is) in
    stands_new p v.journal c r e v.parts.keys makes sound.agrees.keys_are (ap (entry_rule p.catalog) is.source_is ∙ is_of.rule_is)
    (sym (next_id p g c r e.bearer.0 makes (lawful_bound p v.journal sound.agrees.lawful) bound))
    (is.slot_is ∙ ap (λ (q : Properties). option_map (λ k. place_in k v.parts.keys) q.key) same)
    (low_slot v r.properties.key e.slot sound (can_become v.setting v.journal r.properties accepted).slot (is.slot_is ∙ ap (λ (q : Properties). option_map (λ k. place_in k v.parts.keys) q.key) same))
    (is.counted_is ∙ on_is p v.journal v.parts.keys x.properties.key sound.agrees.keys_are sound.agrees.usage_is ∙ ap (λ (q : Properties). counts_now g.on q.key) same)

-- the entry that was made for a rule on the bearer that it gets
pub entry_made : (v : Held) (x : Activation) (id : BearerId) (e : TableEntry) → IsSoundHeld v → GetsBearer v.setting v.journal (Some x) (Some id) →
    IsEntryOn id v.parts.keys x e → IsEntryOf v.parts.binding v.parts.keys x e
entry_made v x id e sound gets is =
    let found : IsBearerOf v.parts.binding x id = subst (λ (b : Binding). IsBearerOf b x id) (sym sound.agrees.binding_is) gets in
    record {
      source_is = is.source_is;
      bearer_is = found ∙ ap (λ (n : BearerId). Some n.0) (sym is.bearer_is);
      slot_is = is.slot_is;
      counted_is = is.counted_is;
    }

-- the flags of slots after a command that makes a rule active
session_put : (v : Held) (c : Command) (r : Active) → IsSoundHeld v → MakesActive v.setting c r → activated v.setting c ≡ Some r →
    ShowsSessionKeys v.setting (with_command c v.journal) (gen (with_command c v.journal)) v.parts.table.session
session_put v c r sound makes becomes =
    session_next v.setting v.journal c v.parts.table.session (after_is v.setting v.journal c makes.is_table)
    (same_session v.setting v.journal c sound.agrees.lawful (from c becomes) (λ key is. ap (is_among key) (makes.on_is (now v.setting v.journal).on))) (shows_now v sound).session
  where
    from : (d : Command) → activated v.setting d ≡ Some r → at_session_level d (now v.setting v.journal).session ≡ (now v.setting v.journal).session
    from (Install rule) is = refl
    from (Activate name) is = refl
    from (Remove name) is = refl
    from (Monitor key amount level) is = absurd cc
    from (Stop key) is = refl
    from (ReportNow key) is = refl
    from (Triggers set) is = refl
    from (Notice kind value) is = refl
    from (LoseBearer id) is = refl
    from Close is = refl
    from Terminate is = refl

-- the place of a rule is in the catalog
known_of : (offers : List Offer) (source : Source) (r : Active) → entry_rule offers source ≡ Some r → IsKnown offers source
known_of offers (Dynamic d) r is = tt
known_of offers (Predefined index) r is = from (slice_get offers index) refl is
  where
    from : (o : Option Offer) → slice_get offers index ≡ o → option_map predefined o ≡ Some r → index < length offers
    from None there is = absurd cc
    from (Some o) there is = slice_get_within offers index o there

pub entry_known : (v : Held) (r : Active) (x : Activation) (e : TableEntry) → IsActivationOf v.setting r x → IsEntryOf v.parts.binding v.parts.keys x e → IsKnown v.setting.catalog e.source
entry_known v r x e is_of is = known_of v.setting.catalog e.source r (ap (entry_rule v.setting.catalog) is.source_is ∙ is_of.rule_is)

-- the table with the rule that a command makes active has room for it
pub room_for_rule : (v : Held) (c : Command) (r : Active) (x : Activation) (e : TableEntry) → IsSoundHeld v → first_of (becoming_active v.setting v.journal r.properties) ≡ None → MakesActive v.setting c r → activated v.setting c ≡ Some r →
    IsActivationOf v.setting r x → IsEntryOf v.parts.binding v.parts.keys x e → length (placed v.setting.catalog e v.parts.table.entries) ≤ 64
room_for_rule v c r x e sound accepted makes becomes is_of is =
    room_put v.setting v.journal c r e v.parts.table makes (fives_now v sound) (shows_now v sound) (entry_stands v c r x e sound accepted makes is_of is) (entry_known v r x e is_of is) (session_put v c r sound makes becomes)
    (few_put v.setting v.journal r (few_active v sound) accepted)

pub table_with : (v : Held) (c : Command) (r : Active) (x : Activation) (e : TableEntry) → IsSoundHeld v → first_of (becoming_active v.setting v.journal r.properties) ≡ None → MakesActive v.setting c r → activated v.setting c ≡ Some r → IsActivationOf v.setting r x → IsEntryOf v.parts.binding v.parts.keys x e →
    (new : TableValue) → new.number ≡ v.parts.table.number + 1 → new.entries ≡ placed v.setting.catalog e v.parts.table.entries → new.session ≡ v.parts.table.session → ShowsNext v.setting v.journal c new
table_with v c r x e sound accepted makes becomes is_of is new number entries flags =
    let p : Setting = v.setting in
    let t : TableValue = v.parts.table in
    shows_as p (with_command c v.journal) (gen (with_command c v.journal)) new (t.number + 1) (placed p.catalog e t.entries) t.session number entries flags
    (put_shows p v.journal c r e t makes (fives_now v sound) (shows_now v sound) (entry_stands v c r x e sound accepted makes is_of is) (entry_known v r x e is_of is) (session_put v c r sound makes becomes))

-- ---- the table where a switched key counts or doesn't
-- the slot of the key of a Monitor, or of a Stop
place_monitored : (v : Held) (key : List ℕ) (amount : ℕ) (level : Level) (slot : Slot) → IsSoundHeld v → slot.0 ≡ place_in key v.parts.keys →
    place_of key (slots v.setting (with_command (Monitor key amount level) v.journal)) ≡ Some slot.0
place_monitored v key amount level slot sound slot_is =
    ap (place_of key) (slots_next v.setting v.journal (Monitor key amount level) refl ∙ ap (add_key key) (sym sound.agrees.keys_are)) ∙ key_place key v.parts.keys ∙ ap (λ n. Some n) (sym slot_is)

place_stopped : (v : Held) (key : List ℕ) (slot : Slot) → IsSoundHeld v → is_among key (now v.setting v.journal).on ≡ true → slot.0 ≡ place_in key v.parts.keys →
    place_of key (slots v.setting (with_command (Stop key) v.journal)) ≡ Some slot.0
place_stopped v key slot sound on slot_is =
    let has : is_among key (keys_of v.parts.keys) ≡ true = ap (is_among key) sound.agrees.keys_are ∙ slot_of_on v.setting v.journal key on in
    ap (place_of key) (slots_next v.setting v.journal (Stop key) refl ∙ sym sound.agrees.keys_are) ∙ here_place key v.parts.keys has ∙ ap (λ n. Some n) (sym slot_is)

-- at rule level
monitored_at_rule : (v : Held) (key : List ℕ) (amount : ℕ) (slot : Slot) → IsSoundHeld v → first_of (refusals v.setting v.journal (Monitor key amount Rule)) ≡ None → slot.0 ≡ place_in key v.parts.keys →
    (new : TableValue) → new.number ≡ v.parts.table.number + 1 → new.entries ≡ map (with_counting slot true) v.parts.table.entries → new.session ≡ v.parts.table.session →
    ShowsNext v.setting v.journal (Monitor key amount Rule) new
monitored_at_rule v key amount slot sound accepted slot_is new number entries flags =
    let p : Setting = v.setting in
    let t : TableValue = v.parts.table in
    let c : Command = Monitor key amount Rule in
    let shows = shows_now v sound in
    shows_as p (with_command c v.journal) (gen (with_command c v.journal)) new (t.number + 1) (map (with_counting slot true) t.entries) t.session number entries flags
    (shows_monitor p v.journal key amount Rule slot t (t.number + 1) (map (with_counting slot true) t.entries) t.session (fives_now v sound) shows (place_monitored v key amount Rule slot sound slot_is) refl refl
    (counting_is_table p.catalog slot true t.entries shows.ordered)
    (session_next p v.journal c t.session (after_is p v.journal c refl) (monitored_rule p v.journal key amount sound.agrees.lawful accepted) shows.session))

stopped_at_rule : (v : Held) (key : List ℕ) (slot : Slot) → IsSoundHeld v → is_among key (now v.setting v.journal).on ≡ true → is_among key (now v.setting v.journal).session ≡ false → slot.0 ≡ place_in key v.parts.keys →
    (new : TableValue) → new.number ≡ v.parts.table.number + 1 → new.entries ≡ map (with_counting slot false) v.parts.table.entries → new.session ≡ v.parts.table.session →
    ShowsNext v.setting v.journal (Stop key) new
stopped_at_rule v key slot sound on level slot_is new number entries flags =
    let p : Setting = v.setting in
    let t : TableValue = v.parts.table in
    let c : Command = Stop key in
    let shows = shows_now v sound in
    shows_as p (with_command c v.journal) (gen (with_command c v.journal)) new (t.number + 1) (map (with_counting slot false) t.entries) t.session number entries flags
    (shows_stop p v.journal key slot t (t.number + 1) (map (with_counting slot false) t.entries) t.session (fives_now v sound) shows (place_stopped v key slot sound on slot_is) refl refl
    (counting_is_table p.catalog slot false t.entries shows.ordered)
    (session_next p v.journal c t.session (after_is p v.journal c refl) (stopped_rule p v.journal key sound.agrees.lawful level) shows.session))

-- at session level: no rule has the key, so the entries stay
keyless_counts : (rs : List Active) (r : Active) (key : List ℕ) (on new : List (List ℕ)) → Contains rs r → has_key key rs ≡ false →
    ((k : List ℕ) → same_name k key ≡ false → is_among k new ≡ is_among k on) → counts_now new r.properties.key ≡ counts_now on r.properties.key
keyless_counts rs r key on new there none same = from r.properties.key refl
  where
    from : (k : Option (List ℕ)) → r.properties.key ≡ k → counts_now new k ≡ counts_now on k
    from None is = refl
    from (Some k) is = same k (false_from_ne_true (same_name k key) (λ one.
        contrary (has_key key rs) (has_key_from rs r key there (is ∙ ap (λ (x : List ℕ). Some x) (same_name_is k key one))) none))

-- the slot of a key that a command switches is one of eight
pub switched_slot : (v : Held) (c : Command) (key : List ℕ) (slot : Slot) → IsSoundHeld v → first_of (refusals v.setting v.journal c) ≡ None → key_switched c ≡ Some key → slot.0 ≡ place_in key v.parts.keys →
    slot.0 < 8
switched_slot v (Monitor k amount level) key slot sound accepted switched slot_is =
    let same : k ≡ key = cc in
    let finds : finds_no_place (Some k) v.parts.keys ≡ false =
    slotless_is v.setting v.journal (Some k) v.parts.keys sound.agrees.keys_are ∙ (monitor_accepted v.setting v.journal k amount level accepted).1 in
    few_places v k slot sound finds (slot_is ∙ ap (λ x. place_in x v.parts.keys) (sym same))
switched_slot v (Stop k) key slot sound accepted switched slot_is =
    let same : k ≡ key = cc in
    let on = stop_accepted v.setting v.journal k accepted in
    let has : is_among k (keys_of v.parts.keys) ≡ true = ap (is_among k) sound.agrees.keys_are ∙ slot_of_on v.setting v.journal k on in
    let w = place_known k v.parts.keys has in
    let few = sound.few_keys in
    let here : slot.0 ≡ place_in k v.parts.keys = slot_is ∙ ap (λ x. place_in x v.parts.keys) (sym same) in
    omega (arith, w, few, here)
switched_slot v (Install rule) key slot sound accepted switched slot_is = absurd cc
switched_slot v (Activate name) key slot sound accepted switched slot_is = absurd cc
switched_slot v (Remove name) key slot sound accepted switched slot_is = absurd cc
switched_slot v (ReportNow k) key slot sound accepted switched slot_is = absurd cc
switched_slot v (Triggers set) key slot sound accepted switched slot_is = absurd cc
switched_slot v (Notice kind value) key slot sound accepted switched slot_is = absurd cc
switched_slot v (LoseBearer id) key slot sound accepted switched slot_is = absurd cc
switched_slot v Close key slot sound accepted switched slot_is = absurd cc
switched_slot v Terminate key slot sound accepted switched slot_is = absurd cc

-- a command that leaves the entries, and whose key no rule has
unkeyed_shows : (v : Held) (c : Command) (key : List ℕ) (slot : Slot) (b : Bool) → IsSoundHeld v → activated v.setting c ≡ None → is_table c ≡ true →
    without_taken v.setting.catalog c v.parts.table.entries ≡ v.parts.table.entries → StayCounted v.setting (now v.setting v.journal) c →
    place_of key (slots v.setting (with_command c v.journal)) ≡ Some slot.0 → slot.0 < 8 →
    ((k : List ℕ) → is_session_on (next v.setting (now v.setting v.journal) c) k ≡ (if same_name k key then b else is_session_on (now v.setting v.journal) k)) →
    (new : TableValue) → new.number ≡ v.parts.table.number + 1 → new.entries ≡ v.parts.table.entries → new.session ≡ set v.parts.table.session slot.0 b → ShowsNext v.setting v.journal c new
unkeyed_shows v c key slot b sound none is stay counted place few switches new number entries flags =
    let p : Setting = v.setting in
    let t : TableValue = v.parts.table in
    let shows = shows_now v sound in
    let session = session_set p v.journal c key slot.0 b t.session (after_is p v.journal c is) place few switches shows.session in
    shows_as p (with_command c v.journal) (gen (with_command c v.journal)) new (t.number + 1) (without_taken p.catalog c t.entries) (set t.session slot.0 b) number (entries ∙ sym stay) flags
    (shows_left p v.journal c t (set t.session slot.0 b) none is counted (fives_now v sound) shows (part_is_table p.catalog (λ e. not (is_taken p.catalog c e)) t.entries shows.ordered) session)

monitored_at_session : (v : Held) (key : List ℕ) (amount : ℕ) (slot : Slot) → IsSoundHeld v → first_of (refusals v.setting v.journal (Monitor key amount Session)) ≡ None → slot.0 ≡ place_in key v.parts.keys →
    (new : TableValue) → new.number ≡ v.parts.table.number + 1 → new.entries ≡ v.parts.table.entries → new.session ≡ set v.parts.table.session slot.0 true →
    ShowsNext v.setting v.journal (Monitor key amount Session) new
monitored_at_session v key amount slot sound accepted slot_is new number entries flags =
    let p : Setting = v.setting in
    let g : Generation = now p v.journal in
    let c : Command = Monitor key amount Session in
    let none : has_key key g.rules ≡ false = monitored_without p v.journal key amount sound.agrees.lawful accepted in
    unkeyed_shows v c key slot true sound refl refl (filter_all v.parts.table.entries)
    (λ r there. keyless_counts g.rules r key g.on (add_key key g.on) (subst (λ (rs : List Active). Contains rs r) (filter_all g.rules) there) none
    (λ k differs. is_among_add k key g.on ∙ ap (λ b. is_among k g.on || b) differs ∙ or_none (is_among k g.on)))
    (place_monitored v key amount Session slot sound slot_is) (switched_slot v c key slot sound accepted refl slot_is)
    (monitored_session p v.journal key amount sound.agrees.lawful accepted) new number entries flags
  where
    or_none : (b : Bool) → (b || false) ≡ b
    or_none true = refl
    or_none false = refl

stopped_at_session : (v : Held) (key : List ℕ) (slot : Slot) → IsSoundHeld v → first_of (refusals v.setting v.journal (Stop key)) ≡ None → is_among key (now v.setting v.journal).session ≡ true → slot.0 ≡ place_in key v.parts.keys →
    (new : TableValue) → new.number ≡ v.parts.table.number + 1 → new.entries ≡ v.parts.table.entries → new.session ≡ set v.parts.table.session slot.0 false →
    ShowsNext v.setting v.journal (Stop key) new
stopped_at_session v key slot sound accepted level slot_is new number entries flags =
    let p : Setting = v.setting in
    let g : Generation = now p v.journal in
    let c : Command = Stop key in
    let none : has_key key g.rules ≡ false = no_rule p v.journal key sound.agrees.lawful level in
    unkeyed_shows v c key slot false sound refl refl (filter_all v.parts.table.entries)
    (λ r there. keyless_counts g.rules r key g.on (switched c g.on) (subst (λ (rs : List Active). Contains rs r) (filter_all g.rules) there) none (λ k differs. stays_on g.on key k differs))
    (place_stopped v key slot sound (stop_accepted p v.journal key accepted) slot_is) (switched_slot v c key slot sound accepted refl slot_is)
    (stopped_session p v.journal key sound.agrees.lawful level) new number entries flags

-- the level of a key that is stopped
stopped_level : (v : Held) (key : List ℕ) → IsSoundHeld v → is_among key (now v.setting v.journal).on ≡ true →
    (state_at (place_in key v.parts.keys) v.parts.keys).level ≡ level_of (now v.setting v.journal) key
stopped_level v key sound on =
    level_at (now v.setting v.journal) key v.parts.keys (all_levels_from v.setting v.journal v.parts.keys sound.agrees.usage_is)
    (has_slot_is key v.parts.keys ∙ ap (is_among key) sound.agrees.keys_are ∙ slot_of_on v.setting v.journal key on)

pub table_switched : (v : Held) (c : Command) (key : List ℕ) (slot : Slot) → IsSoundHeld v → first_of (refusals v.setting v.journal c) ≡ None → key_switched c ≡ Some key → slot.0 ≡ place_in key v.parts.keys →
    (new : TableValue) → new.number ≡ v.parts.table.number + 1 →
    new.entries ≡ entries_switched (level_switched c key v.parts.keys) slot (switches_on c) v.parts.table.entries →
    new.session ≡ flags_switched (level_switched c key v.parts.keys) slot (switches_on c) v.parts.table.session → ShowsNext v.setting v.journal c new
table_switched v (Monitor k amount Rule) key slot sound accepted switched slot_is new number entries flags =
    let same : k ≡ key = cc in
    monitored_at_rule v k amount slot sound accepted (slot_is ∙ ap (λ x. place_in x v.parts.keys) (sym same)) new number entries flags
table_switched v (Monitor k amount Session) key slot sound accepted switched slot_is new number entries flags =
    let same : k ≡ key = cc in
    monitored_at_session v k amount slot sound accepted (slot_is ∙ ap (λ x. place_in x v.parts.keys) (sym same)) new number entries flags
table_switched v (Stop k) key slot sound accepted switched slot_is new number entries flags =
    let same : k ≡ key = cc in
    let here : slot.0 ≡ place_in k v.parts.keys = slot_is ∙ ap (λ x. place_in x v.parts.keys) (sym same) in
    let on = stop_accepted v.setting v.journal k accepted in
    let level : level_switched (Stop k) key v.parts.keys ≡ level_of (now v.setting v.journal) k =
    ap (λ x. (state_at (place_in x v.parts.keys) v.parts.keys).level) (sym same) ∙ stopped_level v k sound on in
    let new_entries : new.entries ≡ entries_switched (level_of (now v.setting v.journal) k) slot false v.parts.table.entries =
    entries ∙ ap (λ l. entries_switched l slot false v.parts.table.entries) level in
    let new_flags : new.session ≡ flags_switched (level_of (now v.setting v.journal) k) slot false v.parts.table.session =
    flags ∙ ap (λ l. flags_switched l slot false v.parts.table.session) level in
    elim (cases_Bool (is_among k (now v.setting v.journal).session)) [
      | inl is ↦ stopped_at_session v k slot sound accepted is here new number (rw is at new_entries) (rw is at new_flags)
      | inr isnt ↦ stopped_at_rule v k slot sound on isnt here new number (rw isnt at new_entries) (rw isnt at new_flags)
    ]
table_switched v (Install rule) key slot sound accepted switched slot_is new number entries flags = absurd cc
table_switched v (Activate name) key slot sound accepted switched slot_is new number entries flags = absurd cc
table_switched v (Remove name) key slot sound accepted switched slot_is new number entries flags = absurd cc
table_switched v (ReportNow k) key slot sound accepted switched slot_is new number entries flags = absurd cc
table_switched v (Triggers set) key slot sound accepted switched slot_is new number entries flags = absurd cc
table_switched v (Notice kind value) key slot sound accepted switched slot_is new number entries flags = absurd cc
table_switched v (LoseBearer id) key slot sound accepted switched slot_is new number entries flags = absurd cc
table_switched v Close key slot sound accepted switched slot_is new number entries flags = absurd cc
table_switched v Terminate key slot sound accepted switched slot_is new number entries flags = absurd cc

-- the flags of slots after a command that switches no key
session_kept : (v : Held) (c : Command) → IsSoundHeld v → is_table c ≡ true → at_session_level c (now v.setting v.journal).session ≡ (now v.setting v.journal).session →
    switched c (now v.setting v.journal).on ≡ (now v.setting v.journal).on → ShowsSessionKeys v.setting (with_command c v.journal) (gen (with_command c v.journal)) v.parts.table.session
session_kept v c sound is levels on =
    session_next v.setting v.journal c v.parts.table.session (after_is v.setting v.journal c is)
    (same_session v.setting v.journal c sound.agrees.lawful levels (λ key session. ap (is_among key) on)) (shows_now v sound).session

-- the flags of slots after a command that takes rules away
session_left : (v : Held) (c : Command) → IsSoundHeld v → activated v.setting c ≡ None → is_table c ≡ true → key_switched c ≡ None →
    ShowsSessionKeys v.setting (with_command c v.journal) (gen (with_command c v.journal)) (flags_left c v.parts.table.session)
session_left v Terminate sound none is switches = session_ended v.setting v.journal (after_is v.setting v.journal Terminate refl)
session_left v (Install rule) sound none is switches = absurd cc
session_left v (Activate name) sound none is switches = session_kept v (Activate name) sound is refl refl
session_left v (Remove name) sound none is switches = session_kept v (Remove name) sound is refl refl
session_left v (Monitor key amount level) sound none is switches = absurd cc
session_left v (Stop key) sound none is switches = absurd cc
session_left v (ReportNow key) sound none is switches = absurd cc
session_left v (Triggers set) sound none is switches = absurd cc
session_left v (Notice kind value) sound none is switches = absurd cc
session_left v (LoseBearer id) sound none is switches = session_kept v (LoseBearer id) sound is refl refl
session_left v Close sound none is switches = session_kept v Close sound is refl refl

-- the table without the rules that a command takes away
pub table_left : (v : Held) (c : Command) → IsSoundHeld v → activated v.setting c ≡ None → is_table c ≡ true → key_switched c ≡ None →
    (new : TableValue) → new.number ≡ v.parts.table.number + 1 → new.entries ≡ without_taken v.setting.catalog c v.parts.table.entries → new.session ≡ flags_left c v.parts.table.session →
    ShowsNext v.setting v.journal c new
table_left v c sound none is switches new number entries flags =
    let p : Setting = v.setting in
    let t : TableValue = v.parts.table in
    let shows = shows_now v sound in
    shows_as p (with_command c v.journal) (gen (with_command c v.journal)) new (t.number + 1) (without_taken p.catalog c t.entries) (flags_left c t.session) number entries flags
    (shows_left p v.journal c t (flags_left c t.session) none is (stay_counted p (now p v.journal) c none switches) (fives_now v sound) shows (part_is_table p.catalog (λ e. not (is_taken p.catalog c e)) t.entries shows.ordered)
    (session_left v c sound none is switches))

-- a command that makes no table leaves the one that shows the newest generation
pub table_stays : (p : Setting) (j : Journal) (c : Command) (t : TableValue) → Shows p j (gen j) t → is_table c ≡ false → Shows p (with_command c j) (gen (with_command c j)) t
table_stays p j c t shows isnt =
    subst (λ n. Shows p (with_command c j) n t) (sym (ap length (tables_of_other j c isnt)))
    (shows_same p j (with_command c j) (gen j) t (tables_of_other j c isnt) shows)

-- the table that is held after a command: the one that it makes, or the old one
pub table_after : (p : Setting) (j : Journal) (c : Command) (old : TableValue) (made : Option TableValue) → Shows p j (gen j) old → IsTableAfter p (after_command p j c) c made →
    Shows p (after_command p j c) (gen (after_command p j c)) (unwrap_or made old)
table_after p j c old None shows is = shows_after p j c old (table_stays p j c old shows (sym is.makes))
table_after p j c old (Some t) shows is = is.shows
