-- A key that takes a slot, and a Monitor that starts it, keep the counters in agreement with the journal.
use Rattle.std.proofs.Common.{◌≡◌, ◌≤◌, ◌∙◌, ℕ, Bool, true, false, List, [], ◌∷◌, ◌++◌, length, refl, sym, ap, subst, arith, inl, inr, nat_le}
use Rattle.std.specs.Prelude.{Option, Some, None, if◌then◌else◌, not, ◌||◌, ◌&&◌}
use Rattle.std.specs.List.{AllByRecursion}
use Rattle.std.proofs.lemmas.Bool.{cases_Bool, leb-false}
use Rattle.std.proofs.lemmas.List.{length-append, length-map}
use Rattle.pcef_model.specs.declared.command.Command.{Command}
use Rattle.pcef_model.specs.declared.command.Command.TheVariants.{Install, Activate, Remove, Monitor, Stop, ReportNow, Triggers, Notice, LoseBearer, Close, Terminate}
use Rattle.pcef_model.specs.declared.entry.Entry.TheVariants as entry
use Rattle.pcef_model.specs.declared.level.Level.{Level}
use Rattle.pcef_model.specs.Setting.{Setting, same_name, most_keys}
use Rattle.pcef_model.specs.Commands.{add_key, is_among, key_named, is_table}
use Rattle.pcef_model.specs.Generations.{slots_of}
use Rattle.pcef_model.specs.Entries.{Journal, rows}
use Rattle.pcef_model.specs.Journals.{counted, gen, grant, reported, slots, tables, takes_grant}
use Rattle.pcef_model.proofs.Growth.{Known, counted_after_command}
use Rattle.pcef_model.proofs.Sameness.{same_name_not, same_name_turned}
use Rattle.pcef_usage.specs.declared.usage.KeyState.{KeyState}
use Rattle.pcef_usage.specs.Keys.{at_place, finds_no_place, fresh, has_slot, keys_of, slot_place, started, with_slot}
use Rattle.pcef_usage.specs.PendingReports.{AllCount, AllOn, Counts, Distinct, OnIs}
use Rattle.pcef_usage.proofs.Places.{or_no}
use Rattle.pcef_model.proofs.Reports.{reported_after_command}
use Rattle.pcef_model.proofs.Strangers.{stranger_off}
use Rattle.pcef_usage.proofs.Slots.{is_among_add, off_before_add, or_false, stranger_counted}
use Rattle.pcef_usage.proofs.Tells.{all_mapped, at_place_maps, has_slot_is}

-- ---- a key that has no slot has no grant
pub slots_before : (p : Setting) (j : Journal) (c : Command) (k : List ℕ) → is_among k (slots p (entry.Command c ∷ j)) ≡ false → is_among k (slots p j) ≡ false
unfolding slots_of
slots_before p j c k absent =
    elim (cases_Bool (is_table c)) [
      | inl is ↦ off_before_add k (key_named p c) (slots p j) (rw is at absent)
      | inr isnt ↦ rw isnt at absent
    ]

pub stranger_grant : (p : Setting) (j : Journal) (k : List ℕ) → is_among k (slots p j) ≡ false → grant j k ≡ None
unfolding grant slots_of
stranger_grant p [] k absent = refl
stranger_grant p (entry.Command (Monitor l amount level) ∷ j) k absent =
    let parts = or_no (is_among k (slots p j)) (same_name k l) (sym (is_among_add k l (slots p j)) ∙ absent) in rw parts.1 (stranger_grant p j k parts.0)
stranger_grant p (entry.Report r ∷ j) k absent = elim (cases_Bool (takes_grant k r.body)) [ inl takes ↦ rw takes refl | inr leaves ↦ rw leaves (stranger_grant p j k absent) ]
stranger_grant p (entry.Attach w ∷ j) k absent = stranger_grant p j k absent
stranger_grant p (entry.Leave w ∷ j) k absent = stranger_grant p j k absent
stranger_grant p (entry.Row r ∷ j) k absent = stranger_grant p j k absent
stranger_grant p (entry.Command (Install rule) ∷ j) k absent = stranger_grant p j k (slots_before p j (Install rule) k absent)
stranger_grant p (entry.Command (Activate name) ∷ j) k absent = stranger_grant p j k (slots_before p j (Activate name) k absent)
stranger_grant p (entry.Command (Remove name) ∷ j) k absent = stranger_grant p j k absent
stranger_grant p (entry.Command (Stop l) ∷ j) k absent = stranger_grant p j k absent
stranger_grant p (entry.Command (ReportNow l) ∷ j) k absent = stranger_grant p j k absent
stranger_grant p (entry.Command (Triggers set) ∷ j) k absent = stranger_grant p j k absent
stranger_grant p (entry.Command (Notice kind value) ∷ j) k absent = stranger_grant p j k absent
stranger_grant p (entry.Command (LoseBearer id) ∷ j) k absent = stranger_grant p j k absent
stranger_grant p (entry.Command Close ∷ j) k absent = stranger_grant p j k absent
stranger_grant p (entry.Command Terminate ∷ j) k absent = stranger_grant p j k absent

-- ---- a slot more
all_push : {X : Type 0} (P : X → Type 0) (xs : List X) (y : X) → AllByRecursion P xs → P y → AllByRecursion P (xs ++ y ∷ [])
all_push P [] y all here = (here, tt)
all_push P (x ∷ xs) y all here = (all.0, all_push P xs y all.1 here)

absent_from : (p : Setting) (j : Journal) (k : List ℕ) (states : List KeyState) → keys_of states ≡ slots p j → has_slot k states ≡ false → is_among k (slots p j) ≡ false
absent_from p j k states keys none = ap (is_among k) (sym keys) ∙ sym (has_slot_is k states) ∙ none

fresh_counts : (p : Setting) (j : Journal) (k : List ℕ) (level : Level) → reported j k ≤ counted p j k → is_among k (slots p j) ≡ false → Counts p j [] (fresh k level)
fresh_counts p j k level exact absent =
    let none : counted p j k ≡ 0 = stranger_counted p j k absent in record {
      grant_is = sym (stranger_grant p j k absent);
      reported_is = omega (arith, exact);
      counted_is = omega arith;
    }

pub slot_counts : (p : Setting) (j : Journal) (named : Option (List ℕ)) (level : Level) (states : List KeyState) → ((k : List ℕ) → reported j k ≤ counted p j k) → keys_of states ≡ slots p j →
    AllCount p j [] states → AllCount p j [] (with_slot named level states)
unfolding AllCount
slot_counts p j None level states exact keys all = all
slot_counts p j (Some k) level states exact keys all =
    elim (cases_Bool (has_slot k states)) [
      | inl is ↦ rw is all
      | inr isnt ↦ rw isnt (all_push (Counts p j []) states (fresh k level) all (fresh_counts p j k level (exact k) (absent_from p j k states keys isnt)))
    ]

pub slot_on : (p : Setting) (j : Journal) (named : Option (List ℕ)) (level : Level) (states : List KeyState) → keys_of states ≡ slots p j → AllOn p j states → AllOn p j (with_slot named level states)
unfolding AllOn
slot_on p j None level states keys all = all
slot_on p j (Some k) level states keys all =
    elim (cases_Bool (has_slot k states)) [
      | inl is ↦ rw is all
      | inr isnt ↦ rw isnt (all_push (OnIs p j) states (fresh k level) all (record { on_is = sym (stranger_off p (tables j) k (absent_from p j k states keys isnt)) }))
    ]

-- the test for a free slot, by the journal
pub finds_no_slot_is : (p : Setting) (j : Journal) (k : List ℕ) (states : List KeyState) → keys_of states ≡ slots p j →
    finds_no_place (Some k) states ≡ (not (is_among k (slots p j)) && nat_le most_keys (length (slots p j)))
finds_no_slot_is p j k states keys =
    let known : has_slot k states ≡ is_among k (slots p j) = has_slot_is k states ∙ ap (is_among k) keys in
    let many : length states ≡ length (slots p j) = sym (length-map states (λ s. s.key)) ∙ ap length keys in
    ap (λ (b : Bool). not b && nat_le most_keys (length states)) known ∙ ap (λ n. not (is_among k (slots p j)) && nat_le most_keys n) many

pub few_with_slot : (named : Option (List ℕ)) (level : Level) (states : List KeyState) → finds_no_place named states ≡ false → length states ≤ most_keys → length (with_slot named level states) ≤ most_keys
few_with_slot None level states finds few = few
few_with_slot (Some k) level states finds few =
    elim (cases_Bool (has_slot k states)) [
      | inl is ↦ rw is few
      | inr isnt ↦
          let room : nat_le most_keys (length states) ≡ false = rw isnt at finds in
          let below = leb-false most_keys (length states) room in rw isnt (omega (arith, below, length-append states (fresh k level ∷ [])))
    ]

-- ---- a Monitor
start_counts : (p : Setting) (j : Journal) (k : List ℕ) (amount : ℕ) (level : Level) (s : KeyState) → Known (gen j) (rows j) → Counts p j [] s →
    Counts p (entry.Command (Monitor k amount level) ∷ j) [] (if same_name k s.key then started amount s else s)
unfolding grant
start_counts p j k amount level s known agrees =
    let told : reported (entry.Command (Monitor k amount level) ∷ j) s.key ≡ reported j s.key = reported_after_command j s.key (Monitor k amount level) in
    let same : counted p (entry.Command (Monitor k amount level) ∷ j) s.key ≡ counted p j s.key = counted_after_command p j s.key (Monitor k amount level) known in
    elim (cases_Bool (same_name k s.key)) [
      | inl is ↦ rw is (record { grant_is = rw (same_name_turned k s.key is) refl; reported_is = agrees.reported_is ∙ sym told; counted_is = agrees.counted_is ∙ sym same })
      | inr isnt ↦ rw isnt (record { grant_is = rw (same_name_not k s.key isnt) agrees.grant_is; reported_is = agrees.reported_is ∙ sym told; counted_is = agrees.counted_is ∙ sym same })
    ]

-- the key of a Monitor is started where it has its place
pub monitor_counts : (p : Setting) (j : Journal) (k : List ℕ) (amount : ℕ) (level : Level) (states : List KeyState) → Known (gen j) (rows j) → Distinct (keys_of states) → AllCount p j [] states →
    AllCount p (entry.Command (Monitor k amount level) ∷ j) [] (at_place (slot_place k states) (started amount) states)
unfolding AllCount
monitor_counts p j k amount level states known distinct all =
    subst (AllByRecursion (Counts p (entry.Command (Monitor k amount level) ∷ j) [])) (sym (at_place_maps (started amount) k states distinct))
    (all_mapped (Counts p j []) (Counts p (entry.Command (Monitor k amount level) ∷ j) []) (λ s. if same_name k s.key then started amount s else s) states
    (λ s h. start_counts p j k amount level s known h) all)

or_true : (a : Bool) → (a || true) ≡ true
or_true true = refl
or_true false = refl

start_on : (on : List (List ℕ)) (k : List ℕ) (amount : ℕ) (s : KeyState) → s.on ≡ is_among s.key on →
    (if same_name k s.key then started amount s else s).on ≡ is_among (if same_name k s.key then started amount s else s).key (add_key k on)
start_on on k amount s is =
    elim (cases_Bool (same_name k s.key)) [
      | inl same ↦ rw same (sym (is_among_add s.key k on ∙ ap (λ b. is_among s.key on || b) (same_name_turned k s.key same) ∙ or_true (is_among s.key on)))
      | inr differs ↦ rw differs (is ∙ sym (is_among_add s.key k on ∙ ap (λ b. is_among s.key on || b) (same_name_not k s.key differs) ∙ or_false (is_among s.key on)))
    ]

pub monitor_on : (on : List (List ℕ)) (k : List ℕ) (amount : ℕ) (states : List KeyState) → Distinct (keys_of states) → AllByRecursion (λ s. s.on ≡ is_among s.key on) states →
    AllByRecursion (λ s. s.on ≡ is_among s.key (add_key k on)) (at_place (slot_place k states) (started amount) states)
monitor_on on k amount states distinct all =
    subst (AllByRecursion (λ s. s.on ≡ is_among s.key (add_key k on))) (sym (at_place_maps (started amount) k states distinct))
    (all_mapped (λ s. s.on ≡ is_among s.key on) (λ s. s.on ≡ is_among s.key (add_key k on)) (λ s. if same_name k s.key then started amount s else s) states
    (λ s h. start_on on k amount s h) all)
