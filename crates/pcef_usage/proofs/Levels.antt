-- The levels of keys that have a slot: nothing changes them, and they agree with the journal.
use Rattle.std.proofs.Common.{◌≡◌, ◌∙◌, not, ℕ, Bool, true, false, zero, suc, List, [], ◌∷◌, ◌++◌, Some, None, map, refl, sym, ap, ap₂, inl, inr}
use Rattle.std.specs.Prelude.{Option, if◌then◌else◌}
use Rattle.std.specs.List.{AllByRecursion}
use Rattle.std.proofs.lemmas.Bool.{cases_Bool}
use Rattle.std.proofs.lemmas.List.{map_push}
use Rattle.pcef_rule.specs.declared.quantity.Slot.{Slot}
use Rattle.pcef_model.specs.declared.command.Command.{Command}
use Rattle.pcef_model.specs.declared.command.Command.TheVariants.{Install, Activate, Remove, Monitor, Stop, ReportNow, Triggers, Notice, LoseBearer, Close, Terminate}
use Rattle.pcef_model.specs.declared.level.Level.{Level}
use Rattle.pcef_model.specs.declared.level.Level.TheVariants.{Rule, Session}
use Rattle.pcef_model.specs.declared.pending_report.PendingReport.{PendingReport}
use Rattle.pcef_model.specs.declared.pending_report.PendingReport.TheVariants.{Inactive, Usage, Access}
use Rattle.pcef_model.specs.declared.entry.Entry.TheVariants as entry
use Rattle.pcef_model.specs.declared.row.Row.{Row}
use Rattle.pcef_model.specs.Setting.{Setting, same_level, same_name}
use Rattle.pcef_model.specs.Commands.{at_session_level, is_among, key_named, level_named}
use Rattle.pcef_model.specs.Generations.{Generation}
use Rattle.pcef_model.specs.Entries.{Journal}
use Rattle.pcef_model.specs.Journals.{ends_grant, level_of, now, slots}
use Rattle.pcef_model.specs.Refusals.{clashes as clashing, first_of, refusals}
use Rattle.pcef_model.proofs.Levels.{among_add, levels_stay, session_now, stranger_level}
use Rattle.pcef_model.proofs.Sameness.{same_name_is, same_name_of}
use Rattle.pcef_usage.specs.declared.usage.KeyState.{KeyState}
use Rattle.pcef_usage.specs.Commands.{entered, started_by}
use Rattle.pcef_usage.specs.Flushes.{rows_counted}
use Rattle.pcef_usage.specs.Keys.{added, at_place, level_clashes, fresh, has_slot, grant_is_reached, keys_of, levels_of, slot_place, reported_on, started, state_at, stopped, ungranted_if_reached, with_octets, with_slot}
use Rattle.pcef_usage.specs.PendingReports.{after_report, after_stop, settled_states, states_stopped, after_reports}
use Rattle.pcef_usage.proofs.Tells.{has_slot_is, keys_at_place}
use Rattle.pcef_usage.proofs.Commanded.{keys_entered}

-- ---- levels stay as states change
levels_at_place : (f : KeyState → KeyState) (n : ℕ) (states : List KeyState) → ((s : KeyState) → (f s).level ≡ s.level) → levels_of (at_place n f states) ≡ levels_of states
levels_at_place f n [] same = refl
levels_at_place f zero (s ∷ states) same = ap (λ l. l ∷ levels_of states) (same s)
levels_at_place f (suc n) (s ∷ states) same = ap (λ ls. s.level ∷ ls) (levels_at_place f n states same)

levels_report : (t : PendingReport) (states : List KeyState) → levels_of (after_report t states) ≡ levels_of states
levels_report (Inactive n) states = refl
levels_report (Usage k cause) states = levels_at_place reported_on (slot_place k states) states (λ s. refl)
levels_report (Access kind value) states = refl

pub levels_told : (ts : List PendingReport) (states : List KeyState) → levels_of (after_reports ts states) ≡ levels_of states
unfolding after_reports
levels_told [] states = refl
levels_told (t ∷ ts) states = levels_told ts (after_report t states) ∙ levels_report t states

levels_stop : (t : PendingReport) (states : List KeyState) → levels_of (after_stop t states) ≡ levels_of states
levels_stop (Inactive n) states = refl
levels_stop (Usage k cause) states =
    elim (cases_Bool (ends_grant cause)) [
      | inl ends ↦ rw ends (levels_at_place stopped (slot_place k states) states (λ s. refl))
      | inr leaves ↦ rw leaves refl
    ]
levels_stop (Access kind value) states = refl

pub levels_stopped : (ts : List PendingReport) (states : List KeyState) → levels_of (states_stopped ts states) ≡ levels_of states
unfolding states_stopped
levels_stopped [] states = refl
levels_stopped (t ∷ ts) states = levels_stopped ts (after_stop t states) ∙ levels_stop t states

levels_ungranted : (states : List KeyState) → levels_of (map ungranted_if_reached states) ≡ levels_of states
levels_ungranted [] = refl
levels_ungranted (s ∷ states) =
    ap₂ (λ l ls. l ∷ ls) (elim (cases_Bool (grant_is_reached s)) [ inl is ↦ rw is refl | inr isnt ↦ rw isnt refl ]) (levels_ungranted states)

pub levels_settled : (b : Bool) (states : List KeyState) → levels_of (settled_states b states) ≡ levels_of states
levels_settled true states = levels_ungranted states
levels_settled false states = refl

levels_with_octets : (own : List Slot) (octets : ℕ) (states : List KeyState) → levels_of (with_octets own octets states) ≡ levels_of states
levels_with_octets [] octets states = refl
levels_with_octets (slot ∷ own) octets states =
    levels_with_octets own octets (at_place slot.0 (added octets) states) ∙ levels_at_place (added octets) slot.0 states (λ s. refl)

pub levels_rows_counted : {I : Type 0} (row : I → Row) (own : I → List Slot) (items : List I) (states : List KeyState) → levels_of (rows_counted row own items states) ≡ levels_of states
unfolding rows_counted
levels_rows_counted row own [] states = refl
levels_rows_counted row own (i ∷ items) states =
    levels_rows_counted row own items (with_octets (own i) (row i).header.octets states) ∙ levels_with_octets (own i) (row i).header.octets states

-- ---- agreement: each key that has a slot has the level that the journal says
pub all_levels : (g : Generation) (states : List KeyState) → levels_of states ≡ map (level_of g) (keys_of states) → AllByRecursion (λ s. s.level ≡ level_of g s.key) states
all_levels g [] is = tt
all_levels g (s ∷ states) is = (head_is s.level (level_of g s.key) (levels_of states) (map (level_of g) (keys_of states)) is, all_levels g states (tail_is s.level (level_of g s.key) (levels_of states) (map (level_of g) (keys_of states)) is))
  where
    head_is : (a b : Level) (ls ms : List Level) → a ∷ ls ≡ b ∷ ms → a ≡ b
    head_is a b ls ms same = cc

    tail_is : (a b : Level) (ls ms : List Level) → a ∷ ls ≡ b ∷ ms → ls ≡ ms
    tail_is a b ls ms same = cc

pub levels_from : (g : Generation) (states : List KeyState) → AllByRecursion (λ s. s.level ≡ level_of g s.key) states → levels_of states ≡ map (level_of g) (keys_of states)
levels_from g [] all = refl
levels_from g (s ∷ states) all = ap₂ (λ l ls. l ∷ ls) all.0 (levels_from g states all.1)

pub level_at : (g : Generation) (k : List ℕ) (states : List KeyState) → AllByRecursion (λ s. s.level ≡ level_of g s.key) states → has_slot k states ≡ true →
    (state_at (slot_place k states) states).level ≡ level_of g k
level_at g k [] all there = absurd cc
level_at g k (s ∷ states) all there =
    elim (cases_Bool (same_name k s.key)) [
      | inl same ↦ rw same (all.0 ∙ ap (level_of g) (sym (same_name_is k s.key same)))
      | inr differs ↦ let rest : has_slot k states ≡ true = rw differs at there in rw differs (level_at g k states all.1 rest)
    ]

-- the test for a clash, by the journal
pub clashes_is : (p : Setting) (j : Journal) (named : Option (List ℕ)) (level : Level) (states : List KeyState) → keys_of states ≡ slots p j →
    AllByRecursion (λ s. s.level ≡ level_of (now p j) s.key) states → level_clashes named level states ≡ clashing p j level named
clashes_is p j None level states keys all = refl
clashes_is p j (Some k) level states keys all =
    let known : has_slot k states ≡ is_among k (slots p j) = has_slot_is k states ∙ ap (is_among k) keys in
    elim (cases_Bool (has_slot k states)) [
      | inl there ↦
          let among : is_among k (slots p j) ≡ true = sym known ∙ there in
          rw (there, among) (ap (λ l. not (same_level level l)) (level_at (now p j) k states all there))
      | inr absent ↦ let none : is_among k (slots p j) ≡ false = sym known ∙ absent in rw (absent, none) refl
    ]

-- ---- a command
-- the level of a key that a command names first
new_level : (p : Setting) (j : Journal) (c : Command) (k : List ℕ) → key_named p c ≡ Some k → is_among k (slots p j) ≡ false →
    level_of (now p (entry.Command c ∷ j)) k ≡ level_named c
new_level p j c k named absent =
    ap (λ (b : Bool). if b then Session else Rule) (ap (is_among k) (session_now p j c)) ∙ from c named
  where
    off : is_among k (now p j).session ≡ false
    off = stranger_level p _ k absent

    from : (d : Command) → key_named p d ≡ Some k → (if is_among k (at_session_level d (now p j).session) then Session else Rule) ≡ level_named d
    from (Monitor l amount Session) is =
        let same : l ≡ k = cc in
        let there : is_among k (at_session_level (Monitor l amount Session) (now p j).session) ≡ true =
        among_add k l (now p j).session ∙ rw (off, same_name_of k l (sym same)) refl in rw there refl
    from (Monitor l amount Rule) is = rw off refl
    from (Install rule) is = rw off refl
    from (Activate name) is = rw off refl
    from (Remove name) is = absurd cc
    from (Stop l) is = absurd cc
    from (ReportNow l) is = absurd cc
    from (Triggers set) is = absurd cc
    from (Notice kind value) is = absurd cc
    from (LoseBearer id) is = absurd cc
    from Close is = absurd cc
    from Terminate is = absurd cc

levels_started : (c : Command) (states : List KeyState) → levels_of (started_by c states) ≡ levels_of states
levels_started (Monitor l amount level) states = levels_at_place (started amount) (slot_place l states) states (λ s. refl)
levels_started (Install rule) states = refl
levels_started (Activate name) states = refl
levels_started (Remove name) states = refl
levels_started (Stop l) states = refl
levels_started (ReportNow l) states = refl
levels_started (Triggers set) states = refl
levels_started (Notice kind value) states = refl
levels_started (LoseBearer id) states = refl
levels_started Close states = refl
levels_started Terminate states = refl

-- a key that is among some names, and levels that stay for those
same_levels : (g h : Generation) (keys all : List (List ℕ)) → ((k : List ℕ) → is_among k all ≡ true → level_of h k ≡ level_of g k) → ((k : List ℕ) → is_among k keys ≡ true → is_among k all ≡ true) →
    map (level_of g) keys ≡ map (level_of h) keys
same_levels g h [] all stay within = refl
same_levels g h (k ∷ keys) all stay within =
    ap₂ (λ l ls. l ∷ ls) (sym (stay k (within k (here k keys)))) (same_levels g h keys all stay (λ l there. within l (later l k keys there)))
  where
    here : (k : List ℕ) (keys : List (List ℕ)) → is_among k (k ∷ keys) ≡ true
    here k keys = rw (same_name_of k k refl) refl

    later : (l k : List ℕ) (keys : List (List ℕ)) → is_among l keys ≡ true → is_among l (k ∷ keys) ≡ true
    later l k keys there = elim (cases_Bool (same_name l k)) [ inl same ↦ rw same refl | inr differs ↦ rw differs there ]

levels_slotted : (g h : Generation) (named : Option (List ℕ)) (level : Level) (states : List KeyState) → levels_of states ≡ map (level_of g) (keys_of states) →
    ((k : List ℕ) → is_among k (keys_of states) ≡ true → level_of h k ≡ level_of g k) → ((k : List ℕ) → named ≡ Some k → has_slot k states ≡ false → level_of h k ≡ level) →
    levels_of (with_slot named level states) ≡ map (level_of h) (keys_of (with_slot named level states))
levels_slotted g h None level states are stay new = are ∙ same_levels g h (keys_of states) (keys_of states) stay (λ k there. there)
levels_slotted g h (Some k) level states are stay new =
    elim (cases_Bool (has_slot k states)) [
      | inl there ↦ rw there (are ∙ same_levels g h (keys_of states) (keys_of states) stay (λ l there. there))
      | inr absent ↦
          let old : levels_of states ≡ map (level_of h) (keys_of states) = are ∙ same_levels g h (keys_of states) (keys_of states) stay (λ l there. there) in
          rw absent (
          map_push (λ (s : KeyState). s.level) states (fresh k level)
          ∙ ap₂ (λ ls l. ls ++ l ∷ []) old (sym (new k refl absent))
          ∙ sym (ap (map (level_of h)) (map_push (λ (s : KeyState). s.key) states (fresh k level)) ∙ map_push (level_of h) (keys_of states) k))
    ]

pub levels_entered : (p : Setting) (j : Journal) (c : Command) (states : List KeyState) → first_of (refusals p j c) ≡ None → keys_of states ≡ slots p j →
    levels_of states ≡ map (level_of (now p j)) (keys_of states) →
    levels_of (entered p c states) ≡ map (level_of (now p (entry.Command c ∷ j))) (keys_of (with_slot (key_named p c) (level_named c) states))
levels_entered p j c states accepted keys are =
    levels_started c (with_slot (key_named p c) (level_named c) states)
    ∙ levels_slotted (now p j) (now p (entry.Command c ∷ j)) (key_named p c) (level_named c) states are
    (λ k there. levels_stay p j c accepted k (ap (is_among k) (sym keys) ∙ there))
    (λ k named absent. new_level p j c k named (ap (is_among k) (sym keys) ∙ sym (has_slot_is k states) ∙ absent))

-- the keys that have a slot then
pub keys_slotted : (p : Setting) (j : Journal) (c : Command) (states : List KeyState) → keys_of states ≡ slots p j →
    keys_of (with_slot (key_named p c) (level_named c) states) ≡ slots p (entry.Command c ∷ j)
keys_slotted p j c states keys = sym (keys_started c (with_slot (key_named p c) (level_named c) states)) ∙ keys_entered p j c states keys
  where
    keys_started : (d : Command) (old : List KeyState) → keys_of (started_by d old) ≡ keys_of old
    keys_started (Monitor l amount level) old = keys_at_place (started amount) (slot_place l old) old (λ s. refl)
    keys_started (Install rule) old = refl
    keys_started (Activate name) old = refl
    keys_started (Remove name) old = refl
    keys_started (Stop l) old = refl
    keys_started (ReportNow l) old = refl
    keys_started (Triggers set) old = refl
    keys_started (Notice kind value) old = refl
    keys_started (LoseBearer id) old = refl
    keys_started Close old = refl
    keys_started Terminate old = refl
