-- Reports that are made one after another, by what the counters say.
use Rattle.std.specs.Prelude.{◌≡◌, ℕ, ◌+◌, Bool, true, false, List, [], ◌∷◌, map, None, if◌then◌else◌, ◌&&◌, filter}
use Rattle.std.specs.List.{list_any, AllByRecursion}
use Rattle.pcef_rule.specs.declared.quantity.Slot.{Slot}
use Rattle.pcef_model.specs.declared.report.Body.{Body}
use Rattle.pcef_model.specs.declared.report.Body.TheVariants as body
use Rattle.pcef_model.specs.declared.report.Cause.TheVariants.{Threshold}
use Rattle.pcef_model.specs.declared.report.InactiveCause.TheVariants.{BearerLost}
use Rattle.pcef_model.specs.declared.pending_report.PendingReport.{PendingReport}
use Rattle.pcef_model.specs.declared.pending_report.PendingReport.TheVariants.{Inactive, Usage, Access}
use Rattle.pcef_model.specs.declared.entry.Entry.TheVariants as entry
use Rattle.pcef_model.specs.Setting.{Setting, same_name}
use Rattle.pcef_model.specs.Commands.{is_among}
use Rattle.pcef_model.specs.Entries.{Journal}
use Rattle.pcef_model.specs.Journals.{counted, ends_grant, grant, now, report_count, reported}
use Rattle.pcef_usage.specs.declared.usage.KeyState.{KeyState}
use Rattle.pcef_usage.specs.Keys.{at_place, grant_is_reached, slot_place, reported_on, state_at, stopped, ungranted_if_reached}

-- ---- reporting by the counters
abbrev pub body_by : List KeyState → PendingReport → Body
body_by states (Inactive rule) = body.Inactive rule BearerLost
body_by states (Usage key cause) = body.Usage key (state_at (slot_place key states) states).unreported cause
body_by states (Access kind value) = body.Access kind value

abbrev pub after_report : PendingReport → List KeyState → List KeyState
after_report (Usage key cause) states = at_place (slot_place key states) reported_on states
after_report _ states = states

-- the journal, and the counters, after these reports
unfoldable pub appended : List PendingReport → List KeyState → Journal → Journal
appended [] states j = j
appended (t ∷ ts) states j = appended ts (after_report t states) (entry.Report (record { number = report_count j; body = body_by states t }) ∷ j)

unfoldable pub after_reports : List PendingReport → List KeyState → List KeyState
after_reports [] states = states
after_reports (t ∷ ts) states = after_reports ts (after_report t states)

-- each key that is reported has a slot
abbrev pub Knows : List (List ℕ) → PendingReport → Type 0
Knows keys (Usage key cause) = is_among key keys ≡ true
Knows keys _ = Unit {0}

unfoldable pub KnowsAll : List (List ℕ) → List PendingReport → Type 0
KnowsAll keys ts = AllByRecursion (Knows keys) ts

-- ---- keys that reports switch off
abbrev pub after_stop : PendingReport → List KeyState → List KeyState
after_stop (Usage key cause) states = if ends_grant cause then at_place (slot_place key states) stopped states else states
after_stop _ states = states

-- the keys whose grants end are switched off
unfoldable pub states_stopped : List PendingReport → List KeyState → List KeyState
states_stopped [] states = states
states_stopped (t ∷ ts) states = states_stopped ts (after_stop t states)

-- ---- thresholds
abbrev pub threshold : List ℕ → PendingReport
threshold key = Usage key Threshold

abbrev pub reached_reports : List KeyState → List PendingReport
reached_reports states = map (λ s. threshold s.key) (filter grant_is_reached states)

-- the reports at the end of an event, and the states without the grants that these take, while there is a
-- subscription
abbrev pub threshold_reports : Bool → List KeyState → List PendingReport
threshold_reports subscribed states = if subscribed then reached_reports states else []

abbrev pub settled_states : Bool → List KeyState → List KeyState
settled_states subscribed states = if subscribed then map ungranted_if_reached states else states

-- the journal, and the counters, after the thresholds that are reached are reported
abbrev pub thresholds_told : Bool → List KeyState → Journal → Journal
thresholds_told subscribed states j = appended (threshold_reports subscribed states) (settled_states subscribed states) j

abbrev pub after_thresholds : Bool → List KeyState → List KeyState
after_thresholds subscribed states = after_reports (threshold_reports subscribed states) (settled_states subscribed states)

-- ---- for private clauses
-- the reports of the keys of these slots
abbrev pub thresholds_at : List Slot → List KeyState → List PendingReport
thresholds_at slots states = map (λ s. threshold (state_at s.0 states).key) slots

-- a journal with one report more
abbrev pub with_report : PendingReport → List KeyState → Journal → Journal
with_report t states j = entry.Report (record { number = report_count j; body = body_by states t }) ∷ j

-- ---- agreement with the journal
-- these take the grant of a key
abbrev pub ends : List ℕ → PendingReport → Bool
ends key (Usage other cause) = same_name key other && ends_grant cause
ends key _ = false

abbrev pub ended : List PendingReport → List ℕ → Bool
ended ts key = list_any (ends key) ts

-- no key stands twice
abbrev pub Distinct : List (List ℕ) → Type 0
Distinct [] = Unit {0}
Distinct (k ∷ keys) = (is_among k keys ≡ false) × Distinct keys

-- the counters of one key, while these are still to be reported: their grants are gone already
pub record Counts (p : Setting) (j : Journal) (ts : List PendingReport) (s : KeyState) : Type 0 where
  pub grant_is : s.grant ≡ (if ended ts s.key then None else grant j s.key)
  pub reported_is : s.reported ≡ reported j s.key
  pub counted_is : s.reported + s.unreported ≡ counted p j s.key

unfoldable pub AllCount : Setting → Journal → List PendingReport → List KeyState → Type 0
AllCount p j ts states = AllByRecursion (Counts p j ts) states

pub record OnIs (p : Setting) (j : Journal) (s : KeyState) : Type 0 where
  pub on_is : s.on ≡ is_among s.key (now p j).on

unfoldable pub AllOn : Setting → Journal → List KeyState → Type 0
AllOn p j states = AllByRecursion (OnIs p j) states
