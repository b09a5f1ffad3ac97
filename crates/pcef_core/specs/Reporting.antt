-- What is reported (TS 29.212, clauses 4.5.16 and 4.5.17).
use Rattle.std.specs.Prelude.{ℕ, ◌≡◌, ◌==◌, Bool, true, false, List, [], ◌∷◌, None, filter, length, map}
use Rattle.std.specs.Cmp.Lexicographic.{slice_cmp}
use Rattle.std.specs.List.{AllByRecursion, list_any}
use Rattle.std.specs.List.Sorted.{IsPermutation}
use Rattle.std.specs.Ordering.{is_lt, nat_cmp}
use Rattle.pcef_rule.specs.declared.quantity.BearerId.{BearerId}
use Rattle.pcef_model.specs.declared.command.Command.{Command}
use Rattle.pcef_model.specs.declared.command.Command.TheVariants.{LoseBearer, Terminate}
use Rattle.pcef_model.specs.declared.pending_report.PendingReport.{PendingReport}
use Rattle.pcef_model.specs.declared.pending_report.PendingReport.TheVariants.{Inactive, Usage}
use Rattle.pcef_model.specs.declared.report.Cause.{Cause}
use Rattle.pcef_model.specs.declared.row.Row.{Row}
use Rattle.pcef_model.specs.Commands.{is_among}
use Rattle.pcef_model.specs.Entries.{Journal}
use Rattle.pcef_model.specs.Generations.{Generation}
use Rattle.pcef_model.specs.Journals.{counted, now, reported, slots, subscribed, unreported}
use Rattle.pcef_model.specs.Lawful.{Lawful}
use Rattle.pcef_model.specs.Outcomes.{changes}
use Rattle.pcef_model.specs.Refusals.{attach_faults, first_of, flush_refusals, is_attached, refusals}
use Rattle.pcef_model.specs.Reports.{after_attach, after_command, after_flush, after_leave, inactive, is_reached, plan, with_reports}
use Rattle.pcef_model.specs.Setting.{Setting, same_name}

-- ---- grants
-- while usage reports are subscribed, each key that is on and has a grant has fewer unreported octets than it between two
-- events
abbrev pub GrantsAreReported : Type 0
GrantsAreReported = (p : Setting) (j : Journal) → Lawful p j → (subscribed j).usage_report ≡ true →
    (key : List ℕ) → is_among key (slots p j) ≡ true → is_reached p j key ≡ false

-- ---- keys that go off
-- a usage report of a key
abbrev pub is_usage_of : List ℕ → PendingReport → Bool
is_usage_of key (Usage other cause) = same_name key other
is_usage_of key _ = false

-- a key goes off only with a report of it
abbrev pub KeysGoOffWithAReport : Type 0
KeysGoOffWithAReport = (p : Setting) (j : Journal) (c : Command) (key : List ℕ) → is_among key (slots p j) ≡ true →
    is_among key (now p j).on ≡ true → is_among key (now p (after_command p j c)).on ≡ false → list_any (is_usage_of key) (plan p j c) ≡ true

-- ---- octets
-- right after a usage report of a key all that was counted for it is reported
abbrev pub ReportsHaveAllOctets : Type 0
ReportsHaveAllOctets = (p : Setting) (j : Journal) → Lawful p j → (key : List ℕ) (cause : Cause) →
    reported (with_reports p (Usage key cause ∷ []) j) key ≡ counted p (with_reports p (Usage key cause ∷ []) j) key

-- ---- rules that go with a lost bearer
-- no name is below one that stands before it, by the bytes
abbrev pub Ascends : List (List ℕ) → Type 0
Ascends [] = Unit {0}
Ascends (name ∷ names) = AllByRecursion (λ later. is_lt (slice_cmp nat_cmp later name) ≡ false) names × Ascends names

abbrev pub names_on : Generation → BearerId → List (List ℕ)
names_on g id = map (λ r. r.properties.name) (filter (λ r. g.id_of r.properties.qos == id.0) g.rules)

-- the rules of a lost bearer are reported in ascending order of their names, each once
abbrev pub LostRulesAreReportedInOrder : Type 0
LostRulesAreReportedInOrder = (g : Generation) (id : BearerId) →
    (names : List (List ℕ)) × (inactive g (LoseBearer id) ≡ map Inactive names) × IsPermutation (names_on g id) names × Ascends names

-- ---- the end
-- the journals that may come after one, event by event
pub data Later (p : Setting) (before : Journal) : Journal → Type 0 where
  at_once : Later p before before
  by_command : (j : Journal) (c : Command) → Later p before j → first_of (refusals p j c) ≡ None → changes p j c ≡ true →
      Later p before (after_command p j c)
  by_attach : (j : Journal) → Later p before j → first_of (attach_faults j) ≡ None → Later p before (after_attach j)
  by_leave : (j : Journal) (worker : ℕ) → Later p before j → is_attached j worker ≡ true → Later p before (after_leave worker j)
  by_flush : (j : Journal) (worker : ℕ) (rows : List Row) → Later p before j →
      first_of (flush_refusals p j worker (length rows)) ≡ None → Later p before (after_flush p j rows)

-- after a Terminate nothing is unreported, and nothing that follows changes that
abbrev pub TerminateReportsAll : Type 0
TerminateReportsAll = (p : Setting) (j k : Journal) → Lawful p j → first_of (refusals p j Terminate) ≡ None → Later p (after_command p j Terminate) k →
    (key : List ℕ) → is_among key (slots p j) ≡ true → unreported p k key ≡ 0
