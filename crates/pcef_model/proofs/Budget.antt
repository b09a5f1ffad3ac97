-- How many commands a lawful journal has, Close and Terminate apart.
use Rattle.std.proofs.Common.{◌≡◌, ◌∙◌, ◌≤◌, ◌<◌, ◌+◌, ℕ, true, false, List, [], ◌∷◌, None, refl, arith}
use Rattle.std.specs.Prelude.{nat_le, if◌then◌else◌}
use Rattle.std.proofs.lemmas.Bool.{leb-false}
use Rattle.pcef_model.specs.declared.answer.Refusal.TheVariants as refusal
use Rattle.pcef_model.specs.declared.command.Command.{Command}
use Rattle.pcef_model.specs.declared.command.Command.TheVariants.{Install, Activate, Remove, Monitor, Stop, ReportNow, Triggers, Notice, LoseBearer, Close, Terminate}
use Rattle.pcef_model.specs.declared.entry.Entry.TheVariants as entry
use Rattle.pcef_model.specs.declared.report.Report.{Report}
use Rattle.pcef_model.specs.declared.row.Row.{Row}
use Rattle.pcef_model.specs.declared.pending_report.PendingReport.{PendingReport}
use Rattle.pcef_model.specs.Setting.{Setting}
use Rattle.pcef_model.specs.Entries.{Journal}
use Rattle.pcef_model.specs.Journals.{report_count}
use Rattle.pcef_model.specs.Lawful.{Lawful, at_first, by_attach, by_command, by_flush, by_leave}
use Rattle.pcef_model.specs.Refusals.{common_refusals, first_of, first_refusals, is_limited, limited_count, own_refusals, refusals, was_closed, was_terminated}
use Rattle.pcef_model.specs.Reports.{after_command, after_flush, body_of, plan, with_reports, thresholds, with_rows}
use Rattle.pcef_model.proofs.Acceptance.{condition_none, conditions_none}

-- ---- neither a report nor a row has a budget
limited_told : (p : Setting) (ts : List PendingReport) (j : Journal) → limited_count (with_reports p ts j) ≡ limited_count j
unfolding with_reports limited_count
limited_told p [] j = refl
limited_told p (t ∷ ts) j =
    let r : Report = record { number = report_count j; body = body_of p j t } in
    let rest = limited_told p ts (entry.Report r ∷ j) in omega (arith, rest)

limited_with : (rs : List Row) (j : Journal) → limited_count (with_rows rs j) ≡ limited_count j
unfolding with_rows limited_count
limited_with [] j = refl
limited_with (r ∷ rs) j = let rest = limited_with rs (entry.Row r ∷ j) in omega (arith, rest)

limited_flushed : (p : Setting) (j : Journal) (rs : List Row) → limited_count (after_flush p j rs) ≡ limited_count j
limited_flushed p j [] = refl
limited_flushed p j (r ∷ rs) = limited_told p (thresholds p (with_rows (r ∷ rs) j)) (with_rows (r ∷ rs) j) ∙ limited_with (r ∷ rs) j

limited_commanded : (p : Setting) (j : Journal) (c : Command) →
    limited_count (after_command p j c) ≡ (if is_limited (entry.Command c) then 1 else 0) + limited_count j
unfolding after_command limited_count
limited_commanded p j c =
    limited_told p (thresholds p (with_reports p (plan p j c) (entry.Command c ∷ j))) (with_reports p (plan p j c) (entry.Command c ∷ j))
    ∙ limited_told p (plan p j c) (entry.Command c ∷ j)

-- ---- a command that has a budget is within it
below_budget : (p : Setting) (j : Journal) → first_of (common_refusals p j) ≡ None → limited_count j < p.commands
below_budget p j none =
    let first = condition_none (was_terminated j) refusal.Terminated ((was_closed j, refusal.Closed) ∷ (nat_le p.commands (limited_count j), refusal.CommandsFull) ∷ []) none in
    let second = condition_none (was_closed j) refusal.Closed ((nat_le p.commands (limited_count j), refusal.CommandsFull) ∷ []) first.1 in
    let third = condition_none (nat_le p.commands (limited_count j)) refusal.CommandsFull [] second.1 in
    leb-false p.commands (limited_count j) third.0

within_with : (p : Setting) (j : Journal) (c : Command) → limited_count j ≤ p.commands → first_of (first_refusals p j c) ≡ None →
    (if is_limited (entry.Command c) then 1 else 0) + limited_count j ≤ p.commands
within_with p j Close few none = omega (arith, few)
within_with p j Terminate few none = omega (arith, few)
within_with p j (Install rule) few none = let below = below_budget p j none in omega (arith, below)
within_with p j (Activate name) few none = let below = below_budget p j none in omega (arith, below)
within_with p j (Remove name) few none = let below = below_budget p j none in omega (arith, below)
within_with p j (Monitor key amount level) few none = let below = below_budget p j none in omega (arith, below)
within_with p j (Stop key) few none = let below = below_budget p j none in omega (arith, below)
within_with p j (ReportNow key) few none = let below = below_budget p j none in omega (arith, below)
within_with p j (Triggers set) few none = let below = below_budget p j none in omega (arith, below)
within_with p j (Notice kind value) few none = let below = below_budget p j none in omega (arith, below)
within_with p j (LoseBearer id) few none = let below = below_budget p j none in omega (arith, below)

pub commands_are_within : (p : Setting) (j : Journal) → Lawful p j → limited_count j ≤ p.commands
unfolding limited_count
commands_are_within p _ at_first = omega arith
commands_are_within p _ (by_command j c l accepted changes) =
    let none = (conditions_none (first_refusals p j c) (own_refusals p j c) accepted).0 in
    let few = within_with p j c (commands_are_within p j l) none in
    omega (arith, few, limited_commanded p j c)
commands_are_within p _ (by_attach j l accepted) = let few = commands_are_within p j l in omega (arith, few)
commands_are_within p _ (by_leave j worker l there) = let few = commands_are_within p j l in omega (arith, few)
commands_are_within p _ (by_flush j worker rs l accepted follows) =
    let few = commands_are_within p j l in omega (arith, few, limited_flushed p j rs)
