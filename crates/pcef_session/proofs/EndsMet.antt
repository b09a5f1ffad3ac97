-- Which ends a journal has met, as it grows.
use Rattle.std.proofs.Common.{◌≡◌, ◌∙◌, ◌≤◌, ◌<◌, ◌+◌, ◌||◌, ℕ, suc, Bool, true, false, List, [], ◌∷◌, length, refl, sym, ap, arith, None}
use Rattle.std.specs.List.{list_any}
use Rattle.std.specs.Prelude.{nat_le}
use Rattle.std.proofs.lemmas.Bool.{leb-false}
use Rattle.pcef_model.specs.declared.answer.Refusal.TheVariants as refusal
use Rattle.pcef_model.specs.declared.command.Command.{Command}
use Rattle.pcef_model.specs.declared.command.Command.TheVariants.{Install, Activate, Remove, Monitor, Stop, ReportNow, Triggers, Notice, LoseBearer, Close, Terminate}
use Rattle.pcef_model.specs.declared.entry.Entry.{Entry}
use Rattle.pcef_model.specs.declared.entry.Entry.TheVariants as entry
use Rattle.pcef_model.specs.declared.report.Report.{Report}
use Rattle.pcef_model.specs.declared.row.Row.{Row}
use Rattle.pcef_model.specs.declared.pending_report.PendingReport.{PendingReport}
use Rattle.pcef_model.specs.Setting.{Setting}
use Rattle.pcef_model.specs.Entries.{Journal, commands}
use Rattle.pcef_model.specs.Journals.{report_count}
use Rattle.pcef_model.specs.Refusals.{common_refusals, first_of, first_refusals, is_close, is_terminate, limited_count, own_refusals, refusals, was_closed, was_terminated}
use Rattle.pcef_model.specs.Reports.{after_command, after_flush, body_of, plan, with_reports, thresholds, with_rows}
use Rattle.pcef_model.proofs.Acceptance.{condition_none, conditions_none}
use Rattle.pcef_session.specs.private.Soundness.{EndsAgree, ends_met}
use Rattle.pcef_session.proofs.Refused.{limited_plain}

-- ---- entries of a kind, as reports and rows come
any_told : (test : Entry → Bool) (p : Setting) (ts : List PendingReport) (j : Journal) → ((r : Report) → test (entry.Report r) ≡ false) → list_any test (with_reports p ts j) ≡ list_any test j
unfolding with_reports
any_told test p [] j other = refl
any_told test p (t ∷ ts) j other =
    let r : Report = record { number = report_count j; body = body_of p j t } in
    any_told test p ts (entry.Report r ∷ j) other ∙ ap (λ b. b || list_any test j) (other r)

any_with : (test : Entry → Bool) (rs : List Row) (j : Journal) → ((r : Row) → test (entry.Row r) ≡ false) → list_any test (with_rows rs j) ≡ list_any test j
unfolding with_rows
any_with test [] j other = refl
any_with test (r ∷ rs) j other = any_with test rs (entry.Row r ∷ j) other ∙ ap (λ b. b || list_any test j) (other r)

any_commanded : (test : Entry → Bool) (p : Setting) (j : Journal) (c : Command) → ((r : Report) → test (entry.Report r) ≡ false) →
    list_any test (after_command p j c) ≡ (test (entry.Command c) || list_any test j)
unfolding after_command
any_commanded test p j c other =
    any_told test p (thresholds p (with_reports p (plan p j c) (entry.Command c ∷ j))) (with_reports p (plan p j c) (entry.Command c ∷ j)) other
    ∙ any_told test p (plan p j c) (entry.Command c ∷ j) other

any_flushed : (test : Entry → Bool) (p : Setting) (j : Journal) (rs : List Row) → ((r : Report) → test (entry.Report r) ≡ false) → ((r : Row) → test (entry.Row r) ≡ false) →
    list_any test (after_flush p j rs) ≡ list_any test j
any_flushed test p j [] no_report no_row = refl
any_flushed test p j (r ∷ rs) no_report no_row =
    any_told test p (thresholds p (with_rows (r ∷ rs) j)) (with_rows (r ∷ rs) j) no_report ∙ any_with test (r ∷ rs) j no_row

-- ---- agreement
pub ends_first : EndsAgree [] false false
ends_first = record { closed_is = refl; terminated_is = refl }

pub ends_commanded : (p : Setting) (j : Journal) (c : Command) (closed terminated : Bool) → EndsAgree j closed terminated →
    EndsAgree (after_command p j c) (is_close (entry.Command c) || closed) (is_terminate (entry.Command c) || terminated)
ends_commanded p j c closed terminated agree = record {
  closed_is = any_commanded is_close p j c (λ r. refl) ∙ ap (λ b. is_close (entry.Command c) || b) agree.closed_is;
  terminated_is = any_commanded is_terminate p j c (λ r. refl) ∙ ap (λ b. is_terminate (entry.Command c) || b) agree.terminated_is;
}

pub ends_flushed : (p : Setting) (j : Journal) (rs : List Row) (closed terminated : Bool) → EndsAgree j closed terminated → EndsAgree (after_flush p j rs) closed terminated
ends_flushed p j rs closed terminated agree = record {
  closed_is = any_flushed is_close p j rs (λ r. refl) (λ r. refl) ∙ agree.closed_is;
  terminated_is = any_flushed is_terminate p j rs (λ r. refl) (λ r. refl) ∙ agree.terminated_is;
}

-- ---- the budget of commands
-- a command that has a budget is within it
within_budget : (p : Setting) (j : Journal) → first_of (common_refusals p j) ≡ None → length (commands j) < p.commands
within_budget p j none =
    let first = condition_none (was_terminated j) refusal.Terminated ((was_closed j, refusal.Closed) ∷ (nat_le p.commands (limited_count j), refusal.CommandsFull) ∷ []) none in
    let second = condition_none (was_closed j) refusal.Closed ((nat_le p.commands (limited_count j), refusal.CommandsFull) ∷ []) first.1 in
    let third = condition_none (nat_le p.commands (limited_count j)) refusal.CommandsFull [] second.1 in
    let count = limited_plain j second.0 first.0 in
    omega (arith, count, leb-false p.commands (limited_count j) third.0)

closing : (n m : ℕ) (closed terminated : Bool) → closed ≡ false → terminated ≡ false → n ≤ m + ends_met closed terminated → suc n ≤ m + ends_met true terminated
closing n m false false opened living few = omega (arith, few)
closing n m true terminated opened living few = absurd cc
closing n m false true opened living few = absurd cc

terminating : (n m : ℕ) (closed terminated : Bool) → terminated ≡ false → n ≤ m + ends_met closed terminated → suc n ≤ m + ends_met closed true
terminating n m false false living few = omega (arith, few)
terminating n m true false living few = omega (arith, few)
terminating n m closed true living few = absurd cc

limited : (n m e : ℕ) → n < m → suc n ≤ m + e
limited n m e few = omega (arith, few)

-- with each accepted command there are no more than the profile allows, Close and Terminate apart
pub few_after : (p : Setting) (j : Journal) (c : Command) (closed terminated : Bool) → EndsAgree j closed terminated → first_of (refusals p j c) ≡ None →
    length (commands j) ≤ p.commands + ends_met closed terminated →
    suc (length (commands j)) ≤ p.commands + ends_met (is_close (entry.Command c) || closed) (is_terminate (entry.Command c) || terminated)
few_after p j c closed terminated agree accepted few = from c (conditions_none (first_refusals p j c) (own_refusals p j c) accepted).0
  where
    from : (c : Command) → first_of (first_refusals p j c) ≡ None →
        suc (length (commands j)) ≤ p.commands + ends_met (is_close (entry.Command c) || closed) (is_terminate (entry.Command c) || terminated)
    from Close none =
        let first = condition_none (was_terminated j) refusal.Terminated ((was_closed j, refusal.Closed) ∷ []) none in
        let second = condition_none (was_closed j) refusal.Closed [] first.1 in
        closing (length (commands j)) p.commands closed terminated (sym agree.closed_is ∙ second.0) (sym agree.terminated_is ∙ first.0) few
    from Terminate none =
        let first = condition_none (was_terminated j) refusal.Terminated [] none in
        terminating (length (commands j)) p.commands closed terminated (sym agree.terminated_is ∙ first.0) few
    from (Install rule) none = limited (length (commands j)) p.commands (ends_met closed terminated) (within_budget p j none)
    from (Activate name) none = limited (length (commands j)) p.commands (ends_met closed terminated) (within_budget p j none)
    from (Remove name) none = limited (length (commands j)) p.commands (ends_met closed terminated) (within_budget p j none)
    from (Monitor key amount level) none = limited (length (commands j)) p.commands (ends_met closed terminated) (within_budget p j none)
    from (Stop key) none = limited (length (commands j)) p.commands (ends_met closed terminated) (within_budget p j none)
    from (ReportNow key) none = limited (length (commands j)) p.commands (ends_met closed terminated) (within_budget p j none)
    from (Triggers set) none = limited (length (commands j)) p.commands (ends_met closed terminated) (within_budget p j none)
    from (Notice kind value) none = limited (length (commands j)) p.commands (ends_met closed terminated) (within_budget p j none)
    from (LoseBearer id) none = limited (length (commands j)) p.commands (ends_met closed terminated) (within_budget p j none)
