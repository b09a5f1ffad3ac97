-- What events leave of the numbers of generations and reports, and of what is subscribed.
use Rattle.std.proofs.Common.{◌≡◌, ◌+◌, ◌∙◌, List, [], ◌∷◌, length, refl, ap, arith, inl, inr}
use Rattle.std.specs.Prelude.{if◌then◌else◌}
use Rattle.std.proofs.lemmas.Bool.{cases_Bool}
use Rattle.pcef_model.specs.declared.command.Command.{Command}
use Rattle.pcef_model.specs.declared.entry.Entry.TheVariants as entry
use Rattle.pcef_model.specs.declared.row.Row.{Row}
use Rattle.pcef_model.specs.declared.pending_report.PendingReport.{PendingReport}
use Rattle.pcef_model.specs.Setting.{Setting}
use Rattle.pcef_model.specs.Generations.{made_by, slots_of}
use Rattle.pcef_model.specs.Entries.{Journal}
use Rattle.pcef_model.specs.Journals.{gen, now, report_count, slots, subscribed, tables}
use Rattle.pcef_model.specs.Commands.{is_table}
use Rattle.pcef_model.specs.Reports.{after_command, body_of, plan, with_thresholds, with_reports, thresholds, with_rows}
use Rattle.pcef_model.proofs.Reports.{tell_subscribed, tell_tables}

-- ---- generations
pub tables_settled : (p : Setting) (j : Journal) → tables (with_thresholds p j) ≡ tables j
tables_settled p j = tell_tables p (thresholds p j) j

pub tables_after : (p : Setting) (j : Journal) (c : Command) → tables (after_command p j c) ≡ tables (entry.Command c ∷ j)
unfolding after_command
tables_after p j c = tables_settled p (with_reports p (plan p j c) (entry.Command c ∷ j)) ∙ tell_tables p (plan p j c) (entry.Command c ∷ j)

pub now_after : (p : Setting) (j : Journal) (c : Command) → now p (after_command p j c) ≡ now p (entry.Command c ∷ j)
now_after p j c = ap (made_by p) (tables_after p j c)

pub slots_after : (p : Setting) (j : Journal) (c : Command) → slots p (after_command p j c) ≡ slots p (entry.Command c ∷ j)
slots_after p j c = ap (slots_of p) (tables_after p j c)

pub gen_after : (p : Setting) (j : Journal) (c : Command) → gen (after_command p j c) ≡ (if is_table c then 1 else 0) + gen j
gen_after p j c =
    ap length (tables_after p j c) ∙
    elim (cases_Bool (is_table c)) [
      | inl is ↦ rw is (omega arith)
      | inr isnt ↦ rw isnt (omega arith)
    ]

pub tables_after_rows : (rs : List Row) (j : Journal) → tables (with_rows rs j) ≡ tables j
unfolding with_rows
tables_after_rows [] j = refl
tables_after_rows (r ∷ rs) j = tables_after_rows rs (entry.Row r ∷ j)

-- ---- reports
pub report_count_tell : (p : Setting) (ts : List PendingReport) (j : Journal) → report_count (with_reports p ts j) ≡ length ts + report_count j
unfolding with_reports
report_count_tell p [] j = omega arith
report_count_tell p (t ∷ ts) j =
    let rest = report_count_tell p ts (entry.Report (record { number = report_count j; body = body_of p j t }) ∷ j) in omega (arith, rest)

pub report_count_after : (p : Setting) (j : Journal) (c : Command) →
    report_count (after_command p j c) ≡ length (thresholds p (with_reports p (plan p j c) (entry.Command c ∷ j))) + length (plan p j c) + report_count j
unfolding after_command
report_count_after p j c =
    let own : report_count (with_reports p (plan p j c) (entry.Command c ∷ j)) ≡ length (plan p j c) + report_count j = report_count_tell p (plan p j c) (entry.Command c ∷ j) in
    let all = report_count_tell p (thresholds p (with_reports p (plan p j c) (entry.Command c ∷ j))) (with_reports p (plan p j c) (entry.Command c ∷ j)) in omega (arith, own, all)

pub report_count_after_rows : (rs : List Row) (j : Journal) → report_count (with_rows rs j) ≡ report_count j
unfolding with_rows
report_count_after_rows [] j = refl
report_count_after_rows (r ∷ rs) j = report_count_after_rows rs (entry.Row r ∷ j)

pub subscribed_settled : (p : Setting) (j : Journal) → subscribed (with_thresholds p j) ≡ subscribed j
subscribed_settled p j = tell_subscribed p (thresholds p j) j
