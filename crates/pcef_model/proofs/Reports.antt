-- What reports, rows and commands leave as it was, and that no more is reported than was counted.
use Rattle.std.proofs.Common.{◌≡◌, ◌≤◌, ◌+◌, ◌∙◌, ℕ, List, [], ◌∷◌, refl, ap, subst, arith, inl, inr}
use Rattle.std.proofs.lemmas.Bool.{cases_Bool}
use Rattle.pcef_model.specs.declared.command.Command.{Command}
use Rattle.pcef_model.specs.declared.entry.Entry.TheVariants as entry
use Rattle.pcef_model.specs.declared.row.Row.{Row}
use Rattle.pcef_model.specs.declared.pending_report.PendingReport.{PendingReport}
use Rattle.pcef_model.specs.declared.pending_report.PendingReport.TheVariants.{Inactive, Usage, Access}
use Rattle.pcef_model.specs.Setting.{Setting, same_name}
use Rattle.pcef_model.specs.Generations.{made_by, oldest, slots_of}
use Rattle.pcef_model.specs.Entries.{Journal, rows}
use Rattle.pcef_model.specs.Journals.{counted, counts, counts_in, grant, now, octets_of, octets_of_report, report_count, reported, slots, subscribed, tables}
use Rattle.pcef_model.specs.Reports.{body_of, with_reports}
use Rattle.pcef_model.proofs.Sameness.{same_name_is}

-- ---- reports change neither generations nor rows nor what is subscribed
pub tell_tables : (p : Setting) (ts : List PendingReport) (j : Journal) → tables (with_reports p ts j) ≡ tables j
unfolding with_reports
tell_tables p [] j = refl
tell_tables p (t ∷ ts) j = tell_tables p ts (entry.Report (record { number = report_count j; body = body_of p j t }) ∷ j)

pub tell_rows : (p : Setting) (ts : List PendingReport) (j : Journal) → rows (with_reports p ts j) ≡ rows j
unfolding with_reports
tell_rows p [] j = refl
tell_rows p (t ∷ ts) j = tell_rows p ts (entry.Report (record { number = report_count j; body = body_of p j t }) ∷ j)

pub tell_subscribed : (p : Setting) (ts : List PendingReport) (j : Journal) → subscribed (with_reports p ts j) ≡ subscribed j
unfolding with_reports subscribed
tell_subscribed p [] j = refl
tell_subscribed p (t ∷ ts) j = tell_subscribed p ts (entry.Report (record { number = report_count j; body = body_of p j t }) ∷ j)

pub tell_now : (p : Setting) (ts : List PendingReport) (j : Journal) → now p (with_reports p ts j) ≡ now p j
tell_now p ts j = ap (made_by p) (tell_tables p ts j)

pub tell_slots : (p : Setting) (ts : List PendingReport) (j : Journal) → slots p (with_reports p ts j) ≡ slots p j
tell_slots p ts j = ap (slots_of p) (tell_tables p ts j)

pub tell_counted : (p : Setting) (ts : List PendingReport) (j : Journal) (key : List ℕ) → counted p (with_reports p ts j) key ≡ counted p j key
tell_counted p ts j key =
    ap (λ (cs : List Command). octets_of (λ r. counts_in p (made_by p (oldest r.generation cs)) key r.header) (rows (with_reports p ts j))) (tell_tables p ts j) ∙
    ap (octets_of (counts p j key)) (tell_rows p ts j)

-- ---- neither a row nor a command is a report
pub reported_after_row : (j : Journal) (key : List ℕ) (r : Row) → reported (entry.Row r ∷ j) key ≡ reported j key
unfolding reported
reported_after_row j key r = refl

pub reported_after_command : (j : Journal) (key : List ℕ) (c : Command) → reported (entry.Command c ∷ j) key ≡ reported j key
unfolding reported
reported_after_command j key c = refl

pub grant_after_row : (j : Journal) (key : List ℕ) (r : Row) → grant (entry.Row r ∷ j) key ≡ grant j key
unfolding grant
grant_after_row j key r = refl

pub subscribed_after_row : (j : Journal) (r : Row) → subscribed (entry.Row r ∷ j) ≡ subscribed j
unfolding subscribed
subscribed_after_row j r = refl

-- ---- no more is reported than was counted
one_exact : (p : Setting) (t : PendingReport) (j : Journal) (key : List ℕ) → reported j key ≤ counted p j key →
    octets_of_report key (body_of p j t) + reported j key ≤ counted p j key
one_exact p (Inactive rule) j key exact = omega arith
one_exact p (Access kind value) j key exact = omega arith
one_exact p (Usage other cause) j key exact =
    elim (cases_Bool (same_name key other)) [
      | inl same ↦
          let is : key ≡ other = same_name_is key other same in
          let other_exact : reported j other ≤ counted p j other = subst (λ k. reported j k ≤ counted p j k) is exact in
          let reported_is : reported j key ≡ reported j other = ap (reported j) is in
          let counted_is : counted p j key ≡ counted p j other = ap (counted p j) is in
          rw same (omega arith)
      | inr differs ↦ rw differs (omega arith)
    ]

pub tell_exact : (p : Setting) (ts : List PendingReport) (j : Journal) (key : List ℕ) → reported j key ≤ counted p j key →
    reported (with_reports p ts j) key ≤ counted p (with_reports p ts j) key
unfolding with_reports reported
tell_exact p [] j key exact = exact
tell_exact p (t ∷ ts) j key exact =
    tell_exact p ts (entry.Report (record { number = report_count j; body = body_of p j t }) ∷ j) key (one_exact p t j key exact)
