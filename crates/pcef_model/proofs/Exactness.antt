-- In every lawful journal no more is reported than was counted.
use Rattle.std.proofs.Common.{◌≡◌, ◌≤◌, ℕ, List, [], ◌∷◌, arith}
use Rattle.pcef_model.specs.declared.command.Command.{Command}
use Rattle.pcef_model.specs.declared.entry.Entry.TheVariants as entry
use Rattle.pcef_model.specs.declared.row.Row.{Row}
use Rattle.pcef_model.specs.declared.pending_report.PendingReport.{PendingReport}
use Rattle.pcef_model.specs.Setting.{Setting}
use Rattle.pcef_model.specs.Entries.{Journal, rows}
use Rattle.pcef_model.specs.Journals.{counted, gen, reported}
use Rattle.pcef_model.specs.Reports.{after_command, after_flush, with_reports, thresholds, with_rows}
use Rattle.pcef_model.proofs.Growth.{Known, counted_after_command, counted_after_row, gen_grows, known-more}
use Rattle.pcef_model.proofs.Reports.{reported_after_command, reported_after_row, tell_exact, tell_rows, tell_tables}
use Rattle.pcef_model.specs.Lawful.{Lawful, RowsFollow, at_first, by_attach, by_command, by_flush, by_leave}

-- ---- what holds of every lawful journal
pub record IsExact (p : Setting) (j : Journal) : Type 0 where
  pub known : Known (gen j) (rows j)
  pub exact : (key : List ℕ) → reported j key ≤ counted p j key

exact_after_command : (p : Setting) (j : Journal) (c : Command) → IsExact p j → IsExact p (entry.Command c ∷ j)
unfolding reported
exact_after_command p j c is = record {
  known = known-more (gen j) (gen (entry.Command c ∷ j)) (rows j) (gen_grows j c) is.known;
  exact = λ key.
      let same : counted p (entry.Command c ∷ j) key ≡ counted p j key = counted_after_command p j key c is.known in
      let told : reported (entry.Command c ∷ j) key ≡ reported j key = reported_after_command j key c in
      omega (arith, is.exact key);
}

exact_after_tell : (p : Setting) (ts : List PendingReport) (j : Journal) → IsExact p j → IsExact p (with_reports p ts j)
exact_after_tell p ts j is = record {
  known = rw (tell_tables p ts j, tell_rows p ts j) is.known;
  exact = λ key. tell_exact p ts j key (is.exact key);
}

exact_after_row : (p : Setting) (j : Journal) (r : Row) → r.generation ≤ gen j → IsExact p j → IsExact p (entry.Row r ∷ j)
unfolding Known
exact_after_row p j r within is = record {
  known = (within, is.known);
  exact = λ key.
      let told : reported (entry.Row r ∷ j) key ≡ reported j key = reported_after_row j key r in
      omega (arith, is.exact key, counted_after_row p j key r);
}

exact_after_rows : (p : Setting) (rs : List Row) (j : Journal) → RowsFollow p j rs → IsExact p j → IsExact p (with_rows rs j)
unfolding with_rows RowsFollow
exact_after_rows p [] j follow is = is
exact_after_rows p (r ∷ rs) j follow is =
    exact_after_rows p rs (entry.Row r ∷ j) follow.1 (exact_after_row p j r follow.0.known is)

exact_after_flush : (p : Setting) (rs : List Row) (j : Journal) → RowsFollow p j rs → IsExact p j → IsExact p (after_flush p j rs)
exact_after_flush p [] j follow is = is
exact_after_flush p (r ∷ rs) j follow is =
    exact_after_tell p (thresholds p (with_rows (r ∷ rs) j)) (with_rows (r ∷ rs) j) (exact_after_rows p (r ∷ rs) j follow is)

pub lawful_exact : (p : Setting) (j : Journal) → Lawful p j → IsExact p j
unfolding after_command reported Known
lawful_exact p _ at_first = record { known = tt; exact = λ key. omega arith }
lawful_exact p _ (by_command j c l accepted changes) =
    exact_after_tell p _ _ (exact_after_tell p _ _ (exact_after_command p j c (lawful_exact p j l)))
lawful_exact p _ (by_attach j l accepted) = let is = lawful_exact p j l in record { known = is.known; exact = is.exact }
lawful_exact p _ (by_leave j worker l there) = let is = lawful_exact p j l in record { known = is.known; exact = is.exact }
lawful_exact p _ (by_flush j worker rs l accepted follows) = exact_after_flush p rs j follows.follow (lawful_exact p j l)
