-- The reports of lawful journals are numbered from 0 on.
use Rattle.std.proofs.Common.{◌≡◌, ◌+◌, ℕ, zero, suc, List, [], ◌∷◌, ◌++◌, length, drop, reverse, refl, sym, subst, arith}
use Rattle.std.proofs.lemmas.List.{length-reverse, reverse-append}
use Rattle.pcef_model.specs.declared.entry.Entry.TheVariants as entry
use Rattle.pcef_model.specs.declared.report.Report.{Report}
use Rattle.pcef_model.specs.declared.row.Row.{Row}
use Rattle.pcef_model.specs.Entries.{Journal, reports}
use Rattle.pcef_model.specs.Lawful.{Lawful, at_first, by_attach, by_command, by_flush, by_leave}
use Rattle.pcef_model.specs.declared.pending_report.PendingReport.{PendingReport}
use Rattle.pcef_model.specs.Reports.{after_command, plan, with_reports, thresholds, with_rows}
use Rattle.pcef_model.specs.Setting.{Setting}
use Rattle.pcef_lock.specs.Reports.{AreNumbered}

-- the newest first, the number of each is how many stand before it
unfoldable Counted : List Report → Type 0
Counted [] = Unit {0}
Counted (r ∷ rs) = (r.number ≡ length rs) × Counted rs

counted_told : (p : Setting) (ts : List PendingReport) (j : Journal) → Counted (reports j) → Counted (reports (with_reports p ts j))
unfolding with_reports Counted
counted_told p [] j is = is
counted_told p (t ∷ ts) j is = counted_told p ts _ (refl, is)

rows_tell_none : (rs : List Row) (j : Journal) → reports (with_rows rs j) ≡ reports j
unfolding with_rows
rows_tell_none [] j = refl
rows_tell_none (r ∷ rs) j = rows_tell_none rs (entry.Row r ∷ j)

lawful_counted : (p : Setting) (j : Journal) → Lawful p j → Counted (reports j)
unfolding after_command Counted
lawful_counted p _ at_first = tt
lawful_counted p _ (by_command j c l accepted changed) =
    counted_told p (thresholds p (with_reports p (plan p j c) (entry.Command c ∷ j))) (with_reports p (plan p j c) (entry.Command c ∷ j)) (counted_told p (plan p j c) (entry.Command c ∷ j) (lawful_counted p j l))
lawful_counted p _ (by_attach j l accepted) = lawful_counted p j l
lawful_counted p _ (by_leave j worker l there) = lawful_counted p j l
lawful_counted p _ (by_flush j worker [] l accepted follows) = lawful_counted p j l
lawful_counted p _ (by_flush j worker (r ∷ rs) l accepted follows) =
    counted_told p (thresholds p (with_rows (r ∷ rs) j)) (with_rows (r ∷ rs) j) (subst Counted (sym (rows_tell_none (r ∷ rs) j)) (lawful_counted p j l))

-- ---- the oldest first
numbered_push : (n : ℕ) (xs : List Report) (r : Report) → AreNumbered n xs → r.number ≡ n + length xs → AreNumbered n (xs ++ r ∷ [])
unfolding AreNumbered
numbered_push n [] r is number = (omega (arith, number), tt)
numbered_push n (x ∷ xs) r is number = (is.0, numbered_push (n + 1) xs r is.1 (omega (arith, number)))

numbered_all : (xs : List Report) → Counted xs → AreNumbered 0 (reverse xs)
unfolding Counted AreNumbered
numbered_all [] is = tt
numbered_all (x ∷ xs) is = subst (AreNumbered 0) (sym (reverse-append (x ∷ []) xs)) (numbered_push 0 (reverse xs) x (numbered_all xs is.1) (omega (arith, is.0, length-reverse xs)))

numbered_past : (k n : ℕ) (xs : List Report) → AreNumbered n xs → AreNumbered (n + k) (drop k xs)
unfolding AreNumbered
numbered_past zero n xs is = subst (λ m. AreNumbered m xs) (omega arith) is
numbered_past (suc k) n [] is = tt
numbered_past (suc k) n (x ∷ xs) is = subst (λ m. AreNumbered m (drop k xs)) (omega arith) (numbered_past k (n + 1) xs is.1)

pub reports_numbered : (p : Setting) (j : Journal) (from : ℕ) → Lawful p j → AreNumbered from (drop from (reverse (reports j)))
reports_numbered p j from lawful = subst (λ m. AreNumbered m (drop from (reverse (reports j)))) (omega arith) (numbered_past from 0 (reverse (reports j)) (numbered_all (reports j) (lawful_counted p j lawful)))
