-- The rows of lawful journals: their verdicts, their numbers, and how many there are.
use Rattle.std.proofs.Common.{◌≡◌, ◌≤◌, ◌+◌, ◌∙◌, ◌==◌, ℕ, List, [], ◌∷◌, filter, length, refl, sym, ap, subst, arith, inl, inr}
use Rattle.std.specs.List.{AllByRecursion}
use Rattle.std.proofs.lemmas.Bool.{cases_Bool, eqb-true}
use Rattle.pcef_model.specs.declared.entry.Entry.TheVariants as entry
use Rattle.pcef_model.specs.declared.row.Row.{Row}
use Rattle.pcef_model.specs.Setting.{Setting}
use Rattle.pcef_model.specs.Entries.{Journal, lane, rows}
use Rattle.pcef_model.specs.Journals.{verdict_at}
use Rattle.pcef_model.specs.Laws.{HasItsVerdict, IsNumberedLane}
use Rattle.pcef_model.specs.Lawful.{Lawful, RowsFollow, at_first, by_attach, by_command, by_flush, by_leave, newest_generation}
use Rattle.pcef_model.specs.Reports.{after_command, after_flush, with_rows}
use Rattle.pcef_model.proofs.AfterEvents.{tables_after_rows}
use Rattle.pcef_model.proofs.JournalExtends.{JournalExtends, flushed_fits, extends_by_command, extends_same, rows_after_command, rows_after_flush, tables_after_flush}

-- ---- verdicts
-- a row keeps the verdict of its own generation as the journal grows
verdicts_later : (p : Setting) (j k : Journal) (rs : List Row) → JournalExtends p j k → AllByRecursion (HasItsVerdict p j) rs → AllByRecursion (HasItsVerdict p k) rs
verdicts_later p j k [] extends have = tt
verdicts_later p j k (r ∷ rs) extends have = (
  record {
    known = omega (arith, have.0.known, extends.gen_more);
    verdict_is = have.0.verdict_is ∙ ap (λ g. verdict_at p g r.header) (sym (extends.at_is r.generation have.0.known));
  },
  verdicts_later p j k rs extends have.1,
)

-- and rows that follow have theirs
verdicts_with : (p : Setting) (rs : List Row) (j : Journal) → RowsFollow p j rs → AllByRecursion (HasItsVerdict p j) (rows j) →
    AllByRecursion (HasItsVerdict p (with_rows rs j)) (rows (with_rows rs j))
unfolding with_rows RowsFollow
verdicts_with p [] j follow have = have
verdicts_with p (r ∷ rs) j follow have =
    let k : Journal = entry.Row r ∷ j in
    verdicts_with p rs k follow.1
    (record { known = follow.0.known; verdict_is = follow.0.verdict }, verdicts_later p j k (rows j) (extends_same p j k refl) have)

pub rows_have_verdicts : (p : Setting) (j : Journal) → Lawful p j → AllByRecursion (HasItsVerdict p j) (rows j)
rows_have_verdicts p _ at_first = tt
rows_have_verdicts p _ (by_command j c l accepted changes) =
    subst (AllByRecursion (HasItsVerdict p (after_command p j c))) (sym (rows_after_command p j c))
    (verdicts_later p j (after_command p j c) (rows j) (extends_by_command p j c) (rows_have_verdicts p j l))
rows_have_verdicts p _ (by_attach j l accepted) = verdicts_later p j _ (rows j) (extends_same p j _ refl) (rows_have_verdicts p j l)
rows_have_verdicts p _ (by_leave j worker l there) = verdicts_later p j _ (rows j) (extends_same p j _ refl) (rows_have_verdicts p j l)
rows_have_verdicts p _ (by_flush j worker rs l accepted follows) =
    let same = tables_after_flush p j rs ∙ sym (tables_after_rows rs j) in
    subst (AllByRecursion (HasItsVerdict p (after_flush p j rs))) (sym (rows_after_flush p j rs))
    (verdicts_later p (with_rows rs j) (after_flush p j rs) (rows (with_rows rs j)) (extends_same p (with_rows rs j) (after_flush p j rs) same)
    (verdicts_with p rs j follows.follow (rows_have_verdicts p j l)))

-- ---- lanes
lanes_with : (p : Setting) (rs : List Row) (j : Journal) (n : ℕ) → RowsFollow p j rs → IsNumberedLane (lane j n) → IsNumberedLane (lane (with_rows rs j) n)
unfolding with_rows RowsFollow
lanes_with p [] j n follow numbered = numbered
lanes_with p (r ∷ rs) j n follow numbered = lanes_with p rs (entry.Row r ∷ j) n follow.1 here
  where
    here : IsNumberedLane (lane (entry.Row r ∷ j) n)
    here =
        elim (cases_Bool (r.worker == n)) [
          | inl mine ↦
              let is : r.worker ≡ n = eqb-true r.worker n mine in
              rw mine (subst (λ m. r.seq ≡ length (lane j m)) is follow.0.in_lane, subst (λ m. newest_generation (lane j m) ≤ r.generation) is follow.0.not_older, numbered)
          | inr other ↦ rw other numbered
        ]

pub lanes_are_numbered : (p : Setting) (j : Journal) → Lawful p j → (n : ℕ) → IsNumberedLane (lane j n)
lanes_are_numbered p _ at_first n = tt
lanes_are_numbered p _ (by_command j c l accepted changes) n =
    subst (λ rs. IsNumberedLane (filter (λ (r : Row). r.worker == n) rs)) (sym (rows_after_command p j c)) (lanes_are_numbered p j l n)
lanes_are_numbered p _ (by_attach j l accepted) n = lanes_are_numbered p j l n
lanes_are_numbered p _ (by_leave j worker l there) n = lanes_are_numbered p j l n
lanes_are_numbered p _ (by_flush j worker rs l accepted follows) n =
    subst (λ xs. IsNumberedLane (filter (λ (r : Row). r.worker == n) xs)) (sym (rows_after_flush p j rs))
    (lanes_with p rs j n follows.follow (lanes_are_numbered p j l n))

-- ---- how many there are
pub rows_with : (j : Journal) (rs : List Row) → length (rows (with_rows rs j)) ≡ length rs + length (rows j)
unfolding with_rows
rows_with j [] = omega arith
rows_with j (r ∷ rs) = let more = rows_with (entry.Row r ∷ j) rs in omega (arith, more)

pub rows_are_within : (p : Setting) (j : Journal) → Lawful p j → length (rows j) ≤ p.rows
rows_are_within p _ at_first = omega arith
rows_are_within p _ (by_command j c l accepted changes) = let few = rows_are_within p j l in omega (arith, few, ap length (rows_after_command p j c))
rows_are_within p _ (by_attach j l accepted) = rows_are_within p j l
rows_are_within p _ (by_leave j worker l there) = rows_are_within p j l
rows_are_within p _ (by_flush j worker rs l accepted follows) =
    let fits = (flushed_fits p worker (length rs) j accepted).1 in
    omega (arith, fits, ap length (rows_after_flush p j rs), rows_with j rs)
