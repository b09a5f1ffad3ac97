-- In every lawful journal each row is of a worker that was attached before it.
use Rattle.std.proofs.Common.{◌≡◌, ◌≤◌, ◌<◌, ◌+◌, ℕ, true, false, not, ◌==◌, List, [], ◌∷◌, All, length, filter, refl, arith, inl, inr}
use Rattle.std.specs.List.{list_any}
use Rattle.std.proofs.lemmas.Bool.{cases_Bool, eqb-true, ne_eqb}
use Rattle.std.proofs.lemmas.List.Elements.{All-cons, All-filter, All-head, All-nil, All-tail, All-weaker}
use Rattle.pcef_model.specs.declared.entry.Entry.TheVariants as entry
use Rattle.pcef_model.specs.declared.row.Row.{Row}
use Rattle.pcef_model.specs.Setting.{Setting}
use Rattle.pcef_model.specs.Entries.{Journal, lane, rows}
use Rattle.pcef_model.specs.Journals.{attach_count, attached}
use Rattle.pcef_model.specs.Reports.{with_rows}
use Rattle.pcef_model.specs.Lawful.{Lawful, at_first, by_attach, by_command, by_flush, by_leave}
use Rattle.pcef_model.proofs.JournalExtends.{attach_count_after_command, attach_count_after_flush, attached_after_command, attached_after_flush, flushed_fits, rows_after_command, rows_after_flush}

-- those who are attached, and those whose rows came, have numbers that were given
pub record IsNumbered (j : Journal) : Type 0 where
  pub attached_below : All (λ w. w < attach_count j) (attached j)
  pub rows_below : All (λ r. r.worker < attach_count j) (rows j)

-- where neither workers nor rows came
numbered_same : (j k : Journal) → attach_count k ≡ attach_count j → attached k ≡ attached j → rows k ≡ rows j → IsNumbered j → IsNumbered k
numbered_same j k count attached_are rows_are is = record {
  attached_below = rw (count, attached_are) is.attached_below;
  rows_below = rw (count, rows_are) is.rows_below;
}

-- a number below which all are, where one of them is meant
below_any : (n worker : ℕ) (ws : List ℕ) → All (λ w. w < n) ws → list_any (λ w. w == worker) ws ≡ true → worker < n
below_any n worker [] all any = absurd cc
below_any n worker (w ∷ ws) all any =
    elim (cases_Bool (w == worker)) [
      | inl same ↦ omega (arith, eqb-true w worker same, All-head (λ x. x < n) w ws all)
      | inr differs ↦ below_any n worker ws (All-tail (λ x. x < n) w ws all) (rw differs at any)
    ]

-- rows of a worker with such a number come
rows_with_below : (n worker : ℕ) (rs : List Row) (j : Journal) → worker < n → All (λ r. r.worker ≡ worker) rs → All (λ r. r.worker < n) (rows j) →
    All (λ r. r.worker < n) (rows (with_rows rs j))
unfolding with_rows
rows_with_below n worker [] j within own all = all
rows_with_below n worker (r ∷ rs) j within own all =
    let P : Row → Type 0 = λ x. x.worker ≡ worker in
    let here : r.worker < n = omega (arith, within, All-head P r rs own) in
    rows_with_below n worker rs (entry.Row r ∷ j) within (All-tail P r rs own) (All-cons (λ (x : Row). x.worker < n) r (rows j) here all)

-- in every lawful journal all numbers were given
pub lawful_numbered : (p : Setting) (j : Journal) → Lawful p j → IsNumbered j
unfolding attached attach_count
lawful_numbered p _ at_first = record { attached_below = All-nil (λ w. w < 0); rows_below = All-nil (λ (r : Row). r.worker < 0) }
lawful_numbered p _ (by_command j c l accepted changed) =
    numbered_same j _ (attach_count_after_command p j c) (attached_after_command p j c) (rows_after_command p j c) (lawful_numbered p j l)
lawful_numbered p _ (by_attach j l accepted) =
    let is = lawful_numbered p j l in
    record {
      attached_below = All-cons (λ w. w < attach_count j + 1) (attach_count j) (attached j) (omega arith)
          (All-weaker (λ w. w < attach_count j) (λ w. w < attach_count j + 1) (λ w less. omega arith) (attached j) is.attached_below);
      rows_below = All-weaker (λ (r : Row). r.worker < attach_count j) (λ (r : Row). r.worker < attach_count j + 1) (λ r less. omega arith) (rows j) is.rows_below;
    }
lawful_numbered p _ (by_leave j worker l there) =
    let is = lawful_numbered p j l in
    record {
      attached_below = All-filter (λ v. not (v == worker)) (λ w. w < attach_count j) (attached j) is.attached_below;
      rows_below = is.rows_below;
    }
lawful_numbered p _ (by_flush j worker rs l accepted follows) =
    let is = lawful_numbered p j l in
    let there = (flushed_fits p worker (length rs) j accepted).0 in
    let within : worker < attach_count j = below_any (attach_count j) worker (attached j) is.attached_below there in
    record {
      attached_below = rw (attach_count_after_flush p j rs, attached_after_flush p j rs) is.attached_below;
      rows_below = rw (attach_count_after_flush p j rs, rows_after_flush p j rs) (rows_with_below (attach_count j) worker rs j within follows.own is.rows_below);
    }

-- rows of lower numbers are no rows of this one
none_of : (n : ℕ) (rs : List Row) → All (λ r. r.worker < n) rs → filter (λ (r : Row). r.worker == n) rs ≡ []
none_of n [] below = refl
none_of n (r ∷ rs) below =
    let P : Row → Type 0 = λ x. x.worker < n in
    let less = All-head P r rs below in
    let other : (r.worker == n) ≡ false = ne_eqb r.worker n (λ (e : r.worker ≡ n). omega (arith, less, e)) in
    rw other (none_of n rs (All-tail P r rs below))

-- the next worker has no rows yet
pub new_lane : (p : Setting) (j : Journal) → Lawful p j → lane j (attach_count j) ≡ []
new_lane p j l = none_of (attach_count j) (rows j) (lawful_numbered p j l).rows_below

-- nor has any worker that isn't attached yet
pub past_lane : (p : Setting) (j : Journal) (n : ℕ) → Lawful p j → attach_count j ≤ n → lane j n ≡ []
past_lane p j n l past =
    none_of n (rows j)
    (All-weaker (λ (r : Row). r.worker < attach_count j) (λ (r : Row). r.worker < n) (λ r below. omega (arith, below, past)) (rows j) (lawful_numbered p j l).rows_below)
