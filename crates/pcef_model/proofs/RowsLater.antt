-- Rows that wait go on following their lane as the journal grows.
use Rattle.std.proofs.Common.{◌≡◌, ◌∙◌, ◌≤◌, ℕ, false, List, [], ◌∷◌, ◌++◌, length, refl, sym, ap, subst, arith, inl, inr, All, if◌then◌else◌, ◌==◌}
use Rattle.std.proofs.lemmas.Bool.{cases_Bool}
use Rattle.std.proofs.lemmas.List.Elements.{All-head, All-nil, All-push, All-tail}
use Rattle.pcef_model.specs.declared.command.Command.{Command}
use Rattle.pcef_model.specs.declared.entry.Entry.TheVariants as entry
use Rattle.pcef_model.specs.declared.row.Row.{Row}
use Rattle.pcef_model.specs.Setting.{Setting}
use Rattle.pcef_model.specs.Entries.{Journal, lane}
use Rattle.pcef_model.specs.Generations.{made_by, oldest}
use Rattle.pcef_model.specs.Journals.{at, gen, verdict_at, tables}
use Rattle.pcef_model.specs.Commands.{is_table}
use Rattle.pcef_model.specs.Reports.{with_rows}
use Rattle.pcef_model.proofs.Growth.{at_after_command, gen_after_table, tables_of_other}
use Rattle.pcef_model.specs.Lawful.{BatchFollows, RowFollows, RowsFollow}

-- a later journal, in which a worker's lane and the generations of before are as they were
pub record Later (p : Setting) (worker : ℕ) (j k : Journal) : Type 0 where
  pub lane_is : lane k worker ≡ lane j worker
  pub gen_more : gen j ≤ gen k
  pub at_is : (g : ℕ) → g ≤ gen j → at p k g ≡ at p j g

pub later_same : (p : Setting) (worker : ℕ) (j k : Journal) → lane k worker ≡ lane j worker → tables k ≡ tables j → Later p worker j k
later_same p worker j k lane_is same = record {
  lane_is = lane_is;
  gen_more = omega (arith, ap length same);
  at_is = λ g within. ap (λ cs. made_by p (oldest g cs)) same;
}

pub later_command : (p : Setting) (worker : ℕ) (j : Journal) (c : Command) → Later p worker j (entry.Command c ∷ j)
later_command p worker j c = record {
  lane_is = refl;
  gen_more = elim (cases_Bool (is_table c)) [
    | inl is ↦ omega (arith, gen_after_table j c is)
    | inr isnt ↦ omega (arith, ap length (tables_of_other j c isnt))
  ];
  at_is = λ g within. at_after_command p j c g within;
}

-- a row of another worker
pub later_row : (p : Setting) (worker : ℕ) (j : Journal) (r : Row) → (r.worker == worker) ≡ false → Later p worker j (entry.Row r ∷ j)
later_row p worker j r other = later_same p worker j (entry.Row r ∷ j) (rw other refl) refl

-- the same row on both
later_both : (p : Setting) (worker : ℕ) (j k : Journal) (r : Row) → Later p worker j k → Later p worker (entry.Row r ∷ j) (entry.Row r ∷ k)
later_both p worker j k r later = record {
  lane_is = ap (λ rs. if r.worker == worker then r ∷ rs else rs) later.lane_is;
  gen_more = later.gen_more;
  at_is = later.at_is;
}

-- ---- rows
row_later : (p : Setting) (j k : Journal) (r : Row) → Later p r.worker j k → RowFollows p j r → RowFollows p k r
row_later p j k r later follows = record {
  in_lane = follows.in_lane ∙ sym (ap length later.lane_is);
  not_older = rw later.lane_is follows.not_older;
  known = omega (arith, follows.known, later.gen_more);
  verdict = follows.verdict ∙ sym (ap (λ g. verdict_at p g r.header) (later.at_is r.generation follows.known));
}

rows_later : (p : Setting) (worker : ℕ) (j k : Journal) (rs : List Row) → Later p worker j k → All (λ r. r.worker ≡ worker) rs → RowsFollow p j rs → RowsFollow p k rs
unfolding RowsFollow
rows_later p worker j k [] later own follow = tt
rows_later p worker j k (r ∷ rs) later own follow = (
  row_later p j k r (subst (λ w. Later p w j k) (sym (All-head (λ (x : Row). x.worker ≡ worker) r rs own)) later) follow.0,
  rows_later p worker (entry.Row r ∷ j) (entry.Row r ∷ k) rs (later_both p worker j k r later) (All-tail (λ (x : Row). x.worker ≡ worker) r rs own) follow.1,
)

-- a batch that may come next may come later too
pub batch_later : (p : Setting) (worker : ℕ) (j k : Journal) (rs : List Row) → Later p worker j k → BatchFollows p j worker rs → BatchFollows p k worker rs
batch_later p worker j k rs later batch = record {
  own = batch.own;
  follow = rows_later p worker j k rs later batch.own batch.follow;
}

-- ---- one row more
rows_push : (p : Setting) (j : Journal) (rs : List Row) (r : Row) → RowsFollow p j rs → RowFollows p (with_rows rs j) r → RowsFollow p j (rs ++ r ∷ [])
unfolding RowsFollow with_rows
rows_push p j [] r follow next = (next, tt)
rows_push p j (x ∷ rs) r follow next = (follow.0, rows_push p (entry.Row x ∷ j) rs r follow.1 next)

pub batch_push : (p : Setting) (worker : ℕ) (j : Journal) (rs : List Row) (r : Row) → BatchFollows p j worker rs → r.worker ≡ worker → RowFollows p (with_rows rs j) r →
    BatchFollows p j worker (rs ++ r ∷ [])
batch_push p worker j rs r batch own next = record {
  own = All-push (λ (x : Row). x.worker ≡ worker) rs r batch.own own;
  follow = rows_push p j rs r batch.follow next;
}

-- no rows may always come
pub batch_empty : (p : Setting) (worker : ℕ) (j : Journal) → BatchFollows p j worker []
unfolding RowsFollow
batch_empty p worker j = record { own = All-nil (λ (r : Row). r.worker ≡ worker); follow = tt }
