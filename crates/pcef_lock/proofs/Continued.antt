-- Rows that continue their lane.
use Rattle.std.proofs.Common.{◌≡◌, ◌∙◌, ◌≤◌, ◌+◌, ◌==◌, ℕ, true, List, [], ◌∷◌, All, length, map, refl, sym, ap, subst, arith, nat_le}
use Rattle.std.proofs.lemmas.Bool.{and_parts, eq-eqb, eqb-true, leb-true}
use Rattle.std.proofs.lemmas.List.Elements.{All-cons, All-head, All-nil, All-tail}
use Rattle.pcef_model.specs.declared.entry.Entry.TheVariants as entry
use Rattle.pcef_model.specs.declared.row.Row.{Row}
use Rattle.pcef_model.specs.Setting.{Setting}
use Rattle.pcef_model.specs.Generations.{made_by, oldest}
use Rattle.pcef_model.specs.Entries.{Journal, lane}
use Rattle.pcef_model.specs.Journals.{verdict_at, lane_len, tables}
use Rattle.pcef_session.specs.declared.batch.Item.{Item}
use Rattle.pcef_model.specs.Lawful.{BatchFollows, RowsFollow, newest_generation}
use Rattle.pcef_session.specs.Following.{row_of}
use Rattle.pcef_handover.specs.Lanes.{continues, is_next}
use Rattle.pcef_lock.proofs.Judged.{IsRight}

pub record IsNext (worker seq generation : ℕ) (r : Row) : Type 0 where
  pub own : r.worker ≡ worker
  pub in_lane : r.seq ≡ seq
  pub not_older : generation ≤ r.generation

pub next_is : (worker seq generation : ℕ) (r : Row) → is_next worker seq generation r ≡ true → IsNext worker seq generation r
next_is worker seq generation r is =
    let a = and_parts (r.worker == worker) _ is in
    let b = and_parts (r.seq == seq) (nat_le generation r.generation) a.1 in
    record {
      own = eqb-true r.worker worker a.0;
      in_lane = eqb-true r.seq seq b.0;
      not_older = leb-true generation r.generation b.1;
    }

-- ---- they may come next
pub follow_all : (p : Setting) (j k : Journal) (worker : ℕ) (items : List Item) → tables k ≡ tables j → All (IsRight p j) items →
    continues worker (lane_len k worker) (newest_generation (lane k worker)) items ≡ true → RowsFollow p k (map row_of items)
unfolding continues RowsFollow
follow_all p j k worker [] same all is = tt
follow_all p j k worker (i ∷ items) same all is =
    let parts = and_parts (is_next worker (lane_len k worker) (newest_generation (lane k worker)) i.row) _ is in
    let here : IsNext worker (lane_len k worker) (newest_generation (lane k worker)) i.row = next_is worker (lane_len k worker) (newest_generation (lane k worker)) i.row parts.0 in
    let right : IsRight p j i = All-head (IsRight p j) i items all in
    let r : Row = i.row in
    let mine : (r.worker == worker) ≡ true = eq-eqb r.worker worker here.own in
    let longer : lane (entry.Row r ∷ k) worker ≡ r ∷ lane k worker = rw mine refl in
    let count : lane_len k worker + 1 ≡ lane_len (entry.Row r ∷ k) worker = omega (arith, ap length longer) in
    let generation : r.generation ≡ newest_generation (lane (entry.Row r ∷ k) worker) = sym (ap newest_generation longer) in
    let rest : continues worker (lane_len (entry.Row r ∷ k) worker) (newest_generation (lane (entry.Row r ∷ k) worker)) items ≡ true =
    subst (λ g. continues worker (lane_len (entry.Row r ∷ k) worker) g items ≡ true) generation
    (subst (λ n. continues worker n i.row.generation items ≡ true) count parts.1) in (
      record {
        in_lane = here.in_lane ∙ ap (λ w. length (lane k w)) (sym here.own);
        not_older = rw here.own here.not_older;
        known = omega (arith, right.known, ap length same);
        verdict = right.verdict ∙ ap (λ cs. verdict_at p (made_by p (oldest i.row.generation cs)) i.row.header) (sym same);
      },
      follow_all p j (entry.Row r ∷ k) worker items same (All-tail (IsRight p j) i items all) rest,
    )

own_all : (worker seq generation : ℕ) (items : List Item) → continues worker seq generation items ≡ true → All (λ r. r.worker ≡ worker) (map row_of items)
unfolding continues
own_all worker seq generation [] is = All-nil (λ (r : Row). r.worker ≡ worker)
own_all worker seq generation (i ∷ items) is =
    let parts = and_parts (is_next worker seq generation i.row) _ is in
    All-cons (λ (r : Row). r.worker ≡ worker) i.row (map row_of items) (next_is worker seq generation i.row parts.0).own
    (own_all worker (seq + 1) i.row.generation items parts.1)

pub batch_follows : (p : Setting) (j : Journal) (worker : ℕ) (items : List Item) → All (IsRight p j) items →
    continues worker (lane_len j worker) (newest_generation (lane j worker)) items ≡ true → BatchFollows p j worker (map row_of items)
batch_follows p j worker items all is = record {
  own = own_all worker (lane_len j worker) (newest_generation (lane j worker)) items is;
  follow = follow_all p j j worker items refl all is;
}
