-- Writing the kind of one more number.
use Rattle.std.proofs.Common.{◌≡◌, ◌<◌, ◌+◌, ℕ, ◌∙◌, List, length, Option, None, slice_set, arith}
use Rattle.std.proofs.lemmas.List.{get_or-set_same, get_or-set_other}
use Rattle.std.proofs.Math.ListN.{length-set}
use borrow.Author.Count.{below_more}
use Rattle.pcef_rule.specs.declared.qci.Kind.{Kind}
use Rattle.pcef_rule.specs.QciKinds.{declared_at}
use Rattle.pcef_rule.proofs.qci.QciTable.new.Goals as goal

one_more : (kinds : List (Option Kind)) (kind : ℕ → Option Kind) (i : ℕ) (new : Option Kind) → i < length kinds → new ≡ kind i →
    ((n : ℕ) → n < i → declared_at kinds n ≡ kind n) → (n : ℕ) → n < i + 1 → declared_at (slice_set kinds i new) n ≡ kind n
one_more kinds kind i new within is so_far =
    below_more (λ n. declared_at (slice_set kinds i new) n ≡ kind n) i
    (λ n below. get_or-set_other kinds i n new None (λ same. omega (arith, same)) ∙ so_far n below)
    (get_or-set_same kinds i new None within ∙ is)

pub loop-qci-preserved : goal.loop-qci-preserved
loop-qci-preserved c = record {
  full = simp length-set c.loop-qci.invariant.full;
  written = one_more _ _ _ _ (omega arith) c.kind_among.ensures c.loop-qci.invariant.written;
}
