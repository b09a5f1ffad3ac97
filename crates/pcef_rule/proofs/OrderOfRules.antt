-- Ranks are in a total order.
use Rattle.std.proofs.Common.{◌≡◌, ◌∙◌, sym, ap, refl, ℕ, List, inl, inr}
use Rattle.std.specs.Prelude.{◌≢◌}
use Rattle.std.specs.Cmp.{IsTotalOrder}
use Rattle.std.specs.Cmp.Lexicographic.{slice_cmp}
use Rattle.std.specs.Ordering.{is_eq, is_lt, nat_cmp, ordering_reverse, ordering_then}
use Rattle.std.specs.declared.cmp.Ordering.{Ordering}
use Rattle.std.specs.declared.cmp.Ordering.TheVariants.{Less, Equal, Greater}
use Rattle.std.proofs.lemmas.Map.Text.{is_eq-slice_cmp}
use Rattle.std.proofs.lemmas.Slice.Eq.{bytes_eq-Decides}
use Rattle.std.proofs.lemmas.Cmp.{on_total, then_total, nat_cmp_total, nat_list_cmp_total}
use Rattle.pcef_rule.specs.Precedence.{OneGoesFirst, Rank, origin_place, rank_cmp}

pub rank_total : IsTotalOrder rank_cmp
rank_total =
    then_total (on_total (λ (r : Rank). r.precedence) nat_cmp_total)
    (then_total (on_total (λ (r : Rank). origin_place r.origin) nat_cmp_total) (on_total (λ (r : Rank). r.name) nat_list_cmp_total))

-- what is equal in a first order and then in a second is equal in the second
then_equal : (a b : Ordering) → ordering_then a b ≡ Equal → b ≡ Equal
then_equal Less b e = absurd cc
then_equal Greater b e = absurd cc
then_equal Equal b e = e

names_equal : (a b : Rank) → rank_cmp a b ≡ Equal → slice_cmp nat_cmp a.name b.name ≡ Equal
names_equal a b e =
    then_equal (nat_cmp (origin_place a.origin) (origin_place b.origin)) (slice_cmp nat_cmp a.name b.name)
    (then_equal (nat_cmp a.precedence b.precedence) _ e)

by_ordering : (a b : Rank) (o : Ordering) → rank_cmp a b ≡ o → (o ≢ Equal) → OneGoesFirst a b
by_ordering a b Less e differs = inl (ap is_lt e, ap is_lt (rank_total.antisymm b a ∙ ap ordering_reverse e))
by_ordering a b Greater e differs = inr (ap is_lt e, ap is_lt (rank_total.antisymm b a ∙ ap ordering_reverse e))
by_ordering a b Equal e differs = absurd (differs refl)

pub one_goes_first : (a b : Rank) → a.name ≢ b.name → OneGoesFirst a b
one_goes_first a b differ = by_ordering a b (rank_cmp a b) refl (λ e. differ (same_texts a.name b.name (names_equal a b e)))
  where
    same_texts : (x y : List ℕ) → slice_cmp nat_cmp x y ≡ Equal → x ≡ y
    same_texts x y e = (bytes_eq-Decides x y).0 (sym (is_eq-slice_cmp x y) ∙ ap is_eq e)
