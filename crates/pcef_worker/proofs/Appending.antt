-- What rows count, where one list was handed over after the other.
use Rattle.std.proofs.Common.{◌≡◌, ℕ, List, [], ◌∷◌, ◌++◌, refl}
use Rattle.pcef_session.specs.declared.batch.Item.{Item}
use Rattle.pcef_handover.specs.Counting.{with_item, with_items}

pub with_items_append : (t : List ℕ) (xs ys : List Item) → with_items t (xs ++ ys) ≡ with_items (with_items t xs) ys
unfolding with_items
with_items_append t [] ys = refl
with_items_append t (x ∷ xs) ys = with_items_append (with_item t x) xs ys

pub with_items_none : (t : List ℕ) (xs : List Item) → xs ≡ [] → t ≡ with_items t xs
unfolding with_items
with_items_none t xs none = rw none refl
