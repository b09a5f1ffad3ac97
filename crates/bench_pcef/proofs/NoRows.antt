-- The counts of no rows.
use Rattle.std.proofs.Common.{◌≡◌, ℕ, List, [], refl}
use Rattle.pcef_session.specs.declared.batch.Item.{Item}
use Rattle.pcef_handover.specs.Counting.{with_items}

pub with_no_items : (t : List ℕ) (xs : List Item) → xs ≡ [] → t ≡ with_items t xs
unfolding with_items
with_no_items t xs none = rw none refl
