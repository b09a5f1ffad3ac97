-- The slots of keys, key by key: words for proofs.
use Rattle.std.specs.Prelude.{ℕ, Bool, false, List, Option, Some, None, ◌==◌, length}
use Rattle.std.specs.List.{list_any}
use Rattle.pcef_rule.specs.declared.quantity.Slot.{Slot}
use Rattle.pcef_model.specs.Slots.{AreSlotsBelow, place_of}

-- the key has this slot
abbrev pub is_at : Option ℕ → ℕ → Bool
is_at None n = false
is_at (Some place) n = place == n

-- the key has one of these slots
abbrev pub has_one_of : List (List ℕ) → List Slot → List ℕ → Bool
has_one_of keys own key = list_any (λ slot. is_at (place_of key keys) slot.0) own

-- each of these slots is that of a key, and none stands twice
abbrev pub IsWithin : List (List ℕ) → List Slot → Type 0
IsWithin keys own = AreSlotsBelow (length keys) own
