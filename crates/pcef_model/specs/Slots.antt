-- The slots of keys, and the slots that rows count for.
use Rattle.std.specs.Prelude.{ℕ, Bool, false, List, [], ◌∷◌, Option, Some, None, suc, if◌then◌else◌, ◌≡◌, ◌<◌, ◌==◌, slice_get}
use Rattle.std.specs.Option.{option_map, option_map_or}
use Rattle.std.specs.List.{count_by, list_any}
use Rattle.pcef_model.specs.Setting.{same_name, Setting}
use Rattle.pcef_model.specs.Commands.{is_among}
use Rattle.pcef_rule.specs.declared.quantity.Slot.{Slot}
use Rattle.pcef_model.specs.declared.row.Row.{Row}
use Rattle.pcef_model.specs.Entries.{Journal}
use Rattle.pcef_model.specs.Journals.{counts, slots}

-- the place of a key among those that have a slot
abbrev pub place_of : List ℕ → List (List ℕ) → Option ℕ
place_of key [] = None
place_of key (k ∷ ks) = if same_name key k then Some 0 else option_map (λ n. suc n) (place_of key ks)

abbrev pub slot_of : List (List ℕ) → Option (List ℕ) → Option ℕ
slot_of keys None = None
slot_of keys (Some key) = place_of key keys

abbrev pub counts_now : List (List ℕ) → Option (List ℕ) → Bool
counts_now on None = false
counts_now on (Some key) = is_among key on

-- these are the slots of the keys that pass a test: slot n is once among them if its key passes, and else not at all
abbrev pub AreSlotsOf : List (List ℕ) → (List ℕ → Bool) → List Slot → Type 0
AreSlotsOf keys test own =
    (n : ℕ) → count_by (λ slot. n == slot.0) own ≡ (if option_map_or test (slice_get keys n) false then 1 else 0)

-- a row's slots are those of the keys that it counts for
abbrev pub CountsFor : Setting → Journal → Row → List Slot → Type 0
CountsFor p j row own = AreSlotsOf (slots p j) (λ key. counts p j key row) own

-- ---- for clauses between crates
-- one of these slots has this number
abbrev pub is_one_of : ℕ → List Slot → Bool
is_one_of n own = list_any (λ slot. n == slot.0) own

-- each of these slots is less than n, and none stands twice
abbrev pub AreSlotsBelow : ℕ → List Slot → Type 0
AreSlotsBelow n [] = Unit {0}
AreSlotsBelow n (slot ∷ own) = (slot.0 < n) × (is_one_of slot.0 own ≡ false) × AreSlotsBelow n own
