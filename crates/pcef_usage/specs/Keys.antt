-- The counters of monitoring keys, in slot order.
use Rattle.std.specs.Prelude.{ℕ, ◌≡◌, ◌+◌, ◌<◌, ◌^◌, Bool, false, true, List, [], ◌∷◌, ◌++◌, Option, Some, None, MatchOption, if◌then◌else◌, map, not, ◌&&◌, nat_le, length, zero, suc}
use Rattle.std.specs.List.{list_any, AllByRecursion}
use Rattle.pcef_rule.specs.declared.quantity.Slot.{Slot}
use Rattle.pcef_model.specs.declared.level.Level.{Level}
use Rattle.pcef_model.specs.declared.level.Level.TheVariants.{Rule}
use Rattle.pcef_model.specs.Commands.{is_among}
use Rattle.pcef_model.specs.Setting.{most_keys, same_level, same_name}
use Rattle.pcef_model.specs.Reports.{is_reached_by}
use Rattle.pcef_model.specs.Slots.{AreSlotsBelow}
use Rattle.pcef_usage.specs.declared.usage.KeyState.{KeyState}

abbrev pub levels_of : List KeyState → List Level
levels_of states = map (λ s. s.level) states

abbrev pub keys_of : List KeyState → List (List ℕ)
keys_of states = map (λ s. s.key) states

abbrev pub has_slot : List ℕ → List KeyState → Bool
has_slot key states = list_any (λ s. same_name key s.key) states

-- the place of a key, or past the end
abbrev pub slot_place : List ℕ → List KeyState → ℕ
slot_place key [] = 0
slot_place key (s ∷ states) = if same_name key s.key then 0 else suc (slot_place key states)

abbrev pub fresh : List ℕ → Level → KeyState
fresh key level = record { key = key; level = level; on = false; grant = None; reported = 0; unreported = 0 }

-- ---- one key
abbrev pub started : ℕ → KeyState → KeyState
started amount s = record s { on = true; grant = Some amount }

abbrev pub stopped : KeyState → KeyState
stopped s = record s { on = false; grant = None }

abbrev pub ungranted : KeyState → KeyState
ungranted s = record s { grant = None }

abbrev pub added : ℕ → KeyState → KeyState
added octets s = record s { unreported = s.unreported + octets }

abbrev pub reported_on : KeyState → KeyState
reported_on s = record s { reported = s.reported + s.unreported; unreported = 0 }

-- a key that is on, with at least its grant unreported
abbrev pub grant_is_reached : KeyState → Bool
grant_is_reached s = s.on && is_reached_by s.grant s.unreported

abbrev pub ungranted_if_reached : KeyState → KeyState
ungranted_if_reached s = if grant_is_reached s then ungranted s else s

-- ---- all keys
-- the places of the keys whose grants are reached
abbrev pub reached_places : ℕ → List KeyState → List ℕ
reached_places n [] = []
reached_places n (s ∷ states) = if grant_is_reached s then n ∷ reached_places (suc n) states else reached_places (suc n) states

-- the states with the one at a place changed
abbrev pub at_place : ℕ → (KeyState → KeyState) → List KeyState → List KeyState
at_place n f [] = []
at_place zero f (s ∷ states) = f s ∷ states
at_place (suc n) f (s ∷ states) = s ∷ at_place n f states

abbrev pub state_at : ℕ → List KeyState → KeyState
state_at n [] = fresh [] Rule
state_at zero (s ∷ states) = s
state_at (suc n) (s ∷ states) = state_at n states

-- the states with a slot for this key, which gets this level with it
abbrev pub with_slot : Option (List ℕ) → Level → List KeyState → List KeyState
with_slot None level states = states
with_slot (Some key) level states = if has_slot key states then states else states ++ fresh key level ∷ []

-- a key has a slot, and another level than this one
abbrev pub level_clashes : Option (List ℕ) → Level → List KeyState → Bool
level_clashes None level states = false
level_clashes (Some key) level states = has_slot key states && not (same_level level (state_at (slot_place key states) states).level)

-- a key has no slot and there is none left
abbrev pub finds_no_place : Option (List ℕ) → List KeyState → Bool
finds_no_place None states = false
finds_no_place (Some key) states = not (has_slot key states) && nat_le most_keys (length states)

-- memory for one more key, where this one has no slot yet
abbrev pub HasPlaceFor : Option (List ℕ) → ℕ → List (List ℕ) → Type 0
HasPlaceFor None places keys = Unit {0}
HasPlaceFor (Some key) places keys = is_among key keys ≡ false → length keys < places

-- the states after a packet's octets are counted for the keys of its slots
abbrev pub with_octets : List Slot → ℕ → List KeyState → List KeyState
with_octets [] octets states = states
with_octets (slot ∷ own) octets states = with_octets own octets (at_place slot.0 (added octets) states)

-- what is counted of each key fits 64 bits
abbrev pub AllFit : List KeyState → Type 0
AllFit states = AllByRecursion (λ s. s.reported + s.unreported < 2 ^ 64) states

-- the key at a place can count `octets` octets more
abbrev pub FitsMore : ℕ → ℕ → List KeyState → Type 0
FitsMore n octets states = (state_at n states).reported + (state_at n states).unreported + octets < 2 ^ 64

-- slots that have keys, none of them twice, each of which can count `octets` octets more
abbrev pub CanCount : List Slot → ℕ → List KeyState → Type 0
CanCount own octets states = AreSlotsBelow (length states) own × AllByRecursion (λ slot. FitsMore slot.0 octets states) own

-- the states with this key on, and with this grant
abbrev pub with_started : List ℕ → ℕ → List KeyState → List KeyState
with_started key amount states = at_place (slot_place key states) (started amount) states

-- the slot of a key that has one, and none of another
abbrev pub IsSlotOf : List ℕ → List KeyState → Option Slot → Type 0
IsSlotOf key states slot =
    MatchOption slot (has_slot key states ≡ false) (λ s. (has_slot key states ≡ true) × (s.0 ≡ slot_place key states))

-- the places of slots
abbrev pub places_of : List Slot → List ℕ
places_of slots = map (λ s. s.0) slots

-- a place, where it is reached
abbrev pub place_if : Bool → ℕ → List ℕ
place_if grant_is_reached place = if grant_is_reached then place ∷ [] else []
