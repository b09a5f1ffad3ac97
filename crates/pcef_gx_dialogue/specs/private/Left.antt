-- Which keys that are kept are left without a grant.
use Rattle.std.specs.Prelude.{ℕ, ◌&&◌, not, Bool, is_none, List, filter, map}
use Rattle.std.specs.List.{list_any}
use Rattle.pcef_gx.specs.declared.order.Order.{Order}
use Rattle.pcef_model.specs.Entries.{Journal}
use Rattle.pcef_usage.specs.declared.usage.KeyState.{KeyState}
use Rattle.pcef_gx_dialogue.specs.Stopping.{is_granted, waits}

unfoldable pub is_state_left : Journal → ℕ → List Order → KeyState → Bool
is_state_left j told orders s =
    s.on && (is_none s.grant && (not (waits j told s.key) && not (list_any (is_granted s.key) orders)))

abbrev pub states_left : Journal → ℕ → List Order → List KeyState → List (List ℕ)
states_left j told orders states = map (λ s. s.key) (filter (is_state_left j told orders) states)
