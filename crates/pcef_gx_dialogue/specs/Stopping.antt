-- Which keys stop where an answer of the PCRF grants them nothing (TS 29.212, clauses 4.5.16 and 4.5.17).
use Rattle.std.specs.Prelude.{ℕ, ◌++◌, ◌&&◌, not, Bool, true, false, is_none, List, drop, filter, map}
use Rattle.std.specs.List.{list_any}
use Rattle.pcef_gx.specs.declared.order.Order.{Order}
use Rattle.pcef_gx.specs.declared.order.Order.TheVariants as order
use Rattle.pcef_gx_orders.specs.Standing.{keys_on}
use Rattle.pcef_model.specs.declared.report.Body.{Body}
use Rattle.pcef_model.specs.declared.report.Body.TheVariants as body
use Rattle.pcef_model.specs.declared.report.Cause.{Cause}
use Rattle.pcef_model.specs.declared.report.Cause.TheVariants.{Threshold}
use Rattle.pcef_model.specs.Entries.{Journal}
use Rattle.pcef_model.specs.Journals.{grant}
use Rattle.pcef_model.specs.Setting.{Setting, same_name}
use Rattle.pcef_gx_dialogue.specs.Adding.{in_turn}

-- a report that the grant of a key is used up
abbrev pub is_threshold : Cause → Bool
is_threshold Threshold = true
is_threshold _ = false

abbrev pub is_used_up : List ℕ → Body → Bool
is_used_up key (body.Usage other octets cause) = same_name key other && is_threshold cause
is_used_up key _ = false

-- behind so many reports, one of them is still to be told
abbrev pub waits : Journal → ℕ → List ℕ → Bool
waits j told key = list_any (λ r. is_used_up key r.body) (drop told (in_turn j))

abbrev pub is_granted : List ℕ → Order → Bool
is_granted key (order.Monitor other amount level) = same_name key other
is_granted key _ = false

-- A key that is on without a grant has used it up. Where the PCRF was told so, and its answer has no new grant for the
-- key, monitoring doesn't go on.
abbrev pub is_left : Journal → ℕ → List Order → List ℕ → Bool
is_left j told orders key = is_none (grant j key) && (not (waits j told key) && not (list_any (is_granted key) orders))

abbrev pub keys_left : Setting → Journal → ℕ → List Order → List (List ℕ)
keys_left p j told orders = filter (is_left j told orders) (keys_on p j)

-- the orders of an answer, and behind them those to switch these keys off
abbrev pub with_stops : Setting → Journal → ℕ → List Order → List Order
with_stops p j told orders = orders ++ map order.Stop (keys_left p j told orders)
