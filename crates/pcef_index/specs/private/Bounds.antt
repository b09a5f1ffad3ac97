-- Bounds, the addresses where intervals begin: how many are at or below an address.
use Rattle.std.specs.Prelude.{ℕ, zero, suc, ◌+◌, ◌-◌, ◌/◌, List, get_or, length, nat_le, nat_lt, if◌then◌else◌}

-- among the bounds from one place to another, which is cut in half so many times at most, the place of the first above an
-- address
unfoldable pub search : ℕ → List ℕ → ℕ → ℕ → ℕ → ℕ
search zero bounds address from to = from
search (suc cuts) bounds address from to =
    if nat_lt from to
    then (if nat_le (get_or bounds (from + (to - from) / 2) 0) address
    then search cuts bounds address (from + (to - from) / 2 + 1) to
    else search cuts bounds address from (from + (to - from) / 2))
    else from

unfoldable pub bound_cell : List ℕ → ℕ → ℕ
bound_cell bounds address = search (length bounds) bounds address 0 (length bounds)
