-- What was written by a way to a shared writer (own choice).
use Rattle.std.specs.Prelude.{ℕ, List, [], ◌∷◌, ◌++◌, Vec}
use Rattle.std.specs.declared.alloc.Global.{Global}
use Rattle.pcef_shards.specs.declared.outlet.Outlet.{Outlet}

-- what was handed over, from the newest on
abbrev pub octets_handed_over : List (Vec ℕ Global) → List ℕ
octets_handed_over [] = []
octets_handed_over (newest ∷ older) = octets_handed_over older ++ newest.items

-- and then what waits
abbrev pub all_written : {T W : Type 0} → Outlet T W → List ℕ
all_written o = octets_handed_over o.handed.items ++ o.waiting.items
