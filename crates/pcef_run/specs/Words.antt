-- What the words of the program ask for (own choice): a script, a run with a number of workers, or sessions on a
-- pool.
use Rattle.std.specs.Prelude.{ℕ, ◌-◌, ◌==◌, ◌&&◌, Bool, false, not, nat_le, List, [], ◌∷◌, drop, length, take, Vec, codes, Option, Some, None, is_some, if◌then◌else◌}
use Rattle.std.specs.Str.{all_ascii_digits, bytes_eq}
use Rattle.std.specs.Str.Parse.{digits_value}
use Rattle.std.specs.declared.alloc.Global.{Global}
use Rattle.pcef_rule.specs.declared.quantity.Sums.{Sums}
use Rattle.pcef_run.specs.Orders.{is_between}

-- 1 to 16, in decimal digits without a sign and without a zero before them
abbrev pub workers_in : List ℕ → Option ℕ
workers_in (digit ∷ []) = if is_between 49 57 digit then Some (digit - 48) else None
workers_in (ten ∷ digit ∷ []) = if (ten == 49) && is_between 48 54 digit then Some (digit - 38) else None
workers_in word = None

-- the number of workers of a run
abbrev pub workers_of : List (Vec ℕ Global) → Option ℕ
workers_of (word ∷ path ∷ workers ∷ []) = if bytes_eq word.items (codes "run") then workers_in workers.items else None
workers_of words = None

-- the path of the profile, of a script or of a run
abbrev pub path_of : List (Vec ℕ Global) → Option (List ℕ)
path_of (word ∷ path ∷ []) = if bytes_eq word.items (codes "script") then Some path.items else None
path_of (word ∷ path ∷ workers ∷ []) = if is_some (workers_of (word ∷ path ∷ workers ∷ [])) then Some path.items else None
path_of words = None

-- ---- a pool
abbrev pub has_zero_first : List ℕ → Bool
has_zero_first (first ∷ second ∷ digits) = first == 48
has_zero_first digits = false

-- 0 to 1,099,511,627,775, in decimal digits without a sign and without a zero before them
abbrev pub is_rate : List ℕ → Bool
is_rate digits = ((is_between 1 13 (length digits) && not (has_zero_first digits)) && all_ascii_digits digits) && nat_le (digits_value 10 digits) 1099511627775

unfoldable pub rate_in : List ℕ → Option ℕ
rate_in digits = if is_rate digits then Some (digits_value 10 digits) else None

abbrev pub capacity_of : Option ℕ → Option ℕ → Option Sums
capacity_of (Some up) (Some down) = Some (record { up = up; down = down })
capacity_of up down = None

-- the capacity of the pool, in bit/s, of 1 to 64 profiles
abbrev pub pool_of : List (Vec ℕ Global) → Option Sums
pool_of (word ∷ up ∷ down ∷ paths) =
    if is_between 1 64 (length paths) && bytes_eq word.items (codes "pool") then capacity_of (rate_in up.items) (rate_in down.items) else None
pool_of words = None

-- the paths of all profiles that are named
abbrev pub paths_of : List (Vec ℕ Global) → List (Vec ℕ Global)
paths_of words =
    if is_some (pool_of words) then drop 3 words else (if is_some (path_of words) then take 1 (drop 1 words) else [])
