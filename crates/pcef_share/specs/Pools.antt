-- Pools of guaranteed rates that sessions share, in bit/s (own choice).
use Rattle.std.specs.Prelude.{◌≡◌, ◌≤◌, ◌+◌, ◌-◌, Bool, true, false, List, [], ◌∷◌, Option, Some, None, length, nat_lt}
use Rattle.pcef_rule.specs.declared.quantity.Sums.{Sums}
use Rattle.pcef_model.specs.Setting.{Setting}
use Rattle.pcef_model.specs.Entries.{Journal}
use Rattle.pcef_model.specs.Refusals.{Conditions, total_now}
use Rattle.pcef_share.specs.Rates.{RateAccount, granted_with, no_rates, sum_of_rates, to_others}
use Rattle.pcef_share.specs.declared.pool_state.PoolFull.{PoolFull}
use Rattle.pcef_share.specs.declared.pool_state.PoolFull.TheVariants as full

-- what contracts see of a pool: its capacity, and its books
pub record PoolModel : Type 0 where
  pub capacity : Sums
  pub books : RateAccount

-- what every hold of a pool's lock finds: no more is granted than its capacity, which is within the limit of a session's
pub record IsPool (v : PoolModel) : Type 0 where
  pub up : v.books.granted.up ≤ v.capacity.up
  pub down : v.books.granted.down ≤ v.capacity.down
  pub most_up : v.capacity.up ≤ 1099511627775
  pub most_down : v.capacity.down ≤ 1099511627775

-- The same with all the shares that were issued: what a pool has granted is the exact sum over them, within its capacity.
-- The share of a session is what its own rules sum up to (`rates_due`).
pub record GrantsExactly (v : PoolModel) (shares : List Sums) : Type 0 where
  pub all : length shares ≡ v.books.issued
  pub sum : v.books.granted ≡ sum_of_rates no_rates shares
  pub within_up : v.books.granted.up ≤ v.capacity.up
  pub within_down : v.books.granted.down ≤ v.capacity.down

-- the room that a pool leaves for a share with these rates: its capacity less what the other shares have
abbrev pub room_beside : PoolModel → Sums → Sums
room_beside v held = record {
  up = v.capacity.up - (to_others v.books.granted held).up;
  down = v.capacity.down - (to_others v.books.granted held).down;
}

-- a share of a pool is refused other rates exactly where the sum of all shares would be over the capacity
abbrev pub pool_faults : PoolModel → Sums → Sums → Conditions PoolFull
pool_faults v held rates =
    (nat_lt v.capacity.up (granted_with v.books.granted held rates).up, full.Up) ∷
    (nat_lt v.capacity.down (granted_with v.books.granted held rates).down, full.Down) ∷ []

-- a pool of which a share had the first rates and has the second
abbrev pub pool_with : PoolModel → Sums → Sums → PoolModel
pool_with v held rates = record v { books = record v.books { granted = granted_with v.books.granted held rates } }

-- a pool of which one share more was issued
abbrev pub with_rate_share : PoolModel → PoolModel
with_rate_share v = record v { books = record v.books { issued = v.books.issued + 1 } }

-- no share has more than all
pub record IsPart (held : Sums) (v : PoolModel) : Type 0 where
  pub up : held.up ≤ v.books.granted.up
  pub down : held.down ≤ v.books.granted.down

-- the share that a session has: where there is a pool, what its own rules sum up to
abbrev pub rates_due : Bool → Setting → Journal → Option Sums
rates_due true p j = Some (total_now p j)
rates_due false p j = None
