-- What a pool leaves, and what fits into it.
use Rattle.std.proofs.Common.{◌≡◌, ◌≤◌, ◌<◌, ◌+◌, ◌-◌, ℕ, true, false, refl, sym, subst, arith, None, Some, nat_lt}
use Rattle.std.proofs.lemmas.Bool.{le-ltb, lt-ltb}
use Rattle.pcef_rule.specs.declared.quantity.Sums.{Sums}
use Rattle.pcef_model.specs.Laws.{IsInRoom}
use Rattle.pcef_model.specs.Refusals.{first_of}
use Rattle.pcef_share.specs.Pools.{IsPart, IsPool, PoolModel, pool_faults, pool_with, room_beside}
use Rattle.pcef_share.specs.declared.pool_state.PoolFull.TheVariants as full

-- one direction: what is over the room brings all over the capacity
over : (capacity granted held rate : ℕ) → granted ≤ capacity → capacity - (granted - held) < rate → nat_lt capacity (granted - held + rate) ≡ true
over capacity granted held rate within past = lt-ltb capacity (granted - held + rate) (omega (arith, within, past))

within_room : (capacity granted held rate : ℕ) → granted ≤ capacity → rate ≤ capacity - (granted - held) → nat_lt capacity (granted - held + rate) ≡ false
within_room capacity granted held rate within fits = le-ltb capacity (granted - held + rate) (omega (arith, within, fits))

-- ---- a step of the pool
pub up_over : (v : PoolModel) (held rates : Sums) → IsPool v → (room_beside v held).up < rates.up → Some full.Up ≡ first_of (pool_faults v held rates)
up_over v held rates is past = rw (over v.capacity.up v.books.granted.up held.up rates.up is.up past) refl

pub down_over : (v : PoolModel) (held rates : Sums) → IsPool v → rates.up ≤ (room_beside v held).up → (room_beside v held).down < rates.down → Some full.Down ≡ first_of (pool_faults v held rates)
down_over v held rates is fits past =
    rw (within_room v.capacity.up v.books.granted.up held.up rates.up is.up fits, over v.capacity.down v.books.granted.down held.down rates.down is.down past) refl

pub none_over : (v : PoolModel) (held rates : Sums) → IsPool v → IsInRoom rates (room_beside v held) → None ≡ first_of (pool_faults v held rates)
none_over v held rates is fits =
    rw (within_room v.capacity.up v.books.granted.up held.up rates.up is.up fits.up, within_room v.capacity.down v.books.granted.down held.down rates.down is.down fits.down) refl

pub fits_pool : (v : PoolModel) (held rates : Sums) → IsPool v → IsInRoom rates (room_beside v held) → first_of (pool_faults v held rates) ≡ None
fits_pool v held rates is fits = sym (none_over v held rates is fits)

pub pool_kept : (v : PoolModel) (held rates : Sums) → IsPool v → IsInRoom rates (room_beside v held) → IsPool (pool_with v held rates)
pool_kept v held rates is fits = record {
  up = omega (arith, is.up, fits.up);
  down = omega (arith, is.down, fits.down);
  most_up = is.most_up;
  most_down = is.most_down;
}

-- a share fits into the room that is there for it
pub part_fits : (v : PoolModel) (held : Sums) → IsPool v → IsPart held v → IsInRoom held (room_beside v held)
part_fits v held is part = record {
  up = omega (arith, is.up, part.up);
  down = omega (arith, is.down, part.down);
}

-- and the pool gives them
pub pool_gives : (v : PoolModel) (held rates room : Sums) → IsPool v → room ≡ room_beside v held → IsInRoom rates room → first_of (pool_faults v held rates) ≡ None
pool_gives v held rates room is room_is fits = fits_pool v held rates is (subst (λ x. IsInRoom rates x) room_is fits)

pub held_fits : (v : PoolModel) (held room : Sums) → IsPool v → IsPart held v → room ≡ room_beside v held → IsInRoom held room
held_fits v held room is part room_is = rw room_is (part_fits v held is part)
