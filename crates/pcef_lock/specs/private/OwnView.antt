-- A worker's own list, which is stored or only counted.
use Rattle.std.specs.Prelude.{ℕ, ◌≡◌, ◌≤◌, ◌-◌, ◌^◌, Option, Some, None, is_some, length, min, reverse, vec_capacity, vec_len}
use Rattle.std.specs.Global.{Global}
use Rattle.std.specs.Option.{IfSome}
use Rattle.std.specs.declared.vec.Vec.{Vec}
use Rattle.pcef_session.specs.declared.batch.Item.{Item}
use Rattle.pcef_lock.specs.HandedIn.{OwnList}
use Rattle.pcef_lock.specs.declared.own_rows.OwnRows.TheInside.{Inside}

-- how many more rows can be added, where a counter can count `countable` more
abbrev pub room_in : Option (Vec Item Global) → ℕ → ℕ
room_in None countable = countable
room_in (Some v) countable = min (vec_capacity v - vec_len v) countable

abbrev pub own_list_of : Inside → OwnList
own_list_of o = record {
  items = reverse o.history.items;
  keeps = is_some o.stored;
  room = room_in o.stored (2 ^ 63 - o.count);
}

-- they are as many as were counted, and where they are stored it is they
pub record IsOwn (o : Inside) : Type 0 where
  pub count_is : length o.history.items ≡ o.count
  pub few : o.count ≤ 2 ^ 63
  pub stored_are : IfSome o.stored (λ v. v.items ≡ reverse o.history.items)
