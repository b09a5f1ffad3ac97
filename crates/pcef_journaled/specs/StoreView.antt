-- A store. Its rows are written oldest first, and are read newest first.
use Rattle.std.specs.Prelude.{◌-◌, ℕ, length, min, reverse, vec_len, vec_capacity}
use Rattle.std.specs.Global.{Global}
use Rattle.std.specs.declared.vec.Vec.{Vec}
use Rattle.pcef_journaled.specs.declared.store.Store.TheInside.{Inside}
use Rattle.pcef_journaled.specs.Archived.{Stored}
use Rattle.pcef_journaled.specs.KeptRows.{ArePlaced, rows_of}

-- how many more there is memory for
abbrev pub free : {A : Type 0} → Vec A Global → ℕ
free v = vec_capacity v - vec_len v

abbrev pub stored_of : Inside → Stored
stored_of a =
    record {
      rows = reverse (rows_of a.names.names a.rows.items);
      room = min (free a.rows) a.names.room;
    }

-- each row's rule has a name
abbrev pub HasNames : Inside → Type 0
HasNames a = ArePlaced (length a.names.names) a.rows.items
