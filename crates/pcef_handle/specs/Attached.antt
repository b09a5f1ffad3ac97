-- What is kept of a worker that is attached.
use Rattle.std.specs.Prelude.{ℕ, ◌-◌, List, Option, length, slice_get}
use Rattle.pcef_catalog.specs.declared.listing.Offer.{Offer}
use Rattle.pcef_session.specs.declared.batch.Item.{Item}
use Rattle.pcef_world.specs.declared.apart.ApartWorker.{ApartWorker}

-- the predefined rules, the worker, and the number of the session that it was attached to
pub record Attached : Type 0 where
  pub catalog : List Offer
  pub apart : ApartWorker
  pub session : ℕ

-- the row that waits last
abbrev pub last_of : List Item → Option Item
last_of rows = slice_get rows (length rows - 1)
