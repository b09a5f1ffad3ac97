-- What callers see of a session: what is fixed for it, its journal, how many of its oldest reports are forgotten, and the
-- room that it has.
use Rattle.std.specs.Prelude.{ℕ, ◌≤◌}
use Rattle.pcef_model.specs.Entries.{Journal}
use Rattle.pcef_model.specs.Setting.{Setting}

-- how many more entries the journal takes without memory, and how many more rules the list of active rules
pub record Room : Type 0 where
  pub entries : ℕ
  pub rules : ℕ

pub record SessionModel : Type 0 where
  pub setting : Setting
  pub journal : Journal
  pub forgotten : ℕ
  pub room : Room

-- no less room
pub record HasAtLeast (old new : Room) : Type 0 where
  pub entries : old.entries ≤ new.entries
  pub rules : old.rules ≤ new.rules
