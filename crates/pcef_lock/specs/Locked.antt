-- What contracts see of the value behind the lock of a session.
use Rattle.std.specs.Prelude.{ℕ, List}
use Rattle.pcef_table.specs.Tables.{TableValue}
use Rattle.pcef_share.specs.Amounts.{Account}
use Rattle.pcef_session.specs.SessionModel.{SessionModel}

-- the session, the tables that were published, the books, and how many workers may be attached
pub record Locked : Type 0 where
  pub session : SessionModel
  pub tables : List TableValue
  pub books : Account
  pub places : ℕ
