-- What every hold of the lock of a session finds.
use Rattle.std.specs.Prelude.{ℕ, ◌≡◌}
use Rattle.pcef_core.specs.Keeping.{KeptBySession, SessionIsExact}
use Rattle.pcef_model.specs.Setting.{Setting}
use Rattle.pcef_handover.specs.Counting.{AreCounted}
use Rattle.pcef_lock.specs.Locked.{Locked}
use Rattle.pcef_lock.specs.Published.{ArePublished}

-- the session is of this setting, the published tables show its generations from `first` on, and the books hold
-- what its journal counts
pub record Kept (p : Setting) (first : ℕ) (v : Locked) : Type 0 where
  pub setting_is : v.session.setting ≡ p
  pub published : ArePublished p v.session.journal first v.tables
  pub counted : AreCounted p v.session.journal v.books.totals

-- Whenever the lock of a session is free, it guards this: what the session keeps, by the journal of the session, is exact
-- (rules, bearers, rates, keys, verdicts and table, with a lawful journal), and so are tables and books beside it.
pub record HoldFinds (p : Setting) (first : ℕ) (v : Locked) (s : KeptBySession) : Type 0 where
  pub journal_is : s.journal ≡ v.session.journal
  pub exact : SessionIsExact p s
  pub kept : Kept p first v
