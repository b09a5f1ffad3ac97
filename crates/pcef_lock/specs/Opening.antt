-- What a session goes by behind its lock, and why it wasn't put there.
use Rattle.std.specs.Prelude.{ℕ, ◌≡◌, List, Result, Ok, Err}
use Rattle.logbook.specs.Pages.{Book}
use Rattle.pcef_model.specs.Journals.{gen}
use Rattle.pcef_model.specs.Setting.{Setting}
use Rattle.pcef_publish.specs.Lists.{Opening}
use Rattle.pcef_session.specs.Answers.{ShowsNewest}
use Rattle.pcef_session.specs.SessionModel.{SessionModel}
use Rattle.pcef_share.specs.Names.{ledger_at}
use Rattle.pcef_lock.specs.declared.opening.SharedFault.{SharedFault}
use Rattle.pcef_lock.specs.declared.opening.SharedFault.TheVariants.{NoMemory, Places, PoolPlaces, ReaderRefused}
use Rattle.pcef_publish.specs.declared.publisher.PublishFault.{PublishFault}
use Rattle.pcef_publish.specs.declared.publisher.PublishFault.TheVariants as publish

-- its name: the numbers of its ledgers, its setting, its first generation, and the history of its tables. They are those
-- of these blanks, of this session, and of a history that was opened with the session's newest table
pub record GoesBy (ledger : ℕ → ℕ) (setting : Setting) (first : ℕ) (book : Book) (root : ℕ) (s : SessionModel) (opened : Opening) (blanks : List ℕ) : Type 0 where
  pub ledger_is : ledger ≡ ledger_at blanks
  pub setting_is : s.setting ≡ setting
  pub first_is : first ≡ gen s.journal
  pub table : ShowsNewest s opened.table
  pub book_is : opened.book ≡ book
  pub root_is : opened.root ≡ root

-- ---- faults
-- for want of places
abbrev pub IsPlacesFault : {A B : Type 0} → Result A (B × SharedFault) → Type 0
IsPlacesFault (Ok a) = ⊥
IsPlacesFault (Err e) = e.1 ≡ Places

-- for want of a share of the pool
abbrev pub IsPoolFull : {A B : Type 0} → Result A (B × SharedFault) → Type 0
IsPoolFull (Ok a) = ⊥
IsPoolFull (Err e) = e.1 ≡ PoolPlaces

-- ---- for private clauses
-- why it didn't, where its first table wasn't published
abbrev pub unpublished : PublishFault → SharedFault
unpublished publish.ReaderRefused = ReaderRefused
unpublished publish.NoMemory = NoMemory
