-- What holds of the value behind the lock, beside what callers are answered.
use Rattle.std.specs.Prelude.{ℕ, ◌≡◌, ◌≤◌, ◌+◌, length}
use Rattle.pcef_model.specs.Setting.{Setting}
use Rattle.pcef_model.specs.Entries.{rows}
use Rattle.pcef_model.specs.Journals.{attach_count}
use Rattle.pcef_lock.specs.Kept.{Kept}
use Rattle.pcef_lock.specs.Locked.{Locked}

-- a share was issued to the desk and to each worker that was attached, a subscriber is free for each place that
-- is left, and the journal is within its limit of rows
pub record IsSound (p : Setting) (first : ℕ) (v : Locked) (free : ℕ) : Type 0 where
  pub kept : Kept p first v
  pub issued_is : v.books.issued ≡ attach_count v.session.journal + 1
  pub free_are : free + v.books.issued ≡ v.places + 1
  pub few_places : v.places ≤ 16
  pub most_rows : p.rows ≤ 4294967295
  pub few_rows : length (rows v.session.journal) ≤ p.rows
