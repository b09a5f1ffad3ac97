-- The exit statuses of a program that does no work (own choice).
use Rattle.std.specs.Prelude.{ℕ, ◌≡◌, ◌≢◌, ◌⊎◌}
use Rattle.clap.specs.declared.error.ErrorKind.{ErrorKind}
use Rattle.clap.specs.declared.error.ErrorKind.TheVariants as kind

-- the exit status for clap's error: a text that was asked for is no mistake, and 4 says that it
-- can't be written
pub record IsStatusDue (k : ErrorKind) (status : ℕ) : Type 0 where
  pub memory : k ≡ kind.OutOfMemory → status ≡ 3
  pub shown : (k ≡ kind.DisplayHelp) ⊎ (k ≡ kind.DisplayVersion) → (status ≡ 0) ⊎ (status ≡ 4)
  pub mistake : k ≢ kind.OutOfMemory → k ≢ kind.DisplayHelp → k ≢ kind.DisplayVersion → (status ≡ 2) ⊎ (status ≡ 4)
