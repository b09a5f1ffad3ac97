-- Commands that are accepted one after the other, without a report.
use Rattle.std.specs.Prelude.{◌≡◌, true, List, [], ◌∷◌, None}
use Rattle.pcef_model.specs.declared.command.Command.{Command}
use Rattle.pcef_model.specs.declared.entry.Entry.TheVariants as entry
use Rattle.pcef_model.specs.Entries.{Journal}
use Rattle.pcef_model.specs.Lawful.{Lawful}
use Rattle.pcef_model.specs.Outcomes.{changes}
use Rattle.pcef_model.specs.Refusals.{first_of, refusals}
use Rattle.pcef_model.specs.Reports.{after_command}
use Rattle.pcef_model.specs.Setting.{Setting}
use Rattle.pcef_renewal.specs.Renewal.{renewal}

-- nothing refuses the command, it changes something, and nothing but its entry comes into the journal
pub record IsTaken (p : Setting) (j : Journal) (c : Command) : Type 0 where
  pub accepted : first_of (refusals p j c) ≡ None
  pub changing : changes p j c ≡ true
  pub quiet : after_command p j c ≡ entry.Command c ∷ j

abbrev pub AreTaken : Setting → Journal → List Command → Type 0
AreTaken p j [] = Unit {0}
AreTaken p j (c ∷ cs) = IsTaken p j c × AreTaken p (entry.Command c ∷ j) cs

-- the journal after them
abbrev pub entered : List Command → Journal → Journal
entered [] j = j
entered (c ∷ cs) j = entered cs (entry.Command c ∷ j)

-- a new session of the same setting takes the whole renewal
abbrev pub RenewalsAreTaken : Type 0
RenewalsAreTaken = (p : Setting) (j : Journal) → Lawful p j → AreTaken p [] (renewal p j)
