-- What the one who gives commands has of a session.
use Rattle.std.specs.Prelude.{ℕ, ◌≡◌, Bool, true, false, ◌++◌, ◌∷◌, [], List, Option, Result, Ok, Err, is_some, length}
use Rattle.pcef_model.specs.declared.answer.Accepted.{Accepted}
use Rattle.pcef_model.specs.declared.answer.Refusal.{Refusal}
use Rattle.pcef_model.specs.declared.command.Command.{Command}
use Rattle.pcef_model.specs.Entries.{Journal, commands}
use Rattle.pcef_model.specs.Lawful.{Lawful}
use Rattle.pcef_model.specs.Outcomes.{CommandStepWithin}
use Rattle.pcef_model.specs.Setting.{Setting}
use Rattle.pcef_rule.specs.declared.quantity.Sums.{Sums}
use Rattle.pcef_share.specs.Amounts.{Account, command_ledger, plus, zeros}

-- the commands that were accepted, and how many reports were collected
pub record DeskModel : Type 0 where
  pub commands : List Command
  pub collected : ℕ

-- one more, unless it changed nothing
abbrev pub listed_by : Bool → Command → List Command → List Command
listed_by true c cs = cs
listed_by false c cs = cs ++ c ∷ []

-- a command that was answered so
abbrev pub listed : Result Accepted Refusal → Command → List Command → List Command
listed (Ok a) c cs = listed_by a.unchanged c cs
listed (Err r) c cs = cs

-- the shares of a desk whose commands are those of a journal
abbrev pub desk_shares : Journal → List ℕ
desk_shares j = plus zeros command_ledger (length (commands j))

-- the books of a session to which no worker was ever attached: its commands, and the share of its desk
abbrev pub first_books : Journal → Account
first_books j = record { totals = desk_shares j; issued = 1 }

-- an answer to a command is one that is due: after some lawful journal, and of a session on a pool in some room
abbrev pub IsAnswerDue : Setting → Bool → Command → Result Accepted Refusal → Type 0
IsAnswerDue p is_there command result =
    (room : Option Sums) × (is_some room ≡ is_there) × (before : Journal) × (after : Journal) × Lawful p before
    × CommandStepWithin p room command before result after
