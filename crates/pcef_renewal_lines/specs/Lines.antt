-- The lines that make a new session like an open one, and the answer that shows them (own choice).
use Rattle.std.specs.Prelude.{ℕ, ◌≡◌, ◌⊎◌, ◌++◌, All, List, [], ◌∷◌, Bool, true, false, Some, codes, map}
use Rattle.pcef_packet.specs.declared.header.Addr.{Addr}
use Rattle.pcef_packet.specs.AddressTexts.{address_of}
use Rattle.pcef_model.specs.declared.command.Command.{Command}
use Rattle.pcef_model.specs.Entries.{Journal}
use Rattle.pcef_model.specs.Lawful.{Lawful}
use Rattle.pcef_model.specs.Refusals.{was_terminated}
use Rattle.pcef_model.specs.Setting.{Setting}
use Rattle.pcef_renewal.specs.Accepting.{entered}
use Rattle.pcef_renewal.specs.Renewal.{renewal}
use Rattle.pcef_renewal_lines.specs.Addresses.{address_text}
use Rattle.pcef_renewal_lines.specs.Commands.{ReadsBack, line_text, with_commas}

-- ---- lines
abbrev pub open_text : Addr → List ℕ
open_text ue = codes "{\"do\":\"open\",\"ue\":\"" ++ (address_text ue ++ codes "\"}")

-- an `open` with this address, and a line for each of these commands
abbrev pub lines_for : Addr → List Command → List (List ℕ)
lines_for ue list = open_text ue ∷ map line_text list

-- each line reads as what it was made of: the address of the first one, and the commands of the others
pub record AreReadable (ue : Addr) (list : List Command) : Type 0 where
  pub address : address_of (address_text ue) ≡ Some ue
  pub commands : All ReadsBack list

-- ---- of a session: its own address, and its renewal
abbrev pub session_lines : Setting → Journal → List (List ℕ)
session_lines p j = lines_for p.ue (renewal p j)

abbrev pub HasLines : Setting → Journal → Type 0
HasLines p j = AreReadable p.ue (renewal p j)

-- ---- at the two places for which they are meant
-- right behind its `open`
abbrev pub NewSessionsHaveTheirOpen : Type 0
NewSessionsHaveTheirOpen = (p : Setting) → session_lines p [] ≡ open_text p.ue ∷ []

-- right behind a renewal
abbrev pub LinesComeAgain : Type 0
LinesComeAgain = (p : Setting) (j : Journal) → Lawful p j → session_lines p (entered (renewal p j) []) ≡ session_lines p j

-- ---- the answer
abbrev pub shown_text : Setting → Journal → List ℕ
shown_text p j = codes "{\"lines\":[" ++ (with_commas (session_lines p j) ++ codes "],\"ok\":true}")

abbrev pub terminated_text : List ℕ
terminated_text = codes "{\"name\":\"Terminated\",\"refused\":1}"

abbrev pub unwritable_text : List ℕ
unwritable_text = codes "{\"name\":\"Unwritable\",\"refused\":23}"

-- of a session that wasn't terminated
abbrev pub AnswersLive : Setting → Journal → List ℕ → Type 0
AnswersLive p j text = (HasLines p j × (text ≡ shown_text p j)) ⊎ (¬ (HasLines p j) × (text ≡ unwritable_text))

abbrev pub AnswersIf : Bool → Setting → Journal → List ℕ → Type 0
AnswersIf true p j text = text ≡ terminated_text
AnswersIf false p j text = AnswersLive p j text

abbrev pub AnswersLines : Setting → Journal → List ℕ → Type 0
AnswersLines p j text = AnswersIf (was_terminated j) p j text
