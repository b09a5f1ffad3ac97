-- Inputs that are read to their end (own choice).
use Rattle.std.specs.Prelude.{ℕ, ◌≡◌, ◌≤◌, ◌+◌, List, length, Option}
use Rattle.std.specs.Io.KnownBytes.{Consumes, IsAtEnd}
use Rattle.pcef_script.specs.ScriptLines.{script_most}
use Rattle.pcef_run.specs.declared.fault.PlanFault.{PlanFault}
use Rattle.pcef_run.specs.declared.fault.PlanFault.TheVariants as fault

-- these bytes were read, to the end, from a reader with `before` still to come, to `left`
pub record IsRead (input : List ℕ) (before left : Option (List ℕ)) : Type 0 where
  pub read : Consumes before left input
  pub ended : IsAtEnd left
  pub most : length input ≤ script_most

-- how much was read of an input that can't be read whole
abbrev pub LengthIs : PlanFault → ℕ → Type 0
LengthIs fault.Read n = n ≤ script_most
LengthIs fault.TooMuch n = n ≡ script_most + 1
LengthIs fault.NoMemory n = n ≤ script_most + 1
LengthIs (fault.Line first) n = ⊥

abbrev pub IsUnread : PlanFault → Option (List ℕ) → Option (List ℕ) → Type 0
IsUnread fault before left = (input : List ℕ) × Consumes before left input × LengthIs fault (length input)
