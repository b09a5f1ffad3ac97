-- A whole run of a script: what it read of its input, and what it wrote for that (own choice).
use Rattle.std.specs.Prelude.{◌≡◌, ◌≤◌, ◌+◌, ℕ, List, length, Option, Result, Ok, Err}
use Rattle.std.specs.Io.KnownBytes.{Consumes}
use Rattle.pcef_model.specs.Setting.{Setting}
use Rattle.pcef_script.specs.declared.fault.ScriptFault.{ScriptFault}
use Rattle.pcef_script.specs.declared.fault.ScriptFault.TheVariants as fault
use Rattle.pcef_script.specs.ScriptLines.{script_most}
use Rattle.pcef_script.specs.Scripts.{Ran}

-- A script within the limit is read to its end, and of one that is too long one byte more than the limit. No
-- run reads more than that.
abbrev pub ReadsWithin : Result ℕ ScriptFault → List ℕ → Type 0
ReadsWithin (Ok faults) input = length input ≤ script_most
ReadsWithin (Err fault.Read) input = length input ≤ script_most
ReadsWithin (Err fault.TooMuch) input = length input ≡ script_most + 1
ReadsWithin (Err other) input = length input ≤ script_most + 1

-- from a reader with `before` still to come and a writer with `old` written, to `left` and `new`
abbrev pub Runs : Setting → Result ℕ ScriptFault → Option (List ℕ) → Option (List ℕ) → Option (List ℕ) → Option (List ℕ) → Type 0
Runs p result before left old new =
    (input : List ℕ) × Consumes before left input × ReadsWithin result input × Ran p result old new left input
