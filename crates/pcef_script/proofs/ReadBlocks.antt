-- How much of a script is read.
use Rattle.std.proofs.Common.{◌≡◌, ◌∙◌, ◌+◌, ◌-◌, ◌<◌, ◌≤◌, ℕ, List, ◌∷◌, ◌++◌, length, ap, arith, length-append, sym, append_assoc}
use Rattle.std.specs.Prelude.{IfErr, Option, Result, Ok, Err}
use Rattle.pcef_model.specs.Setting.{Setting}
use Rattle.pcef_world.specs.Worlds.{World}
use Rattle.pcef_script.specs.declared.fault.ScriptFault.{ScriptFault}
use Rattle.pcef_script.specs.declared.fault.ScriptFault.TheVariants as fault
use Rattle.pcef_script.specs.ScriptLines.{KeptLine, script_most}
use Rattle.pcef_script.specs.Running.{EndFails, OpenFails, StoppedIn}
use Rattle.pcef_script.specs.Runs.{ReadsWithin}

more_by_one : (n : ℕ) → n ≤ script_most → n ≤ script_most + 1
more_by_one n le = omega (arith, le)

-- at the end of the input
pub end_within : (r : Result ℕ ScriptFault) (p : Setting) (v : World) (line input : List ℕ) (a b : Option (List ℕ)) → length input ≤ script_most → IfErr r (λ e. EndFails p v line e a b) → ReadsWithin r input
end_within (Ok n) p v line input a b le f = le
end_within (Err fault.Read) p v line input a b le f = le
end_within (Err fault.Write) p v line input a b le f = more_by_one (length input) le
end_within (Err fault.NoMemory) p v line input a b le f = more_by_one (length input) le
end_within (Err fault.TooMuch) p v line input a b le f = absurd f
end_within (Err (fault.Profile _)) p v line input a b le f = absurd f

-- the byte after the most is the last one
one_over : (whole front rest : ℕ) → whole ≡ front + (1 + rest) → front ≡ script_most → whole ≤ script_most + 1 → whole ≡ script_most + 1
one_over whole front rest is most le = omega (arith, is, most, le)

-- in a block
pub block_within : (p : Setting) (e : ScriptFault) (a b : Option (List ℕ)) (input block : List ℕ) → length (input ++ block) ≤ script_most + 1 → StoppedIn p e a b input block → ReadsWithin (Err e) (input ++ block)
block_within p fault.Read a b input block le h = absurd h.4
block_within p fault.Write a b input block le h = le
block_within p fault.NoMemory a b input block le h = le
block_within p fault.TooMuch a b input block le h =
    let len : length (input ++ block) ≡ length (input ++ h.0) + length (h.1 ∷ h.2) =
    ap length (ap (λ t. input ++ t) h.3 ∙ sym (append_assoc input h.0 (h.1 ∷ h.2))) ∙ length-append (input ++ h.0) (h.1 ∷ h.2) in
    one_over (length (input ++ block)) (length (input ++ h.0)) (length h.2) (omega (arith, len)) h.4.0 le
block_within p (fault.Profile _) a b input block le h = absurd h.4

-- a session that can't be opened
pub open_within : (e : ScriptFault) (input : List ℕ) → length input ≤ script_most → OpenFails e → ReadsWithin (Err e) input
open_within fault.Read input le f = le
open_within fault.Write input le f = more_by_one (length input) le
open_within fault.NoMemory input le f = more_by_one (length input) le
open_within fault.TooMuch input le f = absurd f
open_within (fault.Profile _) input le f = more_by_one (length input) le

-- a block that has room for no more than may still be read
pub block_fits : (line : KeptLine) (input block : List ℕ) → line.read ≡ length input → length input ≤ script_most → length block ≤ script_most + 1 - line.read → length (input ++ block) ≤ script_most + 1
block_fits line input block read most room = omega (arith, length-append input block, read, most, room)

-- something may still be read
pub room_left : (line : KeptLine) (input : List ℕ) → line.read ≡ length input → length input ≤ script_most → 0 < script_most + 1 - line.read
room_left line input read most = omega (arith, read, most)
