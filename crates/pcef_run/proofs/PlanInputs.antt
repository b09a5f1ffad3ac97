-- The outcome of an input that was read.
use Rattle.std.proofs.Common.{◌≡◌, ◌∙◌, ◌+◌, ◌++◌, ◌∷◌, ℕ, List, arith, length, subst, sym}
use Rattle.std.specs.Prelude.{IfErr, IfOk, Option, Result, Ok, Err, string_bytes}
use Rattle.pcef_line.specs.declared.line.Line.{Line}
use Rattle.pcef_script.specs.ScriptAnswers.{answered}
use Rattle.pcef_script.specs.Scripts.{all_lines}
use Rattle.pcef_run.specs.Inputs.{IsRead}
use Rattle.pcef_run.specs.Plans.{ArePlanned, AskFor, FailsIn, IsUnfit, Plans}
use Rattle.pcef_run.specs.Reasons.{IsFaultAt, IsFor, SaysReason}
use Rattle.pcef_run.specs.declared.fault.PlanFault.{PlanFault}
use Rattle.pcef_run.specs.declared.fault.PlanFault.TheVariants as fault
use Rattle.pcef_run.specs.declared.plan.Plan.{Plan}
use Rattle.pcef_run.specs.declared.unfit.Untaken.{Untaken}
use Rattle.pcef_run.specs.declared.unfit.Untaken.TheVariants as untaken

pub input_planned : (workers : ℕ) (r : Result Plan PlanFault) (input : List ℕ) (before left : Option (List ℕ)) → IsRead input before left
    → IfOk r (λ plan. ArePlanned workers (all_lines input) plan) → IfErr r (λ e. FailsIn workers (all_lines input) e) → Plans workers r before left
input_planned workers (Ok plan) input before left read planned fails = (input, read, planned)
input_planned workers (Err (fault.Line first)) input before left read planned fails = (input, read, fails)
input_planned workers (Err fault.NoMemory) input before left read planned fails = (input, read.read, omega (arith, read.most))
input_planned workers (Err fault.Read) input before left read planned fails = absurd fails
input_planned workers (Err fault.TooMuch) input before left read planned fails = absurd fails

-- the first line that isn't taken
pub fails_at : (workers : ℕ) (lines front : List (List ℕ)) (bytes : List ℕ) (rest : List (List ℕ)) (before : List Line) (number : ℕ) (u : Untaken) (f : PlanFault) → lines ≡ front ++ bytes ∷ rest
    → number ≡ length front + 1 → AskFor workers (answered front) before → IsFor (IsUnfit workers bytes) u → IsFaultAt number u f → FailsIn workers lines f
fails_at workers lines front bytes rest before number (untaken.Unfit why) (fault.Line first) whole at asked unfit (numbered, is, told) =
    (front, bytes, rest, before, whole, numbered ∙ at, asked, subst (IsUnfit workers bytes) (sym is) unfit, subst (λ w. SaysReason w (string_bytes first.explanation)) (sym is) told)
fails_at workers lines front bytes rest before number (untaken.Unfit why) fault.Read whole at asked unfit none = absurd none
fails_at workers lines front bytes rest before number (untaken.Unfit why) fault.TooMuch whole at asked unfit none = absurd none
fails_at workers lines front bytes rest before number (untaken.Unfit why) fault.NoMemory whole at asked unfit none = tt
fails_at workers lines front bytes rest before number untaken.NoMemory (fault.Line first) whole at asked unfit none = absurd none
fails_at workers lines front bytes rest before number untaken.NoMemory fault.Read whole at asked unfit none = absurd none
fails_at workers lines front bytes rest before number untaken.NoMemory fault.TooMuch whole at asked unfit none = absurd none
fails_at workers lines front bytes rest before number untaken.NoMemory fault.NoMemory whole at asked unfit is = tt
