-- What is due to a line, by its length.
use Rattle.std.proofs.Common.{◌<◌, ◌≤◌, ℕ, List, length, refl}
use Rattle.std.proofs.lemmas.Bool.{le-ltb, lt-ltb}
use Rattle.std.specs.Prelude.{Result, Some, Err}
use Rattle.pcef_line.specs.declared.fault.LineFault.{LineFault}
use Rattle.pcef_line.specs.declared.fault.LineFault.TheVariants.{LineTooLong}
use Rattle.pcef_line.specs.declared.line.Line.{Line}
use Rattle.pcef_script.specs.ScriptAnswers.{DueWithin, LineDue}
use Rattle.pcef_script.specs.ScriptLines.{line_most}

pub long_due : (bytes : List ℕ) → line_most < length bytes → LineDue bytes (Err LineTooLong)
long_due bytes long = rw (lt-ltb line_most (length bytes) long) refl

pub within_due : (bytes : List ℕ) (due : Result Line LineFault) → length bytes ≤ line_most → DueWithin (Some bytes) due → LineDue bytes due
within_due bytes due short is = rw (le-ltb line_most (length bytes) short) is
