-- What is answered to the lines of a script (own choice).
use Rattle.std.specs.Prelude.{ℕ, ◌≡◌, ◌⊎◌, ◌+◌, Bool, true, false, not, List, [], ◌∷◌, ◌++◌, Option, Some, None, Result, Ok, Err, filter, if◌then◌else◌}
use Rattle.std.specs.Str.{is_utf8}
use Rattle.pcef_model.specs.Setting.{Setting}
use Rattle.pcef_model.specs.Journals.{gen}
use Rattle.pcef_world.specs.Steps.{Reply, Standing, step_outcome}
use Rattle.pcef_line.specs.declared.line.Line.{Line}
use Rattle.pcef_line.specs.declared.line.Line.TheVariants.{Show}
use Rattle.pcef_line.specs.declared.line.Line.TheVariants as line
use Rattle.pcef_line.specs.declared.fault.LineFault.{LineFault}
use Rattle.pcef_line.specs.declared.fault.LineFault.TheVariants.{LineTooLong, NotUtf8}
use Rattle.pcef_answer.specs.FaultAnswers.{fault_text}
use Rattle.pcef_line.specs.LineOf.{LineOf}
use Rattle.pcef_script.specs.ScriptLines.{is_blank_line, within_limit}
use Rattle.pcef_answer.specs.ShowAnswers.{ShowsJournal}
use Rattle.pcef_answer.specs.StepAnswers.{reply_text}

-- ---- what a line asks for is done
-- a step is made, and this text is its answer; out of memory is no answer, but ends the script
abbrev pub IsDue : Reply × Standing → List ℕ → Standing → Type 0
IsDue due text after = (text ≡ reply_text due.1.journal (gen due.1.journal) due.0) × (after ≡ due.1)

-- `show` changes nothing
abbrev pub DoesLine : Setting → Standing → Line → List ℕ → Standing → Type 0
DoesLine p before (line.Step s) text after = IsDue (step_outcome p before s) text after
DoesLine p before Show text after = ShowsJournal p before.journal text × (after ≡ before)

-- ---- lines
-- what is due to a line: what it asks for, or its first fault. A line within the limit is UTF-8 (RFC 3629).
abbrev pub TextDue : Bool → List ℕ → Result Line LineFault → Type 0
TextDue true line due = LineOf line due
TextDue false line due = due ≡ Err NotUtf8

abbrev pub DueWithin : Option (List ℕ) → Result Line LineFault → Type 0
DueWithin None due = due ≡ Err LineTooLong
DueWithin (Some line) due = TextDue (is_utf8 line) line due

abbrev pub LineDue : List ℕ → Result Line LineFault → Type 0
LineDue line due = DueWithin (within_limit line) due

-- a line at fault changes nothing
abbrev pub AnswersAs : Setting → Standing → Result Line LineFault → List ℕ → Bool → Standing → Type 0
AnswersAs p before (Ok line) text at_fault after = DoesLine p before line text after × (at_fault ≡ false)
AnswersAs p before (Err fault) text at_fault after = (text ≡ fault_text fault) × (at_fault ≡ true) × (after ≡ before)

abbrev pub AnswersDue : (Result Line LineFault → Type 0) → Setting → Standing → List ℕ → Bool → Standing → Type 0
AnswersDue Due p before text at_fault after = (due : Result Line LineFault) × Due due × AnswersAs p before due text at_fault after

-- the answer to a line, whether the line is at fault, and how the session stands after it
abbrev pub AnswersLine : Setting → Standing → List ℕ → List ℕ → Bool → Standing → Type 0
AnswersLine p before line text at_fault after = AnswersDue (LineDue line) p before text at_fault after

-- ---- want of memory
-- a line is done: it would have this answer, and all stands as after it
pub record IsDone {S : Type 0} (Answer : List ℕ → Bool → S → Type 0) (after : S) : Type 0 where
  pub text : List ℕ
  pub at_fault : Bool
  pub answer : Answer text at_fault after

-- memory was lacking for a line: all stands as before, or the line is done, and its answer alone is lacking
abbrev pub IsDoneOrNot : {S : Type 0} → (List ℕ → Bool → S → Type 0) → S → S → Type 0
IsDoneOrNot Answer before after = (after ≡ before) ⊎ IsDone Answer after

-- memory is never lacking for a blank line
abbrev pub LacksForLine : Setting → Standing → List ℕ → Standing → Type 0
LacksForLine p before line after = (is_blank_line line ≡ false) × IsDoneOrNot (AnswersLine p before line) before after

-- ---- many lines
-- the lines that get an answer
abbrev pub answered : List (List ℕ) → List (List ℕ)
answered lines = filter (λ line. not (is_blank_line line)) lines

abbrev pub fault_count : Bool → ℕ
fault_count at_fault = if at_fault then 1 else 0

-- the answers to lines, each ended by a line feed, one after the other, and how many lines are at fault
abbrev pub Answers : Setting → Standing → List (List ℕ) → List ℕ → ℕ → Standing → Type 0
Answers p before [] text faults after = (text ≡ []) × (faults ≡ 0) × (after ≡ before)
Answers p before (line ∷ lines) text faults after =
    (first rest : List ℕ) × (at_fault : Bool) × (others : ℕ) × (between : Standing)
    × AnswersLine p before line first at_fault between × Answers p between lines rest others after
    × (text ≡ (first ++ 10 ∷ []) ++ rest) × (faults ≡ fault_count at_fault + others)
