-- The answer to a line, and the world after it: for private clauses.
use Rattle.std.specs.Prelude.{ℕ, ◌≢◌, ◌∷◌, ◌++◌, [], List, Result, Ok, Err, IfOk, string_bytes}
use Rattle.std.specs.declared.alloc.AllocError.{AllocError}
use Rattle.pcef_model.specs.Setting.{Setting}
use Rattle.pcef_model.specs.declared.step.Step.{Step}
use Rattle.pcef_world.specs.Steps.{Standing, standing_of, step_outcome}
use Rattle.pcef_world.specs.Worlds.{World}
use Rattle.pcef_line.specs.declared.line.Line.{Line}
use Rattle.pcef_line.specs.declared.line.Line.TheVariants as line
use Rattle.pcef_line.specs.declared.fault.LineFault.{LineFault}
use Rattle.pcef_line.specs.declared.fault.LineFault.TheVariants.{NoMemory}
use Rattle.pcef_script.specs.declared.step.LineAnswer.{LineAnswer}
use Rattle.pcef_script.specs.ScriptAnswers.{AnswersAs, AnswersDue, AnswersLine, DoesLine, IsDoneOrNot, IsDue}
use Rattle.pcef_script.specs.ScriptLines.{ForLine, KeptLine}

-- the bytes that are written for an answer: its text and a line feed
abbrev pub answer_bytes : LineAnswer → List ℕ
answer_bytes a = string_bytes a.text ++ 10 ∷ []

-- a world makes a step, and this text is the answer that is due
abbrev pub AnswersStep : World → Step → List ℕ → World → Type 0
AnswersStep before step text after =
    IsDue (step_outcome before.session.setting (standing_of before) step) text (standing_of after)

-- a world does what a line asks for, and this text is the answer
abbrev pub DoesWorldLine : World → Line → List ℕ → World → Type 0
DoesWorldLine before line text after = DoesLine before.session.setting (standing_of before) line text (standing_of after)

-- memory is lacking where a line is done, or a step
abbrev pub LineLacks : World → Line → World → Type 0
LineLacks before line after =
    IsDoneOrNot (AnswersAs before.session.setting (standing_of before) (Ok line)) (standing_of before) (standing_of after)

abbrev pub StepLacks : World → Step → World → Type 0
StepLacks before step after = LineLacks before (line.Step step) after

-- and where this is due to a line
abbrev pub LacksBy : (Result Line LineFault → Type 0) → World → World → Type 0
LacksBy Due before after =
    IsDoneOrNot (AnswersDue Due before.session.setting (standing_of before)) (standing_of before) (standing_of after)

-- the answer to a line of which this was read, and the world after it
abbrev pub AnswersRead : Result Line LineFault → World → LineAnswer → World → Type 0
AnswersRead read before a after =
    AnswersAs before.session.setting (standing_of before) read (string_bytes a.text) a.is_fault (standing_of after)

abbrev pub ReadLacks : Result Line LineFault → World → World → Type 0
ReadLacks read before after =
    IsDoneOrNot (AnswersAs before.session.setting (standing_of before) read) (standing_of before) (standing_of after)

-- a fault has the same answer in every world
abbrev pub AnswersFault : LineFault → Result LineAnswer AllocError → Type 0
AnswersFault fault result =
    (p : Setting) (before : Standing) → IfOk result (λ a. AnswersAs p before (Err fault) (string_bytes a.text) a.is_fault before)

-- so is one that is not out of memory
abbrev pub AnswersReadFault : LineFault → Result LineAnswer AllocError → Type 0
AnswersReadFault fault result =
    (p : Setting) (before : Standing) →
    IfOk result (λ a. (fault ≢ NoMemory) × AnswersAs p before (Err fault) (string_bytes a.text) a.is_fault before)

-- the answer to a line to which this is due, and the world after it
abbrev pub AnswersBy : (Result Line LineFault → Type 0) → World → LineAnswer → World → Type 0
AnswersBy Due before a after =
    AnswersDue Due before.session.setting (standing_of before) (string_bytes a.text) a.is_fault (standing_of after)

-- the answer to the line that this is kept of, and the world after it
abbrev pub AnswersKept : KeptLine → World → Result LineAnswer AllocError → World → Type 0
AnswersKept kept before result after =
    ForLine kept (λ line. IfOk result (λ a.
    AnswersLine before.session.setting (standing_of before) line (string_bytes a.text) a.is_fault (standing_of after)))
