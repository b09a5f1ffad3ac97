-- The findings of a world that plays lines: for private clauses.
use Rattle.std.specs.Prelude.{ℕ, ◌≡◌, List, Option, Ok, string_bytes}
use Rattle.pcef_model.specs.Journals.{gen}
use Rattle.pcef_model.specs.declared.step.Step.{Step}
use Rattle.pcef_line.specs.declared.line.Line.{Line}
use Rattle.pcef_line.specs.declared.line.Line.TheVariants as line
use Rattle.pcef_line.specs.declared.fault.LineFault.{LineFault}
use Rattle.pcef_answer.specs.FaultAnswers.{fault_text}
use Rattle.pcef_answer.specs.StepAnswers.{reply_text}
use Rattle.pcef_world.specs.Steps.{Standing, reply_of, standing_of}
use Rattle.pcef_world.specs.Worlds.{World}
use Rattle.pcef_world.specs.declared.answer.StepAnswer.{StepAnswer}
use Rattle.pcef_script.specs.Findings.{Finds, FindsDue, FindsLine, IsFindingOf, finding_in}
use Rattle.pcef_script.specs.declared.finding.Finding.{Finding}
use Rattle.pcef_script.specs.declared.finding.Found.TheVariants as found

-- the finding on a fault
abbrev pub IsOfFault : ℕ → LineFault → Finding → Type 0
IsOfFault number f x = (x.line ≡ number) × (x.found ≡ found.Fault f) × (string_bytes x.answer ≡ fault_text f)

-- the finding on an answer, where it refuses
abbrev pub FindsAnswer : World → ℕ → StepAnswer → Option Finding → Type 0
FindsAnswer w number a finding =
    IsFindingOf number (finding_in (reply_of a)) (reply_text w.session.journal (gen w.session.journal) (reply_of a)) finding

-- a world does what a line asks for
abbrev pub PlaysLine : World → ℕ → Line → Option Finding → World → Type 0
PlaysLine before number l finding after = FindsDue before.session.setting (standing_of before) number (Ok l) finding (standing_of after)

abbrev pub PlaysStep : World → ℕ → Step → Option Finding → World → Type 0
PlaysStep before number s finding after = PlaysLine before number (line.Step s) finding after

-- a world does what the bytes of a line ask for
abbrev pub PlaysBytes : World → ℕ → List ℕ → Option Finding → World → Type 0
PlaysBytes before number bytes finding after = FindsLine before.session.setting (standing_of before) number bytes finding (standing_of after)

-- lines one after the other
abbrev pub PlaysLines : World → List (List ℕ) → List Finding → Type 0
PlaysLines before lines findings = (after : Standing) × Finds before.session.setting (standing_of before) 1 lines findings after
