-- Which lines of a script are answered by a fault or a refusal, and the findings on them (own choice).
use Rattle.std.specs.Prelude.{ℕ, ◌≡◌, ◌⊎◌, ◌+◌, true, false, List, [], ◌∷◌, ◌++◌, Option, Some, None, Result, Ok, Err, string_bytes}
use Rattle.pcef_model.specs.Setting.{Setting}
use Rattle.pcef_model.specs.Refusals.{first_of, open_faults}
use Rattle.pcef_line.specs.declared.line.Line.{Line}
use Rattle.pcef_line.specs.declared.line.Line.TheVariants.{Show}
use Rattle.pcef_line.specs.declared.line.Line.TheVariants as line
use Rattle.pcef_line.specs.declared.fault.LineFault.{LineFault}
use Rattle.pcef_answer.specs.FaultAnswers.{fault_text}
use Rattle.pcef_script.specs.ScriptAnswers.{IsDue, LineDue}
use Rattle.pcef_script.specs.ScriptLines.{is_blank_line}
use Rattle.pcef_world.specs.Steps.{Reply, Standing, abandon_reply, at_start, attach_reply, command_reply, finish_reply, flush_reply, no_worker, refresh_reply, step_outcome, take_reply}
use Rattle.pcef_script.specs.declared.find_fault.FindFault.{FindFault}
use Rattle.pcef_script.specs.declared.find_fault.FindFault.TheVariants as fault
use Rattle.pcef_script.specs.declared.finding.Finding.{Finding}
use Rattle.pcef_script.specs.declared.finding.Found.{Found}
use Rattle.pcef_script.specs.declared.finding.Found.TheVariants as found

-- why a step isn't made, where its reply refuses it
abbrev pub finding_in : Reply → Option Found
finding_in (command_reply (Ok accepted)) = None
finding_in (command_reply (Err refusal)) = Some (found.Command refusal)
finding_in (attach_reply (Ok worker)) = None
finding_in (attach_reply (Err fault)) = Some (found.Attach fault)
finding_in (refresh_reply generation) = None
finding_in (take_reply (Ok waiting)) = None
finding_in (take_reply (Err full)) = Some (found.Take full)
finding_in (flush_reply (Ok answered)) = None
finding_in (flush_reply (Err refusal)) = Some (found.Flush refusal)
finding_in (finish_reply (Ok answered)) = None
finding_in (finish_reply (Err refusal)) = Some (found.Flush refusal)
finding_in (abandon_reply abandoned) = None
finding_in no_worker = Some found.NoWorker

-- the finding on the line of a number, with the script's answer, or none where nothing is found
abbrev pub IsFindingOf : ℕ → Option Found → List ℕ → Option Finding → Type 0
IsFindingOf number None text finding = finding ≡ None
IsFindingOf number (Some f) text finding =
    (x : Finding) × (finding ≡ Some x) × (x.line ≡ number) × (x.found ≡ f) × (string_bytes x.answer ≡ text)

-- a line to which this is due: its step is made as the script makes it, and `show` and a fault change nothing
abbrev pub FindsDue : Setting → Standing → ℕ → Result Line LineFault → Option Finding → Standing → Type 0
FindsDue p before number (Ok (line.Step s)) finding after =
    (text : List ℕ) × IsDue (step_outcome p before s) text after × IsFindingOf number (finding_in (step_outcome p before s).0) text finding
FindsDue p before number (Ok Show) finding after = (finding ≡ None) × (after ≡ before)
FindsDue p before number (Err f) finding after = IsFindingOf number (Some (found.Fault f)) (fault_text f) finding × (after ≡ before)

abbrev pub FindsFilled : Setting → Standing → ℕ → List ℕ → Option Finding → Standing → Type 0
FindsFilled p before number bytes finding after =
    (due : Result Line LineFault) × LineDue bytes due × FindsDue p before number due finding after

-- a line that is blank gets no answer
abbrev pub FindsLine : Setting → Standing → ℕ → List ℕ → Option Finding → Standing → Type 0
FindsLine p before number bytes finding after =
    ((is_blank_line bytes ≡ true) × (finding ≡ None) × (after ≡ before))
    ⊎ ((is_blank_line bytes ≡ false) × FindsFilled p before number bytes finding after)

abbrev pub as_list : Option Finding → List Finding
as_list None = []
as_list (Some x) = x ∷ []

-- lines one after the other, numbered from here on
abbrev pub Finds : Setting → Standing → ℕ → List (List ℕ) → List Finding → Standing → Type 0
Finds p before number [] findings after = (findings ≡ []) × (after ≡ before)
Finds p before number (bytes ∷ lines) findings after =
    (first : Option Finding) × (rest : List Finding) × (between : Standing)
    × FindsLine p before number bytes first between × Finds p between (number + 1) lines rest after × (findings ≡ as_list first ++ rest)

-- all lines, from the start of a session on
abbrev pub FindsAll : Setting → List (List ℕ) → List Finding → Type 0
FindsAll p lines findings = (after : Standing) × Finds p at_start 1 lines findings after

-- the session can't be opened
abbrev pub CantOpen : Setting → FindFault → Type 0
CantOpen p (fault.Profile f) = first_of (open_faults p) ≡ Some f
CantOpen p fault.NoMemory = Unit {0}
