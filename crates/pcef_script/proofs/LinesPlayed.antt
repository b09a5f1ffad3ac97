-- The finding on a line that is played.
use Rattle.std.proofs.Common.{◌≡◌, ◌∙◌, ℕ, List, false, ap, inl, inr, refl, subst}
use Rattle.std.proofs.lemmas.Result.{IfOk-weaker}
use Rattle.std.specs.Prelude.{◌≢◌, Option, Some, Result, Ok, Err, IfOk}
use Rattle.std.specs.declared.alloc.AllocError.{AllocError}
use Rattle.pcef_model.specs.Journals.{gen}
use Rattle.pcef_line.specs.declared.line.Line.{Line}
use Rattle.pcef_line.specs.declared.fault.LineFault.{LineFault}
use Rattle.pcef_line.specs.declared.fault.LineFault.TheVariants.{NoMemory}
use Rattle.pcef_line.specs.LineValues.{Gives}
use Rattle.pcef_answer.specs.StepAnswers.{reply_text}
use Rattle.pcef_script.specs.ScriptAnswers.{IsDue, LineDue}
use Rattle.pcef_script.specs.ScriptLines.{is_blank_line}
use Rattle.pcef_world.specs.Steps.{Reply, Standing, reply_of, standing_of}
use Rattle.pcef_world.specs.Worlds.{World}
use Rattle.pcef_world.specs.declared.answer.StepAnswer.{StepAnswer}
use Rattle.pcef_script.specs.Findings.{IsFindingOf, finding_in}
use Rattle.pcef_script.specs.private.Playing.{IsOfFault, PlaysBytes, PlaysLine, FindsAnswer}
use Rattle.pcef_script.specs.declared.finding.Finding.{Finding}

-- a step that was made
pub step_found : (r : Result (Option Finding) AllocError) (number : ℕ) (w : World) (a : StepAnswer) (due : Reply × Standing) → reply_of a ≡ due.0 → standing_of w ≡ due.1 → IfOk r (FindsAnswer w number a)
    → IfOk r (λ told. (text : List ℕ) × IsDue due text (standing_of w) × IsFindingOf number (finding_in due.0) text told)
step_found r number w a due replied stands told =
    IfOk-weaker r _ _ (λ o known. (
      reply_text w.session.journal (gen w.session.journal) (reply_of a),
      (ap (reply_text w.session.journal (gen w.session.journal)) replied ∙ ap (λ (s : Standing). reply_text s.journal (gen s.journal) due.0) stands, stands),
      subst (λ x. IsFindingOf number (finding_in x) (reply_text w.session.journal (gen w.session.journal) (reply_of a)) o) replied known,
    )) told

-- a line that was read
pub line_played : (r : Result (Option Finding) AllocError) (number : ℕ) (before after : World) (bytes : List ℕ) (line : Line) → is_blank_line bytes ≡ false
    → (due : Result Line LineFault) × LineDue bytes due × Gives (λ l. l) (Ok line) due → IfOk r (λ told. PlaysLine before number line told after) → IfOk r (λ told. PlaysBytes before number bytes told after)
line_played r number before after bytes line filled (due, is, same) told =
    IfOk-weaker r _ _ (λ o known. inr (filled, (Ok line, subst (LineDue bytes) same is, known))) told

-- a line at fault
pub fault_played : (number : ℕ) (w : World) (bytes : List ℕ) (fault : LineFault) (x : Finding) → is_blank_line bytes ≡ false → fault ≢ NoMemory
    → (due : Result Line LineFault) × LineDue bytes due × Gives (λ l. l) (Err fault) due → IsOfFault number fault x → PlaysBytes w number bytes (Some x) w
fault_played number w bytes fault x filled some (due, is, inl none) told = absurd (some none)
fault_played number w bytes fault x filled some (due, is, inr same) (line, found, answer) =
    inr (filled, (Err fault, subst (LineDue bytes) same is, ((x, refl, line, found, answer), refl)))
