-- What is due to a line, by whether it is UTF-8, and the answer to what is due.
use Rattle.std.proofs.Common.{◌≡◌, ◌∙◌, ap, ℕ, Bool, true, false, List, inl, inr, refl}
use Rattle.std.proofs.lemmas.Result.{IfOk-weaker}
use Rattle.std.specs.Prelude.{◌≢◌, Some, String, Result, Ok, Err, IfOk, OnErr, string_bytes}
use Rattle.std.specs.declared.alloc.Global.{Global}
use Rattle.std.specs.declared.alloc.AllocError.{AllocError}
use Rattle.std.specs.Str.{IsUtf8, is_utf8}
use Rattle.std.proofs.lemmas.Str.{IsUtf8-from_is_utf8, is_utf8-from_IsUtf8}
use Rattle.pcef_model.specs.declared.step.Step.{Step}
use Rattle.pcef_model.specs.Setting.{Setting}
use Rattle.pcef_model.specs.Entries.{Journal}
use Rattle.pcef_model.specs.Journals.{gen}
use Rattle.pcef_line.specs.declared.line.Line.{Line}
use Rattle.pcef_line.specs.declared.line.Line.TheVariants as line
use Rattle.pcef_line.specs.declared.fault.LineFault.{LineFault}
use Rattle.pcef_line.specs.declared.fault.LineFault.TheVariants.{NoMemory, NotUtf8}
use Rattle.pcef_line.specs.LineOf.{LineOf}
use Rattle.pcef_line.specs.LineValues.{Gives}
use Rattle.pcef_script.specs.declared.step.LineAnswer.{LineAnswer}
use Rattle.pcef_script.specs.ScriptAnswers.{AnswersAs, AnswersDue, DoesLine, DueWithin, IsDoneOrNot, IsDue}
use Rattle.pcef_answer.specs.StepAnswers.{reply_text}
use Rattle.pcef_world.specs.Steps.{Reply, Standing, standing_of, step_outcome}
use Rattle.pcef_world.specs.Worlds.{World}

pub text_due : (line : List ℕ) (due : Result Line LineFault) → IsUtf8 line → LineOf line due → DueWithin (Some line) due
text_due line due holds read = rw (is_utf8-from_IsUtf8 line holds) read

other_by : (line : List ℕ) (test : Bool) → is_utf8 line ≡ test → ¬ (IsUtf8 line) → DueWithin (Some line) (Err NotUtf8)
other_by line true is isnt = absurd (isnt (IsUtf8-from_is_utf8 line is))
other_by line false is isnt = rw is refl

pub other_due : (line : List ℕ) → ¬ (IsUtf8 line) → DueWithin (Some line) (Err NotUtf8)
other_due line isnt = other_by line (is_utf8 line) refl isnt

-- the answer to what is due is one to the line
pub due_answered : (r : Result LineAnswer AllocError) (Due More : Result Line LineFault → Type 0) (p : Setting) (s t : Standing) → ((due : Result Line LineFault) → Due due → More due)
    → IfOk r (λ a. AnswersDue Due p s (string_bytes a.text) a.is_fault t) → IfOk r (λ a. AnswersDue More p s (string_bytes a.text) a.is_fault t)
due_answered r Due More p s t more told = IfOk-weaker r _ _ (λ a known. (known.0, more known.0 known.1, known.2)) told

pub fault_answered : (r : Result LineAnswer AllocError) (Due : Result Line LineFault → Type 0) (p : Setting) (s : Standing) (fault : LineFault) → Due (Err fault)
    → IfOk r (λ a. AnswersAs p s (Err fault) (string_bytes a.text) a.is_fault s) → IfOk r (λ a. AnswersDue Due p s (string_bytes a.text) a.is_fault s)
fault_answered r Due p s fault is told = IfOk-weaker r _ _ (λ a known. (Err fault, is, known)) told

-- a line that was read is what is due
pub line_answered : (r : Result LineAnswer AllocError) (p : Setting) (s t : Standing) (text : List ℕ) (line : Line) → (due : Result Line LineFault) × LineOf text due × Gives (λ l. l) (Ok line) due
    → IfOk r (λ a. DoesLine p s line (string_bytes a.text) t) → IfOk r (λ a. a.is_fault ≡ false) → IfOk r (λ a. AnswersDue (LineOf text) p s (string_bytes a.text) a.is_fault t)
line_answered (Ok a) p s t text line read steps counts = (read.0, read.1, rw read.2 (steps, counts))
line_answered (Err e) p s t text line read steps counts = tt

-- what a line asks for is done
pub line_done : (r : Result LineAnswer AllocError) (p : Setting) (s t : Standing) (line : Line)
    → IfOk r (λ a. DoesLine p s line (string_bytes a.text) t) → IfOk r (λ a. a.is_fault ≡ false) → IfOk r (λ a. AnswersAs p s (Ok line) (string_bytes a.text) a.is_fault t)
line_done (Ok a) p s t line steps counts = (steps, counts)
line_done (Err e) p s t line steps counts = tt

-- a reader's fault that isn't out of memory is the line's first fault
pub fault_read : (r : Result LineAnswer AllocError) (p : Setting) (s : Standing) (text : List ℕ) (fault : LineFault) → (due : Result Line LineFault) × LineOf text due × Gives (λ l. l) (Err fault) due
    → IfOk r (λ a. (fault ≢ NoMemory) × AnswersAs p s (Err fault) (string_bytes a.text) a.is_fault s) → IfOk r (λ a. AnswersDue (LineOf text) p s (string_bytes a.text) a.is_fault s)
fault_read r p s text fault (due, read, inl none) told = IfOk-weaker r _ _ (λ a known. absurd (known.0 none)) told
fault_read r p s text fault (due, read, inr is) told = IfOk-weaker r _ _ (λ a known. (due, read, rw is known.1)) told

-- the answer to a step that was made is the one that is due
pub step_told : (r : Result (String Global) AllocError) (w : World) (j : Journal) (generation : ℕ) (reply : Reply) (due : Reply × Standing) → j ≡ w.session.journal → generation ≡ gen w.session.journal
    → reply ≡ due.0 → standing_of w ≡ due.1 → IfOk r (λ text. string_bytes text ≡ reply_text j generation reply) → IfOk r (λ text. IsDue due (string_bytes text) (standing_of w))
step_told r w j generation reply due journal_is generation_is replied stands told =
    IfOk-weaker r _ _ (λ text is. (
      is ∙ ap (λ l. reply_text l generation reply) journal_is ∙ ap (λ n. reply_text w.session.journal n reply) generation_is
          ∙ ap (reply_text w.session.journal (gen w.session.journal)) replied ∙ ap (λ (s : Standing). reply_text s.journal (gen s.journal) due.0) stands,
      stands,
    )) told

-- ---- want of memory
pub lacking : {A E P : Type 0} (r : Result A E) → P → OnErr r P
lacking (Ok a) known = tt
lacking (Err e) known = known

pub done_more : (A B : List ℕ → Bool → Standing → Type 0) (s t : Standing) → ((text : List ℕ) (at_fault : Bool) → A text at_fault t → B text at_fault t) → IsDoneOrNot A s t → IsDoneOrNot B s t
done_more A B s t more (inl same) = inl same
done_more A B s t more (inr done) = inr (record { text = done.text; at_fault = done.at_fault; answer = more done.text done.at_fault done.answer })

-- a step that was made
pub step_done : (p : Setting) (s t : Standing) (step : Step) → t ≡ (step_outcome p s step).1 → IsDoneOrNot (AnswersAs p s (Ok (line.Step step))) s t
step_done p s t step is =
    let due = step_outcome p s step in
    inr (record { text = reply_text due.1.journal (gen due.1.journal) due.0; at_fault = false; answer = ((refl, is), refl) })

-- a line that was read
pub line_lacks : (p : Setting) (s t : Standing) (text : List ℕ) (l : Line) → (due : Result Line LineFault) × LineOf text due × Gives (λ l. l) (Ok l) due
    → IsDoneOrNot (AnswersAs p s (Ok l)) s t → IsDoneOrNot (AnswersDue (LineOf text) p s) s t
line_lacks p s t text l read known = done_more _ _ s t (λ text at_fault answer. (read.0, read.1, rw read.2 answer)) known

-- what is due is due to more
pub due_lacks : (Due More : Result Line LineFault → Type 0) (p : Setting) (s t : Standing) → ((due : Result Line LineFault) → Due due → More due) → IsDoneOrNot (AnswersDue Due p s) s t → IsDoneOrNot (AnswersDue More p s) s t
due_lacks Due More p s t more known = done_more _ _ s t (λ text at_fault answer. (answer.0, more answer.0 answer.1, answer.2)) known
