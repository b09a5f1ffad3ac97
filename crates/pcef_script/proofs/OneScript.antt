-- Two outputs of the same lines are equal.
use Rattle.std.proofs.Common.{◌≡◌, ◌∙◌, ℕ, ◌+◌, Bool, true, false, List, [], ◌∷◌, ◌++◌, sym, ap, Option, Some, None, Result, Ok, Err}
use Rattle.std.specs.Str.{is_utf8}
use Rattle.pcef_model.specs.Setting.{Setting}
use Rattle.pcef_world.specs.Steps.{Standing}
use Rattle.pcef_line.specs.declared.line.Line.{Line}
use Rattle.pcef_line.specs.declared.line.Line.TheVariants as line
use Rattle.pcef_line.specs.declared.fault.LineFault.{LineFault}
use Rattle.pcef_line.proofs.LineLaws.{due_once}
use Rattle.pcef_answer.proofs.OneShow.{one_show}
use Rattle.pcef_script.specs.ScriptAnswers.{Answers, AnswersAs, AnswersLine, DoesLine, DueWithin, TextDue, fault_count}
use Rattle.pcef_script.specs.ScriptLines.{within_limit}

one_text : (utf8 : Bool) (text : List ℕ) (d e : Result Line LineFault) → TextDue utf8 text d → TextDue utf8 text e → d ≡ e
one_text true text d e is also = due_once text d e is also
one_text false text d e is also = is ∙ sym also

one_due : (o : Option (List ℕ)) (d e : Result Line LineFault) → DueWithin o d → DueWithin o e → d ≡ e
one_due None d e is also = is ∙ sym also
one_due (Some text) d e is also = one_text (is_utf8 text) text d e is also

one_doing : (p : Setting) (before : Standing) (l : Line) (a b : List ℕ) (after other : Standing) → DoesLine p before l a after → DoesLine p before l b other → (a ≡ b) × (after ≡ other)
one_doing p before (line.Step s) a b after other is also = (is.0 ∙ sym also.0, is.1 ∙ sym also.1)
one_doing p before line.Show a b after other is also = (one_show p before.journal a b is.0 also.0, is.1 ∙ sym also.1)

one_answer : (p : Setting) (before : Standing) (due : Result Line LineFault) (a b : List ℕ) (m n : Bool) (after other : Standing) →
    AnswersAs p before due a m after → AnswersAs p before due b n other → (a ≡ b) × (m ≡ n) × (after ≡ other)
one_answer p before (Ok l) a b m n after other is also =
    let both = one_doing p before l a b after other is.0 also.0 in (both.0, is.1 ∙ sym also.1, both.1)
one_answer p before (Err fault) a b m n after other is also = (is.0 ∙ sym also.0, is.1 ∙ sym also.1, is.2 ∙ sym also.2)

one_line : (p : Setting) (before : Standing) (l a b : List ℕ) (m n : Bool) (after other : Standing) →
    AnswersLine p before l a m after → AnswersLine p before l b n other → (a ≡ b) × (m ≡ n) × (after ≡ other)
one_line p before l a b m n after other (d, is_due, is) (e, due_too, also) =
    one_answer p before d a b m n after other is (rw (one_due (within_limit l) d e is_due due_too) also)

pub one_script : (p : Setting) (before : Standing) (lines : List (List ℕ)) (a b : List ℕ) (m n : ℕ) (after other : Standing) →
    Answers p before lines a m after → Answers p before lines b n other → (a ≡ b) × (m ≡ n) × (after ≡ other)
one_script p before [] a b m n after other is also = (is.0 ∙ sym also.0, is.1 ∙ sym also.1, is.2 ∙ sym also.2)
one_script p before (l ∷ lines) a b m n after other (first, rest, fault, others, between, answers, go_on, a_is, m_is) (first', rest', fault', others', between', answers', go_on', b_is, n_is) =
    let head = one_line p before l first first' fault fault' between between' answers answers' in
    let tail = one_script p between lines rest rest' others others' after other go_on (rw head.2 go_on') in (
      a_is ∙ ap (λ text. (text ++ 10 ∷ []) ++ rest) head.0 ∙ ap (λ text. (first' ++ 10 ∷ []) ++ text) tail.0 ∙ sym b_is,
      m_is ∙ ap (λ at_fault. fault_count at_fault + others) head.1 ∙ ap (λ count. fault_count fault' + count) tail.1 ∙ sym n_is,
      tail.2,
    )
