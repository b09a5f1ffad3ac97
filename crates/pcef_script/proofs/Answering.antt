-- The answers to lines, one after the other, and what of them was written.
use Rattle.std.proofs.Common.{◌≡◌, ℕ, ◌+◌, ◌≤◌, Bool, true, false, List, [], ◌∷◌, ◌++◌, Option, refl, sym, ap, ◌∙◌, subst, append_assoc, append-nil, arith, not}
use Rattle.std.specs.Prelude.{IfErr, IfOk, OnOk, Result, Ok, Err}
use Rattle.std.specs.Io.KnownBytes.{Appends}
use Rattle.std.proofs.KnownBytes.{Appends-nil}
use Rattle.std.proofs.lemmas.List.Elements.{filter-append}
use Rattle.pcef_model.specs.Setting.{Setting}
use Rattle.pcef_world.specs.Worlds.{World}
use Rattle.pcef_script.specs.declared.fault.ScriptFault.{ScriptFault}
use Rattle.pcef_script.specs.declared.fault.ScriptFault.TheVariants as fault
use Rattle.pcef_script.specs.ScriptAnswers.{Answers, AnswersLine, answered, fault_count}
use Rattle.pcef_world.specs.Steps.{Standing, standing_of}
use Rattle.pcef_script.specs.ScriptLines.{is_blank_line}
use Rattle.pcef_base.specs.Writing.{AppendsFront}
use Rattle.pcef_script.specs.Running.{EndFails, EndsLine}

-- ---- lines
pub answered_more : (lines more : List (List ℕ)) → answered (lines ++ more) ≡ answered lines ++ answered more
answered_more lines more = filter-append (λ line. not (is_blank_line line)) lines more

pub answered_blank : (line : List ℕ) → is_blank_line line ≡ true → answered (line ∷ []) ≡ []
answered_blank line blank = rw blank refl

pub answered_one : (line : List ℕ) → is_blank_line line ≡ false → answered (line ∷ []) ≡ line ∷ []
answered_one line filled = rw filled refl

-- the answers to some lines, and then to others
pub answers_more : (p : Setting) (a b c : Standing) (lines more : List (List ℕ)) (x y : List ℕ) (n k : ℕ)
    → Answers p a lines x n b → Answers p b more y k c → Answers p a (lines ++ more) (x ++ y) (n + k) c
answers_more p a b c [] more x y n k h g =
    let moved : Answers p a more y k c = subst (λ s. Answers p s more y k c) h.2 g in
    let count : n + k ≡ k = omega (arith, h.1) in
    rw (h.0, count) moved
answers_more p a b c (line ∷ lines) more x y n k h g =
    let rest = answers_more p h.4 b c lines more h.1 y h.3 k h.6 g in
    let text : x ++ y ≡ (h.0 ++ 10 ∷ []) ++ (h.1 ++ y) = ap (λ t. t ++ y) h.7 ∙ append_assoc (h.0 ++ 10 ∷ []) h.1 y in
    let count : n + k ≡ fault_count h.2 + (h.3 + k) = omega (arith, h.8) in
    (h.0, h.1 ++ y, h.2, h.3 + k, h.4, h.5, rest, text, count)

one_text : (text : List ℕ) → text ++ 10 ∷ [] ≡ (text ++ 10 ∷ []) ++ []
one_text text = sym (append-nil (text ++ 10 ∷ []))

one_count : (n : ℕ) → n ≡ n + 0
one_count n = omega arith

pub one_answer : (p : Setting) (a b : Standing) (line text : List ℕ) (at_fault : Bool) → AnswersLine p a line text at_fault b
    → Answers p a (line ∷ []) (text ++ 10 ∷ []) (fault_count at_fault) b
one_answer p a b line text at_fault h =
    (text, [], at_fault, 0, b, h, (refl, refl, refl), one_text text, one_count (fault_count at_fault))

-- ---- a line that ends
at_most_one : (at_fault : Bool) → fault_count at_fault ≤ 1
at_most_one true = omega arith
at_most_one false = omega arith

pub blank_ends : (p : Setting) (w : World) (line : List ℕ) (faults : ℕ) (a : Option (List ℕ)) → is_blank_line line ≡ true → EndsLine p w w line faults faults a a
blank_ends p w line faults a blank =
    let none : Answers p (standing_of w) [] [] 0 (standing_of w) = (refl, refl, refl) in
    ([], 0, subst (λ lines. Answers p (standing_of w) lines [] 0 (standing_of w)) (sym (answered_blank line blank)) none, omega arith, one_count faults, Appends-nil a)

pub answer_ends : (p : Setting) (v w : World) (line text : List ℕ) (at_fault : Bool) (faults n : ℕ) (a b : Option (List ℕ)) → is_blank_line line ≡ false
    → AnswersLine p (standing_of v) line text at_fault (standing_of w) → n ≡ faults + fault_count at_fault → Appends a b (text ++ 10 ∷ []) → EndsLine p v w line faults n a b
answer_ends p v w line text at_fault faults n a b filled h count wrote =
    let one = one_answer p (standing_of v) (standing_of w) line text at_fault h in (
      text ++ 10 ∷ [],
      fault_count at_fault,
      subst (λ lines. Answers p (standing_of v) lines (text ++ 10 ∷ []) (fault_count at_fault) (standing_of w)) (sym (answered_one line filled)) one,
      at_most_one at_fault,
      count,
      wrote,
    )

-- the answer to a line is that of any world that stands so
pub answers_same : (u v w : World) (line text : List ℕ) (at_fault : Bool) → u.session.setting ≡ v.session.setting → standing_of u ≡ standing_of v
    → AnswersLine u.session.setting (standing_of u) line text at_fault (standing_of w) → AnswersLine v.session.setting (standing_of v) line text at_fault (standing_of w)
answers_same u v w line text at_fault setting standing h =
    subst (λ (p : Setting). AnswersLine p (standing_of v) line text at_fault (standing_of w)) setting
    (subst (λ (s : Standing). AnswersLine u.session.setting s line text at_fault (standing_of w)) standing h)

pub told_ends : (r : Result ℕ ScriptFault) (p : Setting) (v w : World) (line text : List ℕ) (at_fault : Bool) (faults : ℕ) (a b : Option (List ℕ)) → is_blank_line line ≡ false
    → AnswersLine p (standing_of v) line text at_fault (standing_of w) → IfOk r (λ n. n ≡ faults + fault_count at_fault) → OnOk r (Appends a b (text ++ 10 ∷ [])) → IfOk r (λ n. EndsLine p v w line faults n a b)
told_ends (Ok n) p v w line text at_fault faults a b filled h count wrote = answer_ends p v w line text at_fault faults n a b filled h count wrote
told_ends (Err e) p v w line text at_fault faults a b filled h count wrote = tt

pub told_fails : (r : Result ℕ ScriptFault) (p : Setting) (v w : World) (line text : List ℕ) (at_fault : Bool) (a b : Option (List ℕ)) → is_blank_line line ≡ false
    → AnswersLine p (standing_of v) line text at_fault (standing_of w) → IfErr r (λ e. (e ≡ fault.Write) × AppendsFront a b (text ++ 10 ∷ [])) → IfErr r (λ e. EndFails p v line e a b)
told_fails (Ok n) p v w line text at_fault a b filled h f = tt
told_fails (Err e) p v w line text at_fault a b filled h f =
    let one = one_answer p (standing_of v) (standing_of w) line text at_fault h in
    rw f.0 (text ++ 10 ∷ [], fault_count at_fault, standing_of w, subst (λ lines. Answers p (standing_of v) lines (text ++ 10 ∷ []) (fault_count at_fault) (standing_of w)) (sym (answered_one line filled)) one, f.1)
