use Rattle.std.proofs.Common.{◌≡◌, ◌∙◌, List, ap, false, subst, sym, true, ℕ}
use Rattle.std.proofs.lemmas.Result.{err_from_is_err_and}
use Rattle.pcef_script.specs.ScriptAnswers.{answered}
use Rattle.pcef_script.specs.ScriptLines.{is_blank_line}
use Rattle.pcef_script.specs.Scripts.{ended_lines}
use Rattle.pcef_sessions.specs.Addressed.{addressed}
use Rattle.pcef_sessions.specs.Sayings.{SaysTo, said_of}
use Rattle.pcef_sessions.specs.Standing.{fixed, held}
use Rattle.pcef_sessions.proofs.Servings.{blank_ends, told_ends, told_fails, wrote}
use Rattle.pcef_sessions.proofs.running.end_line.Goals as goal

pub returns-then-is_blank-clause-ok : goal.returns-then-is_blank-clause-ok
returns-then-is_blank-clause-ok g c = λ p start input h.
    let s = c.args.serving.now in
    let blank : is_blank_line s.line.items ≡ true = ap is_blank_line (sym c.deref.ensures.value) ∙ sym c.is_blank.ensures ∙ c.if-is_blank.true in
    blank_ends p start (g.W.Write.contents c.args.writer.now) s.line.items s.sessions s.any_fault input h blank

pub returns-in-Err-clause-err : goal.returns-in-Err-clause-err
returns-in-Err-clause-err g c = λ p start input h.
    let s = c.args.serving.now in
    (s.any_fault, wrote p (answered (ended_lines input)) start (g.W.Write.contents c.args.writer.now) s.sessions s.any_fault h.has_said)

pub returns-in_err-write_named-in-Ok-clause-err : goal.returns-in_err-write_named-in-Ok-clause-err
returns-in_err-write_named-in-Ok-clause-err g c = λ p start input h.
    let q = err_from_is_err_and c.from_residual.result c.from_residual.ensures.1 in
    let contents = g.W.Write.contents in
    let s = c.args.serving.now in
    let new = c.answer.new.self in
    let told = c.in-Ok.named in
    let f = c.in_err-write_named-in-Ok.ensures.front in
    let filled : is_blank_line s.line.items ≡ false = ap is_blank_line (sym c.deref.ensures.value) ∙ sym c.is_blank.ensures ∙ c.if-is_blank.false in
    let says = subst (λ (l : List ℕ). SaysTo (fixed s.sessions) (held s.sessions) (addressed l) (said_of told) (held new)) c.deref-2.ensures.value c.in-Ok.ensures.answer in
    rw (q.1, q.2, f.0) (told_fails p start (contents c.args.writer.now) (contents c.write_named.new.writer) s.line.items s.sessions new s.any_fault input (said_of told) h filled says f.1)

pub returns-in_ok-write_named-in-Ok-clause-ok : goal.returns-in_ok-write_named-in-Ok-clause-ok
returns-in_ok-write_named-in-Ok-clause-ok g c = λ p start input h.
    let contents = g.W.Write.contents in
    let s = c.args.serving.now in
    let new = c.answer.new.self in
    let told = c.in-Ok.named in
    let filled : is_blank_line s.line.items ≡ false = ap is_blank_line (sym c.deref.ensures.value) ∙ sym c.is_blank.ensures ∙ c.if-is_blank.false in
    let says = subst (λ (l : List ℕ). SaysTo (fixed s.sessions) (held s.sessions) (addressed l) (said_of told) (held new)) c.deref-2.ensures.value c.in-Ok.ensures.answer in
    told_ends p start (contents c.args.writer.now) (contents c.write_named.new.writer) s.line.items s.sessions new s.any_fault c.either-serving.result input (said_of told) h filled says c.in-Ok.ensures.fixed c.either-serving.ensures
    c.in_ok-write_named-in-Ok.ensures.all
