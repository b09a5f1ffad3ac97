use Rattle.std.proofs.Common.{◌∙◌, ◌+◌, [], ap, subst}
use Rattle.std.proofs.lemmas.Result.{err_from_is_err_and}
use Rattle.pcef_script.specs.ScriptLines.{KeptLine, kept_of}
use Rattle.pcef_script.specs.Running.{EndFails, EndsLine}
use Rattle.pcef_script.specs.Scripts.{last_line}
use Rattle.pcef_script.proofs.ScriptSteps.{few_faults, goes_on, kept_at, kept_now, line_ends, line_fails, take_fails, took_end, took_plain, was_within}
use Rattle.pcef_script.proofs.running.take_byte.Goals as goal

pub returns-in_err-take-clause-err : goal.returns-in_err-take-clause-err
returns-in_err-take-clause-err g c = λ p start input h.
    let q = err_from_is_err_and c.from_residual.result c.from_residual.ensures.1 in
    let script = c.args.script.now in
    let line = c.in_err-take.ensures.line (last_line input) (kept_now script.line input h.kept) in
    rw (q.1, q.2) (take_fails p start (g.W.Write.contents c.args.writer.now) script.line c.take.new.self script.faults script.world input c.args.byte c.in_err-take.field-0.0 h line c.in_err-take.ensures.much.0)

pub returns-then-not-branch-clause-ok : goal.returns-then-not-branch-clause-ok
returns-then-not-branch-clause-ok g c = λ p start input h.
    let script = c.args.script.now in
    let flag = c.in_ok-take.field-0 in
    let lt = was_within flag script.line input h.kept c.in_ok-take.ensures.much.1 in
    let took = took_plain flag c.args.byte (last_line input) script.line c.take.new.self c.if-not-branch.true (c.in_ok-take.ensures.line (last_line input) (kept_now script.line input h.kept)) in
    goes_on p start (g.W.Write.contents c.args.writer.now) script.line c.take.new.self script.faults script.world input c.args.byte h lt took.0 took.1

pub returns-in_err-script-clause-err : goal.returns-in_err-script-clause-err
returns-in_err-script-clause-err g c = λ p start input h.
    let q = err_from_is_err_and c.from_residual-in_err-script.result c.from_residual-in_err-script.ensures.1 in
    let script = c.args.script.now in
    let contents = g.W.Write.contents in
    let took = took_end c.in_ok-take.field-0 c.args.byte (last_line input) script.line c.take.new.self c.if-not-branch.false (c.in_ok-take.ensures.line (last_line input) (kept_now script.line input h.kept)) in
    let fails = c.in_err-script.ensures.err (last_line input) (kept_at c.take.new.self (last_line input) (script.line.read + 1) took.1) in
    rw (q.1, q.2, took.0) (line_fails p start (contents c.args.writer.now) (contents c.end_line.new.writer) script.line script.faults script.world input c.in_err-script.field-0.0 h
    (subst (λ s. EndFails s script.world (last_line input) c.in_err-script.field-0.0 (contents c.args.writer.now) (contents c.end_line.new.writer)) h.setting fails))

pub returns-clause-ok : goal.returns-clause-ok
returns-clause-ok g c = λ p start input h.
    let script = c.args.script.now in
    let contents = g.W.Write.contents in
    let flag = c.in_ok-take.field-0 in
    let world = c.end_line.new.script.world in
    let old = contents c.args.writer.now in
    let new = contents c.end_line.new.writer in
    let lt = was_within flag script.line input h.kept c.in_ok-take.ensures.much.1 in
    let took = took_end flag c.args.byte (last_line input) script.line c.take.new.self c.if-not-branch.false (c.in_ok-take.ensures.line (last_line input) (kept_now script.line input h.kept)) in
    let few = few_faults p start old script.line script.faults script.world input h in
    let ends = c.in_ok-script.ensures.ok (last_line input) (kept_at c.take.new.self (last_line input) (script.line.read + 1) took.1) few in
    let cleared = c.clear.ensures ∙ ap (λ (k : KeptLine). kept_of [] k.read) c.end_line.ensures.line ∙ ap (kept_of []) (ap (λ (k : KeptLine). k.read) took.1) in
    let setting = (c.end_line.ensures.setting ∙ h.setting) in
    rw took.0 (line_ends p start old new script.line c.clear.new.self script.faults c.in_ok-script.field-0 script.world world input h lt cleared setting
    (subst (λ s. EndsLine s script.world world (last_line input) script.faults c.in_ok-script.field-0 old new) h.setting ends))
