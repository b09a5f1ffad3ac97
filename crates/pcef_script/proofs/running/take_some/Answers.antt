use Rattle.std.proofs.Common.{◌+◌, ◌++◌, ◌<◌, arith, drop, get_or, length, subst, take}
use Rattle.std.proofs.lemmas.Result.{err_from_is_err_and}
use Rattle.pcef_script.specs.Running.{IsAfter}
use Rattle.pcef_script.specs.Scripts.{last_line}
use Rattle.pcef_script.proofs.ScriptSteps.{around, kept_now, one_on, ran_on}
use Rattle.pcef_script.proofs.running.take_some.Goals as goal

pub returns-then-taken-bytes-clause-ok : goal.returns-then-taken-bytes-clause-ok
returns-then-taken-bytes-clause-ok g c = λ p start input h.
    let script = c.args.script.now in
    let own = c.take_plain-taken.ensures in
    ran_on p start (g.W.Write.contents c.args.writer.now) script.line c.take_plain-taken.new.self script.faults script.world input c.args.bytes.now c.take_plain-taken.result h
    own.within own.plain own.most (own.line (last_line input) (kept_now script.line input h.kept))

pub returns-in_err-take_byte-clause-err : goal.returns-in_err-take_byte-clause-err
returns-in_err-take_byte-clause-err g c = λ p start input h.
    let q = err_from_is_err_and c.from_residual.result c.from_residual.ensures.1 in
    let script = c.args.script.now in
    let own = c.take_plain-taken.ensures in
    let s = c.args.bytes.now in
    let n = c.take_plain-taken.result in
    let after = ran_on p start (g.W.Write.contents c.args.writer.now) script.line c.take_plain-taken.new.self script.faults script.world input s n h
    own.within own.plain own.most (own.line (last_line input) (kept_now script.line input h.kept)) in
    let lt : n < length s = omega (arith, own.within, c.if-taken-bytes.false) in
    rw (q.1, q.2) (take n s, get_or s n 0, drop (n + 1) s, around s n lt, c.in_err-take_byte.ensures.err p start (input ++ take n s) after)

pub returns-clause-ok : goal.returns-clause-ok
returns-clause-ok g c = λ p start input h.
    let script = c.args.script.now in
    let own = c.take_plain-taken.ensures in
    let s = c.args.bytes.now in
    let n = c.take_plain-taken.result in
    let after = ran_on p start (g.W.Write.contents c.args.writer.now) script.line c.take_plain-taken.new.self script.faults script.world input s n h
    own.within own.plain own.most (own.line (last_line input) (kept_now script.line input h.kept)) in
    let lt : n < length s = omega (arith, own.within, c.if-taken-bytes.false) in
    let now = c.take_byte.new.script in
    subst (IsAfter p start (g.W.Write.contents c.take_byte.new.writer) now.line now.faults now.world) (one_on input s n lt) (c.in_ok-take_byte.ensures.ok p start (input ++ take n s) after)
