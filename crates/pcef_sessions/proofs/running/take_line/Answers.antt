use Rattle.std.proofs.Common.{◌++◌, ◌∷◌, [], append_assoc, subst}
use Rattle.std.proofs.lemmas.Result.{err_from_is_err_and}
use Rattle.pcef_sessions.specs.private.Running.{IsAfter}
use Rattle.pcef_sessions.proofs.Servings.{line_ends, runs_on, stopped_at, stopped_first}
use Rattle.pcef_sessions.proofs.running.take_line.Goals as goal

pub returns-in_err-keep-clause-err : goal.returns-in_err-keep-clause-err
returns-in_err-keep-clause-err g c = λ p start input h.
    let q = err_from_is_err_and c.from_residual.result c.from_residual.ensures.1 in
    let s = c.args.serving.now in
    rw (q.1, q.2, c.in_err-keep.ensures.err) (stopped_first p start (g.W.Write.contents c.args.writer.now) s.line.items s.sessions s.any_fault input (c.args.bytes.now ++ 10 ∷ []) h)

pub returns-in_err-end_line-clause-err : goal.returns-in_err-end_line-clause-err
returns-in_err-end_line-clause-err g c = λ p start input h.
    let q = err_from_is_err_and c.from_residual-in_err-end_line.result c.from_residual-in_err-end_line.ensures.1 in
    let contents = g.W.Write.contents in
    let s = c.args.serving.now in
    let bytes = c.args.bytes.now in
    let after = runs_on p start (contents c.args.writer.now) s.line.items c.keep.new.line.items s.sessions s.any_fault input bytes h c.requires c.in_ok-keep.ensures.ok in
    rw (q.1, q.2) (stopped_at p c.in_err-end_line.field-0.0 start (contents c.end_line.new.writer) input bytes c.requires (c.in_err-end_line.ensures.err p start (input ++ bytes) after))

pub returns-clause-ok : goal.returns-clause-ok
returns-clause-ok g c = λ p start input h.
    let contents = g.W.Write.contents in
    let s = c.args.serving.now in
    let bytes = c.args.bytes.now in
    let after = runs_on p start (contents c.args.writer.now) s.line.items c.keep.new.line.items s.sessions s.any_fault input bytes h c.requires c.in_ok-keep.ensures.ok in
    let ended = c.in_ok-end_line.ensures.ok p start (input ++ bytes) after in
    let now = c.end_line.new.serving in
    subst (IsAfter p start (contents c.end_line.new.writer) c.clear.new.self.items now.sessions now.any_fault) (append_assoc input bytes (10 ∷ []))
    (line_ends p start (contents c.end_line.new.writer) c.clear.new.self.items now.sessions now.any_fault (input ++ bytes) ended c.clear.ensures.items)
