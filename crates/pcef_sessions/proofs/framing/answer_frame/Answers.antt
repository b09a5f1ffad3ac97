use Rattle.std.proofs.lemmas.Result.{err_from_is_err_and}
use Rattle.pcef_sessions.specs.Frames.{meaning}
use Rattle.pcef_sessions.specs.Sayings.{said_of}
use Rattle.pcef_sessions.proofs.Wovens.{one_fails, one_woven, wrote_woven}
use Rattle.pcef_sessions.proofs.framing.answer_frame.Goals as goal

pub returns-in-Err-clause-err : goal.returns-in-Err-clause-err
returns-in-Err-clause-err g c = λ p meant start h.
    let f = c.args.framing.now in
    (f.any_fault, wrote_woven p meant start (g.W.Write.contents c.args.writer.now) f.sessions f.any_fault h)

pub returns-in_err-write_named-in-Ok-clause-err : goal.returns-in_err-write_named-in-Ok-clause-err
returns-in_err-write_named-in-Ok-clause-err g c = λ p meant start h.
    let q = err_from_is_err_and c.from_residual.result c.from_residual.ensures.1 in
    let contents = g.W.Write.contents in
    let f = c.args.framing.now in
    let front = c.in_err-write_named-in-Ok.ensures.front in
    rw (q.1, q.2, front.0) (one_fails p meant start (contents c.args.writer.now) (contents c.write_named.new.writer) f.sessions c.answer_frame.new.self f.any_fault (meaning c.args.frame.now) (said_of c.in-Ok.named) h c.in-Ok.ensures.answer front.1)

pub returns-in_ok-write_named-in-Ok-clause-ok : goal.returns-in_ok-write_named-in-Ok-clause-ok
returns-in_ok-write_named-in-Ok-clause-ok g c = λ p meant start h.
    let contents = g.W.Write.contents in
    let f = c.args.framing.now in
    one_woven p meant start (contents c.args.writer.now) (contents c.write_named.new.writer) f.sessions c.answer_frame.new.self f.any_fault c.either-framing.result (meaning c.args.frame.now) (said_of c.in-Ok.named) h
    c.in-Ok.ensures.answer c.in-Ok.ensures.fixed c.either-framing.ensures c.in_ok-write_named-in-Ok.ensures.all
