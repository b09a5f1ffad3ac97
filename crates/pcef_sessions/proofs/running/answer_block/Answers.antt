use Rattle.pcef_sessions.proofs.Servings.{flush_fails, flushed}
use Rattle.pcef_sessions.proofs.running.answer_block.Goals as goal

pub returns-in-Ok-clause-ok : goal.returns-in-Ok-clause-ok
returns-in-Ok-clause-ok g c = λ p start input h.
    let contents = g.W.Write.contents in
    let s = c.take_block.new.serving in
    flushed p start (contents c.take_block.new.writer) (contents c.flush.new.self) s.line.items s.sessions s.any_fault _ (c.in_ok-take_block.ensures.ok p start input h) c.flush.ensures.bytes

pub returns-in-Err-clause-err : goal.returns-in-Err-clause-err
returns-in-Err-clause-err g c = λ p start input h.
    let contents = g.W.Write.contents in
    let s = c.take_block.new.serving in
    flush_fails p start (contents c.take_block.new.writer) (contents c.flush.new.self) s.line.items s.sessions s.any_fault input c.args.block.now
    (c.in_ok-take_block.ensures.ok p start input h) c.flush.ensures.bytes
