use Rattle.std.proofs.Common.{◌∙◌, sym}
use Rattle.pcef_script.proofs.ScriptSteps.{flush_fails}
use Rattle.pcef_script.proofs.running.answer_block.Goals as goal

pub returns-in-Err-clause-err : goal.returns-in-Err-clause-err
returns-in-Err-clause-err g c = λ p start input h.
    let contents = g.W.Write.contents in
    let script = c.take_block.new.script in
    flush_fails p start (contents c.take_block.new.writer) (contents c.flush.new.self) script.line script.faults script.world input c.args.block.now
    (c.in_ok-take_block.ensures.ok p start input h) c.flush.ensures.bytes (sym c.has_feed.ensures ∙ c.if-not-has_feed.false)
