use Rattle.std.proofs.Common.{◌≡◌, ◌∙◌, false, true, string_bytes, sym}
use Rattle.std.proofs.KnownBytes.{Appends-nil}
use Rattle.pcef_script.specs.ScriptLines.{is_blank_line}
use Rattle.pcef_script.proofs.Answering.{answers_same, blank_ends, told_ends, told_fails}
use Rattle.pcef_script.proofs.running.end_line.Goals as goal

pub returns-then-is_blank-clause-ok : goal.returns-then-is_blank-clause-ok
returns-then-is_blank-clause-ok g c = λ whole kept few.
    let world = c.args.script.now.world in
    let blank : is_blank_line whole ≡ true = sym (c.is_blank.ensures whole kept) ∙ c.if-is_blank.true in
    blank_ends world.session.setting world whole c.args.script.now.faults (g.W.Write.contents c.args.writer.now) blank

pub returns-in-Ok-clause-ok : goal.returns-in-Ok-clause-ok
returns-in-Ok-clause-ok g c = λ whole kept few.
    let world = c.args.script.now.world in
    let contents = g.W.Write.contents in
    let filled : is_blank_line whole ≡ false = sym (c.is_blank.ensures whole kept) ∙ c.if-is_blank.false in
    told_ends c.write_and_count.result world.session.setting world c.answer_of.new.world whole (string_bytes c.in-Ok.answer.text) c.in-Ok.answer.is_fault c.args.script.now.faults
    (contents c.args.writer.now) (contents c.write_and_count.new.writer) filled (answers_same c.forget.new.self world c.answer_of.new.world whole (string_bytes c.in-Ok.answer.text) c.in-Ok.answer.is_fault c.forget.ensures.setting c.forget.ensures.standing (c.in-Ok.ensures.answer whole kept)) (c.write_and_count.ensures.count few) c.write_and_count.ensures.all

pub returns-in-Ok-clause-err : goal.returns-in-Ok-clause-err
returns-in-Ok-clause-err g c = λ whole kept.
    let world = c.args.script.now.world in
    let contents = g.W.Write.contents in
    let filled : is_blank_line whole ≡ false = sym (c.is_blank.ensures whole kept) ∙ c.if-is_blank.false in
    told_fails c.write_and_count.result world.session.setting world c.answer_of.new.world whole (string_bytes c.in-Ok.answer.text) c.in-Ok.answer.is_fault
    (contents c.args.writer.now) (contents c.write_and_count.new.writer) filled (answers_same c.forget.new.self world c.answer_of.new.world whole (string_bytes c.in-Ok.answer.text) c.in-Ok.answer.is_fault c.forget.ensures.setting c.forget.ensures.standing (c.in-Ok.ensures.answer whole kept)) c.write_and_count.ensures.front

pub returns-in-Err-clause-err : goal.returns-in-Err-clause-err
returns-in-Err-clause-err g c = λ whole kept. Appends-nil (g.W.Write.contents c.args.writer.now)
