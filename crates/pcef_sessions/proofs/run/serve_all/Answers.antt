use Rattle.std.proofs.Common.{◌∙◌, ◌<◌, ◌++◌, [], arith, length, refl, rules, take}
use Rattle.std.proofs.lemmas.Result.{err_from_is_err_and}
use Rattle.std.specs.Io.KnownBytes.{Consumes}
use Rattle.std.proofs.KnownBytes.{Consumes-kept, Consumes-nil, Consumes-trans}
use Rattle.pcef_script.specs.ScriptAnswers.{answered}
use Rattle.pcef_script.specs.Scripts.{all_lines, ended_lines}
use Rattle.pcef_sessions.specs.Standing.{fixed}
use Rattle.pcef_sessions.proofs.Servings.{at_first, end_fails, opened_end, opened_stopped, stopped_in, wrote}
use Rattle.pcef_sessions.proofs.EmptyReads.{read_none}
use Rattle.pcef_sessions.proofs.run.serve_all.Goals as goal

pub loop-init : goal.loop-init
loop-init g c =
    let p = fixed c.args.sessions in
    record {
      input = [];
      read = Consumes-nil (g.R.Read.remaining c.args.reader.now);
      after = at_first p (g.W.Write.contents c.args.writer.now) _ c.args.sessions _ c.new.ensures.items refl refl c.requires;
      room = search rules;
    }

pub returns-in_err-end_line-in-Ok-eq0-clause-opened : goal.returns-in_err-end_line-in-Ok-eq0-clause-opened
returns-in_err-end_line-in-Ok-eq0-clause-opened g c = λ q none.
    let r = err_from_is_err_and c.from_residual.result c.from_residual.ensures.1 in
    let h = c.loop.invariant in
    let p = fixed c.args.sessions in
    let start = g.W.Write.contents c.args.writer.now in
    rw (r.1, r.2) (opened_end p q c.in_err-end_line-in-Ok-eq0.field-0.0 start (g.W.Write.contents c.end_line.new.writer) h.input (c.in_err-end_line-in-Ok-eq0.ensures.err p start h.input h.after) none)

pub returns-in_err-end_line-in-Ok-eq0-clause-answers : goal.returns-in_err-end_line-in-Ok-eq0-clause-answers
returns-in_err-end_line-in-Ok-eq0-clause-answers g c =
    let r = err_from_is_err_and c.from_residual.result c.from_residual.ensures.1 in
    let h = c.loop.invariant in
    let p = fixed c.args.sessions in
    let remaining = g.R.Read.remaining in
    let start = g.W.Write.contents c.args.writer.now in
    let got = c.in-Ok-eq0.ensures.bytes in
    let zero = c.in-Ok-eq0.field-0-test in
    let room : 0 < length c.read_some.new.block = omega (arith, h.room, c.read_some.ensures.room) in
    let all : Consumes (remaining c.args.reader.now) (remaining c.read_some.new.reader) h.input =
    read_none (remaining c.args.reader.now) (remaining c.loop.reader) (remaining c.read_some.new.reader) h.input c.read_some.new.block c.in-Ok-eq0.field-0 zero h.read got.0 in
    rw (r.1, r.2) (
      h.input,
      all,
      end_fails p c.in_err-end_line-in-Ok-eq0.field-0.0 start (g.W.Write.contents c.end_line.new.writer) (remaining c.read_some.new.reader) h.input (got.1 zero room) (c.in_err-end_line-in-Ok-eq0.ensures.err p start h.input h.after),
    )

pub returns-in-Ok-eq0-clause-answers : goal.returns-in-Ok-eq0-clause-answers
returns-in-Ok-eq0-clause-answers g c =
    let h = c.loop.invariant in
    let p = fixed c.args.sessions in
    let remaining = g.R.Read.remaining in
    let start = g.W.Write.contents c.args.writer.now in
    let now = c.end_line.new.serving in
    let got = c.in-Ok-eq0.ensures.bytes in
    let zero = c.in-Ok-eq0.field-0-test in
    let room : 0 < length c.read_some.new.block = omega (arith, h.room, c.read_some.ensures.room) in
    let all : Consumes (remaining c.args.reader.now) (remaining c.read_some.new.reader) h.input =
    read_none (remaining c.args.reader.now) (remaining c.loop.reader) (remaining c.read_some.new.reader) h.input c.read_some.new.block c.in-Ok-eq0.field-0 zero h.read got.0 in
    (h.input, all, (got.1 zero room, wrote p (answered (all_lines h.input)) start (g.W.Write.contents c.end_line.new.writer) now.sessions now.any_fault (c.in_ok-end_line-in-Ok-eq0.ensures.ok p start h.input h.after)))

pub returns-in_err-answer_block-in-Ok-clause-opened : goal.returns-in_err-answer_block-in-Ok-clause-opened
returns-in_err-answer_block-in-Ok-clause-opened g c = λ q none.
    let r = err_from_is_err_and c.from_residual-in_err-answer_block-in-Ok.result c.from_residual-in_err-answer_block-in-Ok.ensures.1 in
    let h = c.loop.invariant in
    let p = fixed c.args.sessions in
    let start = g.W.Write.contents c.args.writer.now in
    let block = take c.in-Ok.n c.read_some.new.block in
    rw (r.1, r.2) (opened_stopped p q c.in_err-answer_block-in-Ok.field-0.0 start (g.W.Write.contents c.answer_block.new.writer) h.input block (c.in_err-answer_block-in-Ok.ensures.err p start h.input h.after) none)

pub returns-in_err-answer_block-in-Ok-clause-answers : goal.returns-in_err-answer_block-in-Ok-clause-answers
returns-in_err-answer_block-in-Ok-clause-answers g c =
    let r = err_from_is_err_and c.from_residual-in_err-answer_block-in-Ok.result c.from_residual-in_err-answer_block-in-Ok.ensures.1 in
    let h = c.loop.invariant in
    let p = fixed c.args.sessions in
    let remaining = g.R.Read.remaining in
    let start = g.W.Write.contents c.args.writer.now in
    let block = take c.in-Ok.n c.read_some.new.block in
    rw (r.1, r.2) (
      h.input ++ block,
      Consumes-trans (remaining c.args.reader.now) (remaining c.loop.reader) (remaining c.read_some.new.reader) h.input block h.read c.in-Ok.ensures.bytes.0,
      stopped_in p c.in_err-answer_block-in-Ok.field-0.0 start (g.W.Write.contents c.answer_block.new.writer) (remaining c.read_some.new.reader) h.input block (c.in_err-answer_block-in-Ok.ensures.err p start h.input h.after),
    )

pub loop-preserved : goal.loop-preserved
loop-preserved g c =
    let h = c.loop.invariant in
    let remaining = g.R.Read.remaining in
    let block = take c.in-Ok.n c.read_some.new.block in
    record {
      input = h.input ++ block;
      read = Consumes-trans (remaining c.args.reader.now) (remaining c.loop.reader) (remaining c.read_some.new.reader) h.input block h.read c.in-Ok.ensures.bytes.0;
      after = c.in_ok-answer_block-in-Ok.ensures.ok (fixed c.args.sessions) (g.W.Write.contents c.args.writer.now) h.input h.after;
      room = c.read_some.ensures.room ∙ h.room;
    }

pub returns-in-Err-clause-answers : goal.returns-in-Err-clause-answers
returns-in-Err-clause-answers g c =
    let h = c.loop.invariant in
    let s = c.loop.serving in
    let remaining = g.R.Read.remaining in
    let contents = g.W.Write.contents in (
      h.input,
      Consumes-kept (remaining c.args.reader.now) (remaining c.loop.reader) (remaining c.read_some.new.reader) h.input h.read c.in-Err.ensures.bytes,
      (s.any_fault, wrote (fixed c.args.sessions) (answered (ended_lines h.input)) (contents c.args.writer.now) (contents c.loop.writer) s.sessions s.any_fault h.after.has_said),
    )

pub returns-clause-answers : goal.returns-clause-answers
returns-clause-answers g c =
    let h = c.loop.invariant in
    let s = c.loop.serving in
    let contents = g.W.Write.contents in
    (h.input, h.read, (s.any_fault, wrote (fixed c.args.sessions) (answered (ended_lines h.input)) (contents c.args.writer.now) (contents c.loop.writer) s.sessions s.any_fault h.after.has_said))
