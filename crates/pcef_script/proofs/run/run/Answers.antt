use Rattle.std.proofs.Common.{◌≡◌, ◌∙◌, ◌<◌, [], ◌++◌, append-nil, ap, arith, length, rules, subst, sym, take}
use Rattle.std.proofs.lemmas.Result.{err_from_is_err_and}
use Rattle.std.specs.Prelude.{IfErr, IfOk}
use Rattle.std.specs.Io.KnownBytes.{Consumes}
use Rattle.std.proofs.KnownBytes.{Consumes-kept, Consumes-nil, Consumes-trans}
use Rattle.pcef_script.specs.Running.{EndFails, EndsLine}
use Rattle.pcef_script.specs.Scripts.{last_line}
use Rattle.pcef_script.proofs.ReadBlocks.{block_fits, block_within, end_within, room_left}
use Rattle.pcef_script.proofs.ScriptSteps.{at_end, at_first, few_faults, kept_now, nearer, opened_end, opened_stopped, read_is, stopped_in, wrote}
use Rattle.pcef_script.proofs.run.run.Goals as goal

pub loop-script-init : goal.loop-script-init
loop-script-init g c =
    let world = c.args.world in
    let made = c.new-script.ensures in
    let script = c.new-script.result in
    record {
      input = [];
      read = Consumes-nil (g.R.Read.remaining c.args.reader.now);
      after = at_first world.session.setting (g.W.Write.contents c.args.writer.now) script.line script.faults script.world made.line made.faults
          (ap (λ w. w.session.setting) made.world) (ap (λ w. w.session.journal) made.world ∙ c.requires.journal) (ap (λ w. w.workers) made.world ∙ c.requires.workers);
      offers = ap (λ w. w.session.setting.catalog) made.world;
      room = search rules;
    }

pub returns-in-Ok-eq0-clause-opened : goal.returns-in-Ok-eq0-clause-opened
returns-in-Ok-eq0-clause-opened g c = λ p is.
    let h = c.loop-script.invariant in
    let script = c.loop-script.script in
    let contents = g.W.Write.contents in
    opened_end c.end_line.result script.world.session.setting p (contents c.loop-script.writer) (contents c.end_line.new.writer) script.world (last_line h.input)
    (c.end_line.ensures.err (last_line h.input) (kept_now script.line h.input h.after.kept)) is

pub returns-in-Ok-eq0-clause-answers : goal.returns-in-Ok-eq0-clause-answers
returns-in-Ok-eq0-clause-answers g c =
    let h = c.loop-script.invariant in
    let script = c.loop-script.script in
    let p = c.args.world.session.setting in
    let remaining = g.R.Read.remaining in
    let contents = g.W.Write.contents in
    let a = contents c.loop-script.writer in
    let b = contents c.end_line.new.writer in
    let got = c.in-Ok-eq0.ensures.bytes in
    let zero = c.in-Ok-eq0.field-0-test in
    let room : 0 < length c.read_some.new.block = omega (arith, h.room, c.read_some.ensures.room) in
    let none : take c.in-Ok-eq0.field-0 c.read_some.new.block ≡ [] = ap (λ n. take n c.read_some.new.block) zero in
    let all : Consumes (remaining c.args.reader.now) (remaining c.read_some.new.reader) h.input =
    subst (Consumes (remaining c.args.reader.now) (remaining c.read_some.new.reader)) (ap (λ t. h.input ++ t) none ∙ append-nil h.input) (Consumes-trans (remaining c.args.reader.now) (remaining c.loop-script.reader) (remaining c.read_some.new.reader) h.input _ h.read got.0) in
    let kept = kept_now script.line h.input h.after.kept in
    let few = few_faults p (contents c.args.writer.now) a script.line script.faults script.world h.input h.after in
    let ok = subst (λ s. IfOk c.end_line.result (λ n. EndsLine s script.world c.end_line.new.script.world (last_line h.input) script.faults n a b)) h.after.setting (c.end_line.ensures.ok (last_line h.input) kept few) in
    let err = subst (λ s. IfErr c.end_line.result (λ e. EndFails s script.world (last_line h.input) e a b)) h.after.setting (c.end_line.ensures.err (last_line h.input) kept) in
    (h.input, all, end_within c.end_line.result p script.world (last_line h.input) h.input a b h.after.most err, at_end c.end_line.result p (contents c.args.writer.now) a b (remaining c.read_some.new.reader) script.line script.faults script.world c.end_line.new.script.world h.input h.after (got.1 zero room) ok err)

pub loop-script-smaller : goal.loop-script-smaller
loop-script-smaller g c =
    let h = c.loop-script.invariant in
    let block = take c.in-Ok.n c.read_some.new.block in
    let p = c.args.world.session.setting in
    let after = c.in_ok-answer_block-in-Ok.ensures.ok p (g.W.Write.contents c.args.writer.now) h.input h.after in
    let old = c.loop-script.script.line in
    let new = c.answer_block.new.script.line in
    let len : length block ≡ c.in-Ok.n = sym c.in-Ok.ensures.bound.1 in
    nearer old.read new.read c.in-Ok.n h.input block (read_is old h.input h.after.kept) (read_is new (h.input ++ block) after.kept) len c.in-Ok.n-test.1 h.after.most

pub loop-script-preserved : goal.loop-script-preserved
loop-script-preserved g c =
    let h = c.loop-script.invariant in
    let remaining = g.R.Read.remaining in
    let block = take c.in-Ok.n c.read_some.new.block in
    let p = c.args.world.session.setting in
    record {
      input = h.input ++ block;
      read = Consumes-trans (remaining c.args.reader.now) (remaining c.loop-script.reader) (remaining c.read_some.new.reader) h.input block h.read c.in-Ok.ensures.bytes.0;
      after = c.in_ok-answer_block-in-Ok.ensures.ok p (g.W.Write.contents c.args.writer.now) h.input h.after;
      offers = c.answer_block.ensures.offers ∙ h.offers;
      room = c.read_some.ensures.room ∙ h.room;
    }

pub returns-in_err-answer_block-in-Ok-clause-opened : goal.returns-in_err-answer_block-in-Ok-clause-opened
returns-in_err-answer_block-in-Ok-clause-opened g c = λ p is.
    let q = err_from_is_err_and c.from_residual.result c.from_residual.ensures.1 in
    let h = c.loop-script.invariant in
    let contents = g.W.Write.contents in
    let block = take c.in-Ok.n c.read_some.new.block in
    let e = c.in_err-answer_block-in-Ok.field-0.0 in
    rw (q.1, q.2) (opened_stopped c.args.world.session.setting p e (contents c.args.writer.now) (contents c.answer_block.new.writer) h.input block
    (c.in_err-answer_block-in-Ok.ensures.err c.args.world.session.setting (contents c.args.writer.now) h.input h.after) is)

pub returns-in_err-answer_block-in-Ok-clause-answers : goal.returns-in_err-answer_block-in-Ok-clause-answers
returns-in_err-answer_block-in-Ok-clause-answers g c =
    let q = err_from_is_err_and c.from_residual.result c.from_residual.ensures.1 in
    let h = c.loop-script.invariant in
    let remaining = g.R.Read.remaining in
    let contents = g.W.Write.contents in
    let p = c.args.world.session.setting in
    let start = contents c.args.writer.now in
    let block = take c.in-Ok.n c.read_some.new.block in
    let e = c.in_err-answer_block-in-Ok.field-0.0 in
    let line = c.loop-script.script.line in
    let len : length block ≡ c.in-Ok.n = sym c.in-Ok.ensures.bound.1 in
    let fits = block_fits line h.input block (read_is line h.input h.after.kept) h.after.most (omega (arith, len, c.in-Ok.ensures.most, c.room.ensures)) in
    rw (q.1, q.2) (
      h.input ++ block,
      Consumes-trans (remaining c.args.reader.now) (remaining c.loop-script.reader) (remaining c.read_some.new.reader) h.input block h.read c.in-Ok.ensures.bytes.0,
      block_within p e start (contents c.answer_block.new.writer) h.input block fits (c.in_err-answer_block-in-Ok.ensures.err p start h.input h.after),
      stopped_in p e start (contents c.answer_block.new.writer) (remaining c.read_some.new.reader) h.input block (c.in_err-answer_block-in-Ok.ensures.err p start h.input h.after),
    )

pub read_some-requires : goal.read_some-requires
read_some-requires g c =
    let h = c.loop-script.invariant in
    let line = c.loop-script.script.line in
    rw c.room.ensures (room_left line h.input (read_is line h.input h.after.kept) h.after.most)

pub returns-in-Err-clause-answers : goal.returns-in-Err-clause-answers
returns-in-Err-clause-answers g c =
    let h = c.loop-script.invariant in
    let script = c.loop-script.script in
    let remaining = g.R.Read.remaining in
    let contents = g.W.Write.contents in (
      h.input,
      Consumes-kept (remaining c.args.reader.now) (remaining c.loop-script.reader) (remaining c.read_some.new.reader) h.input h.read c.in-Err.ensures.bytes,
      h.after.most,
      (script.faults, wrote c.args.world.session.setting (contents c.args.writer.now) (contents c.loop-script.writer) script.line script.faults script.world h.input h.after),
    )
