use Rattle.std.proofs.Common.{◌∙◌, ◌<◌, ◌++◌, ◌∷◌, [], Err, arith, inl, inr, length, map, refl, rules, sym, take}
use Rattle.std.proofs.lemmas.Result.{err_from_is_err_and}
use Rattle.std.specs.Io.KnownBytes.{Consumes}
use Rattle.std.proofs.KnownBytes.{Consumes-kept, Consumes-nil, Consumes-trans}
use Rattle.pcef_sessions.specs.declared.frame_fault.FrameFault.TheVariants.{BadLength}
use Rattle.pcef_sessions.specs.Frames.{meaning}
use Rattle.pcef_sessions.specs.Standing.{fixed}
use Rattle.pcef_sessions.proofs.FrameRuns.{block_stops, end_stops, ends_with, goes_on, is_over, opened_block, opened_end}
use Rattle.pcef_sessions.proofs.Wovens.{none_woven, wrote_woven}
use Rattle.pcef_sessions.proofs.EmptyReads.{read_none}
use Rattle.pcef_sessions.proofs.run.serve_all_frames.Goals as goal

pub loop-init : goal.loop-init
loop-init g c =
    let p = fixed c.args.sessions in
    record {
      input = [];
      read = Consumes-nil (g.R.Read.remaining c.args.reader.now);
      after = ([], sym c.new-pending.ensures.items, inl c.new-pending.ensures.items, none_woven p (g.W.Write.contents c.args.writer.now) c.args.sessions _ refl refl c.requires);
      room = search rules;
    }

pub returns-in_err-end_frames-in-Ok-eq0-clause-opened : goal.returns-in_err-end_frames-in-Ok-eq0-clause-opened
returns-in_err-end_frames-in-Ok-eq0-clause-opened g c = λ q none.
    let r = err_from_is_err_and c.from_residual.result c.from_residual.ensures.1 in
    let h = c.loop.invariant in
    let p = fixed c.args.sessions in
    let start = g.W.Write.contents c.args.writer.now in
    let fails = rw c.deref.ensures.value at c.in_err-end_frames-in-Ok-eq0.ensures.err in
    rw (r.1, r.2) (opened_end p q c.in_err-end_frames-in-Ok-eq0.field-0.0 start (g.W.Write.contents c.end_frames.new.writer) c.loop.pending.items h.input (fails p start h.input h.after) none)

pub returns-in_err-end_frames-in-Ok-eq0-clause-answers : goal.returns-in_err-end_frames-in-Ok-eq0-clause-answers
returns-in_err-end_frames-in-Ok-eq0-clause-answers g c =
    let r = err_from_is_err_and c.from_residual.result c.from_residual.ensures.1 in
    let h = c.loop.invariant in
    let p = fixed c.args.sessions in
    let remaining = g.R.Read.remaining in
    let start = g.W.Write.contents c.args.writer.now in
    let got = c.in-Ok-eq0.ensures.bytes in
    let zero = c.in-Ok-eq0.field-0-test in
    let room : 0 < length c.read_some.new.block = omega (arith, h.room, c.read_some.ensures.room) in
    let all : Consumes (remaining c.args.reader.now) (remaining c.read_some.new.reader) h.input =
    read_none (remaining c.args.reader.now) (remaining c.loop.reader) (remaining c.read_some.new.reader) h.input c.read_some.new.block c.in-Ok-eq0.field-0 zero h.read got.0 in
    let fails = rw c.deref.ensures.value at c.in_err-end_frames-in-Ok-eq0.ensures.err in
    rw (r.1, r.2) (
      h.input,
      all,
      end_stops p c.in_err-end_frames-in-Ok-eq0.field-0.0 start (g.W.Write.contents c.end_frames.new.writer) (remaining c.read_some.new.reader) c.loop.pending.items h.input (got.1 zero room) (fails p start h.input h.after),
    )

pub returns-in-Ok-eq0-clause-answers : goal.returns-in-Ok-eq0-clause-answers
returns-in-Ok-eq0-clause-answers g c =
    let h = c.loop.invariant in
    let p = fixed c.args.sessions in
    let remaining = g.R.Read.remaining in
    let start = g.W.Write.contents c.args.writer.now in
    let now = c.end_frames.new.framing in
    let got = c.in-Ok-eq0.ensures.bytes in
    let zero = c.in-Ok-eq0.field-0-test in
    let room : 0 < length c.read_some.new.block = omega (arith, h.room, c.read_some.ensures.room) in
    let all : Consumes (remaining c.args.reader.now) (remaining c.read_some.new.reader) h.input =
    read_none (remaining c.args.reader.now) (remaining c.loop.reader) (remaining c.read_some.new.reader) h.input c.read_some.new.block c.in-Ok-eq0.field-0 zero h.read got.0 in
    let ok = rw c.deref.ensures.value at c.in_ok-end_frames-in-Ok-eq0.ensures.ok in
    let told = ok p start h.input h.after in (
      h.input,
      all,
      (
        told.0,
        c.loop.pending.items,
        told.1,
        told.2,
        ends_with c.loop.pending.items (remaining c.read_some.new.reader) told.1 (got.1 zero room) told.3,
        wrote_woven p (map meaning told.0 ++ told.1) start (g.W.Write.contents c.end_frames.new.writer) now.sessions now.any_fault told.4,
      ),
    )

pub returns-in_err-answer_frames-in-Ok-clause-opened : goal.returns-in_err-answer_frames-in-Ok-clause-opened
returns-in_err-answer_frames-in-Ok-clause-opened g c = λ q none.
    let r = err_from_is_err_and c.from_residual-in_err-answer_frames-in-Ok.result c.from_residual-in_err-answer_frames-in-Ok.ensures.1 in
    let h = c.loop.invariant in
    let p = fixed c.args.sessions in
    let start = g.W.Write.contents c.args.writer.now in
    let block = take c.in-Ok.n c.read_some.new.block in
    rw (r.1, r.2) (opened_block p q c.in_err-answer_frames-in-Ok.field-0.0 start (g.W.Write.contents c.answer_frames.new.writer) (h.input ++ block) (c.in_err-answer_frames-in-Ok.ensures.err p start h.input h.after) none)

pub returns-in_err-answer_frames-in-Ok-clause-answers : goal.returns-in_err-answer_frames-in-Ok-clause-answers
returns-in_err-answer_frames-in-Ok-clause-answers g c =
    let r = err_from_is_err_and c.from_residual-in_err-answer_frames-in-Ok.result c.from_residual-in_err-answer_frames-in-Ok.ensures.1 in
    let h = c.loop.invariant in
    let p = fixed c.args.sessions in
    let remaining = g.R.Read.remaining in
    let start = g.W.Write.contents c.args.writer.now in
    let block = take c.in-Ok.n c.read_some.new.block in
    rw (r.1, r.2) (
      h.input ++ block,
      Consumes-trans (remaining c.args.reader.now) (remaining c.loop.reader) (remaining c.read_some.new.reader) h.input block h.read c.in-Ok.ensures.bytes.0,
      block_stops p c.in_err-answer_frames-in-Ok.field-0.0 start (g.W.Write.contents c.answer_frames.new.writer) (remaining c.read_some.new.reader) (h.input ++ block) (c.in_err-answer_frames-in-Ok.ensures.err p start h.input h.after),
    )

pub returns-then-not-branch-clause-answers : goal.returns-then-not-branch-clause-answers
returns-then-not-branch-clause-answers g c =
    let h = c.loop.invariant in
    let p = fixed c.args.sessions in
    let remaining = g.R.Read.remaining in
    let start = g.W.Write.contents c.args.writer.now in
    let block = take c.in-Ok.n c.read_some.new.block in
    let now = c.answer_frames.new.framing in
    let lost = is_over _ _ c.in_ok-answer_frames-in-Ok.field-0 c.if-not-branch.true (c.in_ok-answer_frames-in-Ok.ensures.ok p start h.input h.after) in (
      h.input ++ block,
      Consumes-trans (remaining c.args.reader.now) (remaining c.loop.reader) (remaining c.read_some.new.reader) h.input block h.read c.in-Ok.ensures.bytes.0,
      (
        lost.0,
        lost.1,
        Err BadLength ∷ [],
        lost.2,
        inr (inr (lost.3, refl)),
        wrote_woven p (map meaning lost.0 ++ Err BadLength ∷ []) start (g.W.Write.contents c.answer_frames.new.writer) now.sessions now.any_fault lost.4,
      ),
    )

pub loop-preserved : goal.loop-preserved
loop-preserved g c =
    let h = c.loop.invariant in
    let remaining = g.R.Read.remaining in
    let block = take c.in-Ok.n c.read_some.new.block in
    record {
      input = h.input ++ block;
      read = Consumes-trans (remaining c.args.reader.now) (remaining c.loop.reader) (remaining c.read_some.new.reader) h.input block h.read c.in-Ok.ensures.bytes.0;
      after = goes_on _ _ c.in_ok-answer_frames-in-Ok.field-0 c.if-not-branch.false (c.in_ok-answer_frames-in-Ok.ensures.ok (fixed c.args.sessions) (g.W.Write.contents c.args.writer.now) h.input h.after);
      room = c.read_some.ensures.room ∙ h.room;
    }

pub returns-in-Err-clause-answers : goal.returns-in-Err-clause-answers
returns-in-Err-clause-answers g c =
    let h = c.loop.invariant in
    let f = c.loop.framing in
    let remaining = g.R.Read.remaining in
    let contents = g.W.Write.contents in
    let after = h.after in (
      h.input,
      Consumes-kept (remaining c.args.reader.now) (remaining c.loop.reader) (remaining c.read_some.new.reader) h.input h.read c.in-Err.ensures.bytes,
      (after.0, c.loop.pending.items, f.any_fault, after.1, after.2, wrote_woven (fixed c.args.sessions) (map meaning after.0) (contents c.args.writer.now) (contents c.loop.writer) f.sessions f.any_fault after.3),
    )

pub returns-clause-answers : goal.returns-clause-answers
returns-clause-answers g c =
    let h = c.loop.invariant in
    let f = c.loop.framing in
    let contents = g.W.Write.contents in
    let after = h.after in (
      h.input,
      h.read,
      (after.0, c.loop.pending.items, f.any_fault, after.1, after.2, wrote_woven (fixed c.args.sessions) (map meaning after.0) (contents c.args.writer.now) (contents c.loop.writer) f.sessions f.any_fault after.3),
    )
