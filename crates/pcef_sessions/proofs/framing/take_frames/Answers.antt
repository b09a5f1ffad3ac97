use Rattle.std.proofs.Common.{◌++◌, ◌∷◌, [], arith, map, refl, subst}
use Rattle.std.proofs.lemmas.Result.{err_from_is_err_and}
use Rattle.pcef_sessions.specs.Frames.{meaning}
use Rattle.pcef_sessions.specs.private.Framing.{StandsWoven}
use Rattle.pcef_sessions.proofs.FrameFronts.{frames_more, length_stops, no_last, no_longer, one_more, one_stops, what_is_left}
use Rattle.pcef_sessions.proofs.framing.take_frames.Goals as goal

pub returns-in_err-answer_frame-in-Whole-clause-err : goal.returns-in_err-answer_frame-in-Whole-clause-err
returns-in_err-answer_frame-in-Whole-clause-err g c = λ p meant start h.
    let q = err_from_is_err_and c.from_residual.result c.from_residual.ensures.1 in
    let i = c.frames.invariant in
    rw (q.1, q.2) (one_stops p c.in_err-answer_frame-in-Whole.field-0.0 meant start (g.W.Write.contents c.answer_frame.new.writer) c.args.octets.now c.frames.rest.now c.in-Whole.frame.now c.in-Whole.others.now i.frames i.taken c.in-Whole.ensures
    (c.in_err-answer_frame-in-Whole.ensures.err p (meant ++ map meaning i.frames) start (i.after p meant start h)))

pub frames-preserved : goal.frames-preserved
frames-preserved g c =
    let i = c.frames.invariant in
    let frame = c.in-Whole.frame.now in
    record {
      frames = i.frames ++ frame ∷ [];
      taken = frames_more c.args.octets.now c.frames.rest.now frame c.in-Whole.others.now i.frames i.taken c.in-Whole.ensures;
      after = λ p meant start h.
          subst (λ ms. StandsWoven p ms start (g.W.Write.contents c.answer_frame.new.writer) c.answer_frame.new.framing) (one_more meant i.frames frame)
          (c.in_ok-answer_frame-in-Whole.ensures.ok p (meant ++ map meaning i.frames) start (i.after p meant start h));
    }

pub overflow_sub-result : goal.overflow_sub-result
overflow_sub-result g c =
    let i = c.frames.invariant in
    let le = no_longer c.args.octets.now c.frames.rest.now i.frames i.taken in
    omega (arith, le)

pub returns-in-Part-clause-ok : goal.returns-in-Part-clause-ok
returns-in-Part-clause-ok g c = λ p meant start h.
    let i = c.frames.invariant in
    let octets = c.args.octets.now in
    let rest = c.frames.rest.now in (
      i.frames,
      rest,
      [],
      i.taken,
      (omega arith, what_is_left octets rest i.frames i.taken, c.in-Part.ensures, refl),
      subst (λ ms. StandsWoven p ms start (g.W.Write.contents c.frames.writer) c.frames.framing) (no_last meant i.frames) (i.after p meant start h),
    )

pub returns-in_err-say_malformed-in-Bad-clause-err : goal.returns-in_err-say_malformed-in-Bad-clause-err
returns-in_err-say_malformed-in-Bad-clause-err g c = λ p meant start h.
    let q = err_from_is_err_and c.from_residual-in_err-say_malformed-in-Bad.result c.from_residual-in_err-say_malformed-in-Bad.ensures.1 in
    let i = c.frames.invariant in
    rw (q.1, q.2) (length_stops p c.in_err-say_malformed-in-Bad.field-0.0 meant start (g.W.Write.contents c.say_malformed.new.writer) c.args.octets.now c.frames.rest.now i.frames i.taken c.in-Bad.ensures
    (c.in_err-say_malformed-in-Bad.ensures.err p (meant ++ map meaning i.frames) start (i.after p meant start h)))
