use Rattle.std.proofs.Common.{◌∙◌, ◌++◌, ◌∷◌, [], Err, ap, append-nil, arith, drop, inl, map, refl, subst, sym}
use Rattle.std.proofs.lemmas.Result.{err_from_is_err_and}
use Rattle.pcef_sessions.specs.declared.frame_fault.FrameFault.TheVariants.{BadLength}
use Rattle.pcef_sessions.specs.Frames.{meaning}
use Rattle.pcef_sessions.specs.Framed.{AreFrames}
use Rattle.pcef_sessions.specs.FramesServed.{WroteFramesFront}
use Rattle.pcef_sessions.specs.private.Framing.{StandsFramed, StandsWoven, TakenTo}
use Rattle.pcef_sessions.proofs.FrameFronts.{frames_both, frames_on, frames_then, framed_on, stopped_after}
use Rattle.pcef_sessions.proofs.Wovens.{flushed_woven, wrote_front, wrote_woven}
use Rattle.pcef_sessions.proofs.framing.answer_frames.Goals as goal

pub returns-in_default-clause-err : goal.returns-in_default-clause-err
returns-in_default-clause-err g c = λ p start input h.
    let f = c.args.framing.now in
    let block = c.args.block.now in
    let pending = c.args.pending.now.items in
    (h.0, pending ++ block, f.any_fault, frames_on input pending block h.0 h.1, wrote_woven p (map meaning h.0) start (g.W.Write.contents c.args.writer.now) f.sessions f.any_fault h.3)

pub returns-in_err-take_frames-clause-err : goal.returns-in_err-take_frames-clause-err
returns-in_err-take_frames-clause-err g c = λ p start input h.
    let q = err_from_is_err_and c.from_residual.result c.from_residual.ensures.1 in
    let block = c.args.block.now in
    let whole = c.deref.ensures.value ∙ c.in-Ok.ensures.items in
    let are = subst (AreFrames (input ++ block) h.0) (sym whole) (frames_on input c.args.pending.now.items block h.0 h.1) in
    rw (q.1, q.2) (stopped_after p c.in_err-take_frames.field-0.0 start (g.W.Write.contents c.take_frames.new.writer) (input ++ block) c.deref.result.now h.0 are
    (c.in_err-take_frames.ensures.err p (map meaning h.0) start h.3))

pub let_go-requires : goal.let_go-requires
let_go-requires g c =
    let most = rw c.in-Some.is at c.in_ok-take_frames.ensures.most in
    omega (arith, most, c.deref.ensures.len)

pub returns-in-None-clause-ok : goal.returns-in-None-clause-ok
returns-in-None-clause-ok g c = λ p start input h.
    let block = c.args.block.now in
    let octets = c.deref.result.now in
    let whole = c.deref.ensures.value ∙ c.in-Ok.ensures.items in
    let are = subst (AreFrames (input ++ block) h.0) (sym whole) (frames_on input c.args.pending.now.items block h.0 h.1) in
    let told = c.in_ok-take_frames.ensures.ok p (map meaning h.0) start h.3 in
    let taken = subst (λ t. TakenTo t octets told.1 told.2) c.in-None.is told.4 in (
      h.0 ++ told.0,
      told.1,
      frames_both (input ++ block) octets told.1 h.0 told.0 are told.3,
      taken.0,
      subst (λ ms. StandsWoven p ms start (g.W.Write.contents c.take_frames.new.writer) c.take_frames.new.framing)
          (ap (λ l. map meaning h.0 ++ (map meaning told.0 ++ l)) taken.1 ∙ frames_then h.0 told.0 (Err BadLength ∷ [])) told.5,
    )

pub returns-in-Some-eq0-clause-ok : goal.returns-in-Some-eq0-clause-ok
returns-in-Some-eq0-clause-ok g c = λ p start input h.
    let block = c.args.block.now in
    let octets = c.deref.result.now in
    let whole = c.deref.ensures.value ∙ c.in-Ok.ensures.items in
    let are = subst (AreFrames (input ++ block) h.0) (sym whole) (frames_on input c.args.pending.now.items block h.0 h.1) in
    let told = c.in_ok-take_frames.ensures.ok p (map meaning h.0) start h.3 in
    let taken = subst (λ t. TakenTo t octets told.1 told.2) c.in-Some-eq0.is told.4 in
    let now = g.W.Write.contents c.take_frames.new.writer in
    let framing = c.take_frames.new.framing in
    let left = taken.1 ∙ ap (λ n. drop n octets) c.in-Some-eq0.field-0-test ∙ c.deref.ensures.value in
    subst (λ r. StandsFramed p start now framing r (input ++ block)) left (framed_on p start now framing (input ++ block) octets told.1 c.in-Some-eq0.field-0 told.2 h.0 told.0 are told.3 taken told.5)

pub returns-in-Ok-flush-clause-ok : goal.returns-in-Ok-flush-clause-ok
returns-in-Ok-flush-clause-ok g c = λ p start input h.
    let block = c.args.block.now in
    let octets = c.deref.result.now in
    let whole = c.deref.ensures.value ∙ c.in-Ok.ensures.items in
    let are = subst (AreFrames (input ++ block) h.0) (sym whole) (frames_on input c.args.pending.now.items block h.0 h.1) in
    let told = c.in_ok-take_frames.ensures.ok p (map meaning h.0) start h.3 in
    let taken = subst (λ t. TakenTo t octets told.1 told.2) c.in-Some.is told.4 in
    let contents = g.W.Write.contents in
    let framing = c.take_frames.new.framing in
    let left = taken.1 ∙ ap (drop c.in-Some.many) c.deref.ensures.value ∙ sym c.let_go.ensures in
    let stands = subst (λ r. StandsFramed p start (contents c.take_frames.new.writer) framing r (input ++ block)) left
    (framed_on p start (contents c.take_frames.new.writer) framing (input ++ block) octets told.1 c.in-Some.many told.2 h.0 told.0 are told.3 taken told.5) in
    (stands.0, stands.1, stands.2, flushed_woven p (map meaning stands.0) start (contents c.take_frames.new.writer) (contents c.flush.new.self) framing.sessions framing.any_fault stands.3 c.flush.ensures.bytes)

pub returns-in-Err-clause-err : goal.returns-in-Err-clause-err
returns-in-Err-clause-err g c = λ p start input h.
    let block = c.args.block.now in
    let octets = c.deref.result.now in
    let whole = c.deref.ensures.value ∙ c.in-Ok.ensures.items in
    let are = subst (AreFrames (input ++ block) h.0) (sym whole) (frames_on input c.args.pending.now.items block h.0 h.1) in
    let told = c.in_ok-take_frames.ensures.ok p (map meaning h.0) start h.3 in
    let taken = subst (λ t. TakenTo t octets told.1 told.2) c.in-Some.is told.4 in
    let contents = g.W.Write.contents in
    let framing = c.take_frames.new.framing in
    let stands = framed_on p start (contents c.take_frames.new.writer) framing (input ++ block) octets told.1 c.in-Some.many told.2 h.0 told.0 are told.3 taken told.5 in (
      stands.0,
      told.1,
      [],
      stands.1,
      inl refl,
      subst (λ ms. WroteFramesFront p ms start (contents c.flush.new.self)) (sym (append-nil (map meaning stands.0)))
          (wrote_front p (map meaning stands.0) start (contents c.take_frames.new.writer) (contents c.flush.new.self) framing.sessions framing.any_fault stands.3 c.flush.ensures.bytes),
    )
