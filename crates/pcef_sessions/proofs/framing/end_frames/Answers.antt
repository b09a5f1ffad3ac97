use Rattle.std.proofs.Common.{◌∙◌, ◌==◌, ◌∷◌, [], Err, append-nil, ap, inl, inr, length, map, refl, subst, sym}
use Rattle.std.proofs.lemmas.Bool.{true≢false}
use Rattle.std.proofs.lemmas.Result.{IfErr-weaker, on_ok_weaker}
use Rattle.pcef_sessions.specs.Frames.{meaning}
use Rattle.pcef_sessions.specs.declared.frame_fault.FrameFault.TheVariants.{CutFrame}
use Rattle.pcef_sessions.specs.private.Framing.{StandsWoven}
use Rattle.pcef_sessions.proofs.FrameFronts.{cut_stops, is_nothing, is_part}
use Rattle.pcef_sessions.proofs.framing.end_frames.Goals as goal

pub returns-then-is_empty-clause-ok : goal.returns-then-is_empty-clause-ok
returns-then-is_empty-clause-ok g c = λ p start input h.
    let none = is_nothing c.args.pending.now (sym c.is_empty.ensures ∙ c.if-is_empty.true) in
    (h.0, [], h.1, inl (none, refl), subst (λ ms. StandsWoven p ms start (g.W.Write.contents c.args.writer.now) c.args.framing.now) (sym (append-nil (map meaning h.0))) h.3)

pub returns-clause-ok : goal.returns-clause-ok
returns-clause-ok g c = λ p start input h.
    let part = is_part c.args.pending.now h.2 (λ none. true≢false (sym (ap (λ xs. length xs == 0) none) ∙ sym c.is_empty.ensures ∙ c.if-is_empty.false)) in
    on_ok_weaker c.say_malformed.result (λ told. (h.0, Err CutFrame ∷ [], h.1, inr (part, refl), told)) (c.say_malformed.ensures.ok p (map meaning h.0) start h.3)

pub returns-clause-err : goal.returns-clause-err
returns-clause-err g c = λ p start input h.
    let part = is_part c.args.pending.now h.2 (λ none. true≢false (sym (ap (λ xs. length xs == 0) none) ∙ sym c.is_empty.ensures ∙ c.if-is_empty.false)) in
    IfErr-weaker c.say_malformed.result _ _ (λ e fails. cut_stops p e start (g.W.Write.contents c.say_malformed.new.writer) c.args.pending.now input h.0 h.1 part fails) (c.say_malformed.ensures.err p (map meaning h.0) start h.3)
