use Rattle.std.proofs.Common.{◌∙◌}
use Rattle.std.proofs.lemmas.Result.{IfOk-weaker}
use Rattle.pcef_sessions.proofs.FrameReads.{takes}
use Rattle.pcef_sessions.proofs.frame.take_fields.Goals as goal

pub returns-in-len2-up-clause-ok : goal.returns-in-len2-up-clause-ok
returns-in-len2-up-clause-ok c = IfOk-weaker c.take.result _ _ (λ f h. (h.0, takes c.args.fields.now c.in-len2-up.len_at_least ∙ h.1)) c.take.ensures.ok
