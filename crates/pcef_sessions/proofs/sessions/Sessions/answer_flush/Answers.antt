use Rattle.std.proofs.Common.{Ok}
use Rattle.std.proofs.lemmas.Result.{IfOk-weaker, on_err_weaker}
use Rattle.std.specs.Prelude.{codes}
use Rattle.pcef_line.specs.Canonical.{step_text}
use Rattle.pcef_sessions.proofs.FrameLines.{flush_is_read}
use Rattle.pcef_sessions.proofs.sessions.Sessions.answer_flush.Goals as goal

pub returns-clause-answer : goal.returns-clause-answer
returns-clause-answer c =
    IfOk-weaker c.answer_read.result _ _
    (λ a told. told (step_text (codes "flush") c.args.worker) (flush_is_read c.args.worker (Ok c.flush_line.result) c.requires c.flush_line.ensures)) c.answer_read.ensures.answer

pub returns-clause-lacks : goal.returns-clause-lacks
returns-clause-lacks c =
    on_err_weaker c.answer_read.result
    (λ told. told (step_text (codes "flush") c.args.worker) (flush_is_read c.args.worker (Ok c.flush_line.result) c.requires c.flush_line.ensures)) c.answer_read.ensures.lacks
