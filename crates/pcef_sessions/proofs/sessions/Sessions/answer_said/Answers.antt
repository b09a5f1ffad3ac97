use Rattle.std.proofs.Common.{sym, subst}
use Rattle.std.specs.Prelude.{IfOk, OnErr}
use Rattle.pcef_sessions.specs.declared.frame.Frame.{Frame}
use Rattle.pcef_sessions.specs.private.FrameLines.{line_of}
use Rattle.pcef_sessions.specs.private.Steps.{AnswersIn, LacksIn}
use Rattle.pcef_sessions.proofs.sessions.Sessions.answer_said.Goals as goal

pub returns-in-Take-clause-answer : goal.returns-in-Take-clause-answer
returns-in-Take-clause-answer c =
    subst (λ (f : Frame). IfOk c.answer_take.result (λ a. AnswersIn c.args.self.now c.args.name.now (line_of f) a c.answer_take.new.self)) (sym c.in-Take.is) c.answer_take.ensures.answer

pub returns-in-Take-clause-lacks : goal.returns-in-Take-clause-lacks
returns-in-Take-clause-lacks c =
    subst (λ (f : Frame). OnErr c.answer_take.result (LacksIn c.args.self.now c.args.name.now (line_of f) c.answer_take.new.self)) (sym c.in-Take.is) c.answer_take.ensures.lacks

pub returns-in-Flush-clause-answer : goal.returns-in-Flush-clause-answer
returns-in-Flush-clause-answer c =
    subst (λ (f : Frame). IfOk c.answer_flush.result (λ a. AnswersIn c.args.self.now c.args.name.now (line_of f) a c.answer_flush.new.self)) (sym c.in-Flush.is) c.answer_flush.ensures.answer

pub returns-in-Flush-clause-lacks : goal.returns-in-Flush-clause-lacks
returns-in-Flush-clause-lacks c =
    subst (λ (f : Frame). OnErr c.answer_flush.result (LacksIn c.args.self.now c.args.name.now (line_of f) c.answer_flush.new.self)) (sym c.in-Flush.is) c.answer_flush.ensures.lacks
