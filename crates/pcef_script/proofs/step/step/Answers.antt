use Rattle.std.proofs.Common.{◌≡◌, ◌∙◌, ap, inl, subst, sym, ℕ}
use Rattle.pcef_model.specs.Journals.{gen}
use Rattle.pcef_session.specs.SessionModel.{SessionModel}
use Rattle.pcef_world.specs.Steps.{NamesKept, reply_of, step_outcome, standing_of}
use Rattle.pcef_world.proofs.ToldReports.{answered_by_world}
use Rattle.pcef_script.proofs.LineReads.{lacking, step_done, step_told}
use Rattle.pcef_script.proofs.step.step.Goals as goal

pub returns-clause-answer : goal.returns-clause-answer
returns-clause-answer g c =
    step_told c.step_answer.result c.step.new.self c.journal.result.now.entries c.generation.result (reply_of c.in_ok-answer.answer)
    (step_outcome c.args.world.now.session.setting (standing_of c.args.world.now) c.args.step)
    (c.journal.ensures.journal ∙ ap (λ (s : SessionModel). s.journal) c.session-session.ensures.session)
    (c.generation.ensures ∙ ap (λ (s : SessionModel). gen s.journal) c.session-session.ensures.session)
    c.in_ok-answer.ensures.answer.0 c.in_ok-answer.ensures.answer.1 c.step_answer.ensures

pub step_answer-requires : goal.step_answer-requires
step_answer-requires g c =
    let same : c.journal.result.now.forgotten ≡ c.args.world.now.session.forgotten =
    c.journal.ensures.forgotten ∙ ap (λ (s : SessionModel). s.forgotten) c.session-session.ensures.session ∙ c.step.ensures.forgotten in
    subst (λ (n : ℕ). NamesKept n (reply_of c.in_ok-answer.answer)) (sym same)
    (answered_by_world c.args.world.now c.step.new.self c.args.step c.in_ok-answer.answer c.args.world.now.session.forgotten c.requires.kept c.in_ok-answer.ensures.answer)

pub returns-in_err-answer-clause-lacks : goal.returns-in_err-answer-clause-lacks
returns-in_err-answer-clause-lacks g c = lacking c.from_residual.result (inl c.in_err-answer.ensures.lacks.1)

pub returns-clause-lacks : goal.returns-clause-lacks
returns-clause-lacks g c =
    lacking c.step_answer.result
    (step_done c.args.world.now.session.setting (standing_of c.args.world.now) (standing_of c.step.new.self) c.args.step c.in_ok-answer.ensures.answer.1)
