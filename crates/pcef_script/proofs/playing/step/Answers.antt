use Rattle.std.proofs.Common.{ap, arith}
use Rattle.pcef_model.specs.Journals.{report_count}
use Rattle.pcef_world.specs.Steps.{standing_of, step_outcome}
use Rattle.pcef_world.proofs.ToldReports.{made_same, answered_by_world}
use Rattle.pcef_script.proofs.LinesPlayed.{step_found}
use Rattle.pcef_script.proofs.playing.step.Goals as goal

pub answer_found-requires : goal.answer_found-requires
answer_found-requires g c =
    answered_by_world c.forget.new.self c.step.new.self c.args.step c.in_ok-answer.answer c.step.new.self.session.forgotten
    (omega (arith, c.step.ensures.forgotten, c.forget.ensures.forgotten, ap (λ s. report_count s.journal) c.forget.ensures.standing)) c.in_ok-answer.ensures.answer

pub returns-clause-found : goal.returns-clause-found
returns-clause-found g c =
    let made = made_same c.forget.new.self c.args.world.now c.step.new.self c.args.step c.in_ok-answer.answer c.forget.ensures.setting c.forget.ensures.standing c.in_ok-answer.ensures.answer in
    step_found c.answer_found.result c.args.number c.step.new.self c.in_ok-answer.answer
    (step_outcome c.args.world.now.session.setting (standing_of c.args.world.now) c.args.step) made.0 made.1 c.answer_found.ensures
