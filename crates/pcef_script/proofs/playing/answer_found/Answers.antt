use Rattle.std.proofs.Common.{◌≡◌, ◌∙◌, ap, refl, subst, sym, ℕ}
use Rattle.pcef_model.specs.Journals.{gen}
use Rattle.pcef_session.specs.SessionModel.{SessionModel}
use Rattle.pcef_answer.specs.StepAnswers.{reply_text}
use Rattle.pcef_world.specs.Steps.{NamesKept, reply_of}
use Rattle.pcef_script.specs.Findings.{finding_in}
use Rattle.pcef_script.proofs.Findings.{some_told}
use Rattle.pcef_script.proofs.playing.answer_found.Goals as goal

pub returns : goal.returns
returns c =
    let w = c.args.world.now in
    let reply = reply_of c.args.answer.now in
    some_told c.args.number (finding_in reply) (reply_text w.session.journal (gen w.session.journal) reply)
    (record { line = c.args.number; found = c.in-Some.found; answer = c.in_ok-step_answer.field-0 }) (sym c.in-Some.ensures) refl
    (c.in_ok-step_answer.ensures
    ∙ ap (λ l. reply_text l c.generation.result reply) (c.journal.ensures.journal ∙ ap (λ (s : SessionModel). s.journal) c.session-session.ensures.session)
    ∙ ap (λ n. reply_text w.session.journal n reply) (c.generation.ensures ∙ ap (λ (s : SessionModel). gen s.journal) c.session-session.ensures.session))

pub step_answer-requires : goal.step_answer-requires
step_answer-requires c =
    let same : c.journal.result.now.forgotten ≡ c.args.world.now.session.forgotten =
    c.journal.ensures.forgotten ∙ ap (λ (s : SessionModel). s.forgotten) c.session-session.ensures.session in
    subst (λ (n : ℕ). NamesKept n (reply_of c.args.answer.now)) (sym same) c.requires
