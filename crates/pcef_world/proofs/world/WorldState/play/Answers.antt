use Rattle.std.proofs.Common.{◌≡◌, ◌∙◌, ◌++◌, ◌∷◌, [], List, ap, append_assoc, refl, subst, sym}
use Rattle.std.proofs.lemmas.Result.{err_from_is_err_and}
use Rattle.pcef_model.specs.Setting.{Setting}
use Rattle.pcef_model.specs.declared.step.Step.{Step}
use Rattle.pcef_world.specs.declared.answer.StepAnswer.{StepAnswer}
use Rattle.pcef_world.specs.Steps.{Played, Plays, PlaysFront, Standing, standing_of}
use Rattle.pcef_world.proofs.StepsMore.{played_front, played_more, played_none}
use Rattle.pcef_world.proofs.world.WorldState.play.Goals as goal

-- one step more is made, and the others are still to come
one_less : (steps made rest fewer : List Step) (step : Step) → steps ≡ made ++ rest → rest ≡ step ∷ fewer → steps ≡ (made ++ step ∷ []) ++ fewer
one_less steps made rest fewer step whole first =
    whole ∙ ap (λ r. made ++ r) first ∙ sym (append_assoc made (step ∷ []) fewer)

pub step-requires : goal.step-requires
step-requires g c = c.requires ∙ sym (ap (λ (p : Setting). p.catalog) c.loop-step.invariant.setting)

pub loop-step-preserved : goal.loop-step-preserved
loop-step-preserved g c =
    let w = c.args.self.now in
    let p = w.session.setting in
    let i = c.loop-step.invariant in
    let plays = subst (λ q. Plays q (standing_of c.loop-step.self) c.in-Some.step c.in_ok-answer.answer (standing_of c.step.new.self)) i.setting c.in_ok-answer.ensures.answer in
    record {
      setting = c.step.ensures.setting ∙ i.setting;
      forgotten = c.step.ensures.forgotten ∙ i.forgotten;
      rest = one_less c.args.steps.items c.loop-step.yielded c.loop-step.step-iterator.rest.items c.next.new.self.rest.items c.in-Some.step i.rest c.in-Some.ensures.steps.0;
      played = subst (λ (answers : List StepAnswer). Played p (standing_of w) (c.loop-step.yielded ++ c.in-Some.step ∷ []) answers (standing_of c.step.new.self)) (sym c.in_ok-push.ensures.items)
          (played_more p (standing_of w) (standing_of c.loop-step.self) (standing_of c.step.new.self) c.loop-step.yielded c.loop-step.answers.items c.in-Some.step c.in_ok-answer.answer i.played plays);
    }

pub loop-step-init : goal.loop-step-init
loop-step-init g c =
    let w = c.args.self.now in record {
      setting = refl;
      forgotten = refl;
      rest = sym c.into_iter-step-iterator.ensures.into_iter_gives.0;
      played = subst (λ (answers : List StepAnswer). Played w.session.setting (standing_of w) [] answers (standing_of w)) (sym c.in_ok-answers.ensures.items) (played_none w.session.setting (standing_of w));
    }

-- nothing is made
pub returns-in_err-answers-clause-front : goal.returns-in_err-answers-clause-front
returns-in_err-answers-clause-front g c =
    let e = err_from_is_err_and c.from_residual.result c.from_residual.ensures.1 in
    let w = c.args.self.now in
    rw e.1 (played_front w.session.setting (standing_of w) (standing_of w) c.args.steps.items [] c.args.steps.items [] (played_none w.session.setting (standing_of w)) refl)

-- the steps before this one are made
pub returns-in_err-answer-clause-front : goal.returns-in_err-answer-clause-front
returns-in_err-answer-clause-front g c =
    let e = err_from_is_err_and c.from_residual-in_err-answer.result c.from_residual-in_err-answer.ensures.1 in
    let w = c.args.self.now in
    let p = w.session.setting in
    let i = c.loop-step.invariant in
    let stands : standing_of c.step.new.self ≡ standing_of c.loop-step.self = c.in_err-answer.ensures.lacks.1 in
    rw e.1 (subst (λ (s : Standing). PlaysFront p (standing_of w) c.args.steps.items s) (sym stands)
    (played_front p (standing_of w) (standing_of c.loop-step.self) c.args.steps.items c.loop-step.yielded c.loop-step.step-iterator.rest.items c.loop-step.answers.items i.played i.rest))

-- this one is made too, but its answer isn't kept
pub returns-in_err-push-clause-front : goal.returns-in_err-push-clause-front
returns-in_err-push-clause-front g c =
    let e = err_from_is_err_and c.from_residual-in_err-push.result c.from_residual-in_err-push.ensures.1 in
    let w = c.args.self.now in
    let p = w.session.setting in
    let i = c.loop-step.invariant in
    let plays = subst (λ q. Plays q (standing_of c.loop-step.self) c.in-Some.step c.in_ok-answer.answer (standing_of c.step.new.self)) i.setting c.in_ok-answer.ensures.answer in
    let made = played_more p (standing_of w) (standing_of c.loop-step.self) (standing_of c.step.new.self) c.loop-step.yielded c.loop-step.answers.items c.in-Some.step c.in_ok-answer.answer i.played plays in
    rw e.1 (played_front p (standing_of w) (standing_of c.step.new.self) c.args.steps.items (c.loop-step.yielded ++ c.in-Some.step ∷ []) c.next.new.self.rest.items (c.loop-step.answers.items ++ c.in_ok-answer.answer ∷ []) made
    (one_less c.args.steps.items c.loop-step.yielded c.loop-step.step-iterator.rest.items c.next.new.self.rest.items c.in-Some.step i.rest c.in-Some.ensures.steps.0))
