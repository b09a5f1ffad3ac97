-- Steps one after the other, and one more.
use Rattle.std.proofs.Common.{◌≡◌, ◌∙◌, List, [], ◌∷◌, ◌++◌, ap, refl, sym}
use Rattle.std.proofs.lemmas.List.{map-append}
use Rattle.pcef_model.specs.Setting.{Setting}
use Rattle.pcef_model.specs.declared.step.Step.{Step}
use Rattle.pcef_world.specs.declared.answer.StepAnswer.{StepAnswer}
use Rattle.pcef_world.specs.Steps.{Played, Plays, PlaysFront, Standing, play, reply_of, step_outcome}

-- the replies to some steps, and to one more
replies_more : (p : Setting) (s : Standing) (steps : List Step) (step : Step) →
    (play p s (steps ++ step ∷ [])).0 ≡ (play p s steps).0 ++ (step_outcome p (play p s steps).1 step).0 ∷ []
unfolding play
replies_more p s [] step = refl
replies_more p s (t ∷ steps) step = ap (λ rs. (step_outcome p s t).0 ∷ rs) (replies_more p (step_outcome p s t).1 steps step)

-- how all stands then
stands_more : (p : Setting) (s : Standing) (steps : List Step) (step : Step) →
    (play p s (steps ++ step ∷ [])).1 ≡ (step_outcome p (play p s steps).1 step).1
unfolding play
stands_more p s [] step = refl
stands_more p s (t ∷ steps) step = stands_more p (step_outcome p s t).1 steps step

pub played_more : (p : Setting) (before between after : Standing) (steps : List Step) (answers : List StepAnswer) (s : Step) (a : StepAnswer) →
    Played p before steps answers between → Plays p between s a after → Played p before (steps ++ s ∷ []) (answers ++ a ∷ []) after
played_more p before between after steps answers s a played plays =
    let due : Standing = (play p before steps).1 in (
      map-append reply_of answers (a ∷ [])
          ∙ ap (λ rs. rs ++ reply_of a ∷ []) played.0
          ∙ ap (λ r. (play p before steps).0 ++ r ∷ []) (plays.0 ∙ ap (λ (x : Standing). (step_outcome p x s).0) played.1)
          ∙ (let more : (play p before (steps ++ s ∷ [])).0 ≡ (play p before steps).0 ++ (step_outcome p due s).0 ∷ [] = replies_more p before steps s in sym more),
      plays.1 ∙ ap (λ (x : Standing). (step_outcome p x s).1) played.1 ∙ sym (stands_more p before steps s),
    )

pub played_none : (p : Setting) (before : Standing) → Played p before [] [] before
unfolding play
played_none p before = (refl, refl)

-- the steps that were made, and those that weren't
pub played_front : (p : Setting) (before after : Standing) (steps made rest : List Step) (answers : List StepAnswer) →
    Played p before made answers after → steps ≡ made ++ rest → PlaysFront p before steps after
played_front p before after steps made rest answers played whole = (made, rest, whole, played.1)
