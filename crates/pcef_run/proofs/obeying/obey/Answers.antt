use Rattle.std.proofs.Common.{rules, ◌≡◌, ◌∙◌, ◌++◌, ◌∷◌, [], All, refl, subst, sym}
use Rattle.std.proofs.lemmas.List.Elements.{All-nil, All-push}
use Rattle.pcef_model.specs.Outcomes.{CommandStep}
use Rattle.pcef_gateway.specs.Commanding.{FoundMemory}
use Rattle.pcef_run.specs.Runs.{Obeyed}
use Rattle.pcef_run.proofs.Obeyings.{obeyed_more}
use Rattle.pcef_run.proofs.obeying.obey.Goals as goal

pub loop-command-init : goal.loop-command-init
loop-command-init c = ((c.new-answers.ensures.items, refl), refl, subst (All FoundMemory) (sym c.new-answers.ensures.items) (All-nil FoundMemory))

pub loop-command-preserved : goal.loop-command-preserved
loop-command-preserved c =
    let at = c.loop-command in
    let p = c.args.session.now.session.setting in
    let before = c.args.session.now.session.journal in
    let command = c.in-Some.command in
    let answer = c.command.result in
    let after = c.command.new.self.session.journal in
    let step : CommandStep p command at.session.session.journal answer after = subst (λ q. CommandStep q command at.session.session.journal answer after) at.invariant.1 c.command.ensures.answer in
    let more : Obeyed p before (at.yielded ++ command ∷ []) (at.answers.items ++ answer ∷ []) after =
    obeyed_more p before at.session.session.journal after at.yielded at.answers.items command answer at.invariant.0 step in
    let found : FoundMemory answer = search rules in
    let pushed : c.push.new.self.items ≡ at.answers.items ++ answer ∷ [] = search rules in (
      subst (λ answers. Obeyed p before (at.yielded ++ command ∷ []) answers after) (sym pushed) more,
      c.command.ensures.setting ∙ at.invariant.1,
      subst (All FoundMemory) (sym pushed) (All-push FoundMemory at.answers.items answer at.invariant.2 found),
    )

pub returns-in-Err-NoMemory-clause-setting : goal.returns-in-Err-NoMemory-clause-setting
returns-in-Err-NoMemory-clause-setting c = c.command.ensures.setting ∙ c.loop-command.invariant.1

pub returns-in_err-push-in_default-clause-setting : goal.returns-in_err-push-in_default-clause-setting
returns-in_err-push-in_default-clause-setting c = c.command.ensures.setting ∙ c.loop-command.invariant.1

pub returns-clause-setting : goal.returns-clause-setting
returns-clause-setting c = c.loop-command.invariant.1

pub returns-clause-memory : goal.returns-clause-memory
returns-clause-memory c = c.loop-command.invariant.2
