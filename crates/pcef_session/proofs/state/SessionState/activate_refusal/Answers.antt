use Rattle.std.proofs.Common.{◌∙◌, sym, subst}
use Rattle.std.specs.Prelude.{Option}
use Rattle.std.specs.Option.{option_map}
use Rattle.pcef_model.specs.ActiveRules.{predefined}
use Rattle.pcef_model.specs.Setting.{offer_named}
use Rattle.pcef_session.specs.declared.prepared.Activation.{Activation}
use Rattle.pcef_session.specs.Preparing.{Activates}
use Rattle.pcef_session.proofs.Refused.{activate_again, activate_new}
use Rattle.pcef_session.proofs.state.SessionState.activate_refusal.Goals as goal

pub returns-then-is_active : goal.returns-then-is_active
returns-then-is_active c =
    let p = c.args.self.now.setting in
    activate_again p c.args.self.now.journal c.args.name.now c.in-Some.rule
    (subst (λ (x : Option Activation). Activates p (option_map predefined (offer_named p c.args.name.now)) x) c.in-Some.is c.find_offered.ensures)
    (sym c.is_active.ensures ∙ c.if-is_active.true)

pub returns : goal.returns
returns c =
    let p = c.args.self.now.setting in
    activate_new p c.args.self.now.journal c.args.name.now c.in-Some.rule c.becoming_active.result
    (subst (λ (x : Option Activation). Activates p (option_map predefined (offer_named p c.args.name.now)) x) c.in-Some.is c.find_offered.ensures)
    (sym c.is_active.ensures ∙ c.if-is_active.false) c.becoming_active.ensures
