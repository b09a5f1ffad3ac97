use Rattle.std.proofs.Common.{subst}
use Rattle.std.specs.Prelude.{Option}
use Rattle.std.specs.Option.{option_map}
use Rattle.pcef_model.specs.ActiveRules.{predefined}
use Rattle.pcef_model.specs.Setting.{offer_named}
use Rattle.pcef_session.specs.declared.prepared.Activation.{Activation}
use Rattle.pcef_session.specs.Preparing.{Activates}
use Rattle.pcef_session.proofs.Refused.{install_free, install_offered}
use Rattle.pcef_session.proofs.state.SessionState.install_refusal.Goals as goal

pub returns-in-Some : goal.returns-in-Some
returns-in-Some c =
    let p = c.args.self.now.setting in
    install_offered p c.args.self.now.journal c.args.rule.now c.in-Some._rule
    (subst (λ (x : Option Activation). Activates p (option_map predefined (offer_named p c.args.rule.now.name)) x) c.in-Some.is c.find_offered.ensures)

pub returns : goal.returns
returns c =
    let p = c.args.self.now.setting in
    install_free p c.args.self.now.journal c.args.rule.now c.becoming_active.result
    (subst (λ (x : Option Activation). Activates p (option_map predefined (offer_named p c.args.rule.now.name)) x) c.in_default.is c.find_offered.ensures)
    c.becoming_active.ensures
