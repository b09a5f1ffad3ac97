use Rattle.std.proofs.Common.{◌≡◌, Some, None, subst, sym, refl, true}
use Rattle.pcef_bearer.specs.Bindings.{Binding}
use Rattle.pcef_bearer.specs.BindingSteps.{binding_refusals as bound_refusals, without_bound}
use Rattle.pcef_model.specs.Refusals.{first_of, refusals, becoming_active}
use Rattle.pcef_model.specs.Outcomes.{changes}
use Rattle.pcef_model.specs.Commands.{activated}
use Rattle.pcef_model.proofs.Acceptance.{activation_accepted}
use Rattle.pcef_session.specs.Preparing.{Activates}
use Rattle.pcef_session.specs.SessionModel.{SessionModel}
use Rattle.pcef_session.specs.private.Soundness.{held_of}
use Rattle.pcef_session.proofs.Acceptance.{binds_rule}
use Rattle.pcef_session.proofs.Activations.{brought}
use Rattle.pcef_session.proofs.state.SessionState.bearer_for_rule.Goals as goal

pub bearer_for-requires : goal.bearer_for-requires
bearer_for-requires c =
    let v = held_of c.self.inside in
    let p = v.setting in
    let command = c.args.command.now in
    let x = c.in-Some.rule.now in
    let accepted = subst (λ (m : SessionModel). first_of (refusals m.setting m.journal command) ≡ None) (sym c.self.view_is) c.requires.accepted in
    let changing = subst (λ (m : SessionModel). changes m.setting m.journal command ≡ true) (sym c.self.view_is) c.requires.changing in
    let b = brought p command (Some x) x refl (subst (λ (m : SessionModel). Activates m.setting (activated m.setting command) (Some x)) (sym c.self.view_is) (rw c.in-Some.is at c.requires.rule)) in
    let can = activation_accepted p v.journal command b.rule accepted changing b.becomes in
    let binds = (binds_rule p v.journal x.properties (subst (λ q. first_of (becoming_active p v.journal q) ≡ None) (sym b.is_of.properties_are) can)).accepted in
    subst (λ (y : Binding). first_of (bound_refusals y (without_bound x.properties.name y.bound) x.properties.qos x.properties.rates) ≡ None) (sym c.self.invariant.agrees.binding_is) binds
