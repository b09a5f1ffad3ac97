use Rattle.std.proofs.Common.{◌≡◌, ◌∙◌, subst, ap, nat_le, length}
use Rattle.pcef_model.specs.Journals.{now}
use Rattle.pcef_session.specs.SessionModel.{SessionModel}
use Rattle.pcef_model.specs.ProfileModel.{setting_of}
use Rattle.pcef_session.proofs.KeptRules.{kept_length}
use Rattle.pcef_session.proofs.state.SessionState.finds_no_place.Goals as goal

pub returns-then-not-is_active : goal.returns-then-not-is_active
returns-then-not-is_active c =
    let p = setting_of c.self.inside.profile c.self.inside.listing in
    let few = subst (λ (v : SessionModel). nat_le 64 c.len.result ≡ nat_le 64 (length (now v.setting v.journal).rules)) c.self.view_is
    (ap (nat_le 64) (c.len.ensures ∙ kept_length c.self.inside.listing c.self.inside.active.rules (now p c.self.inside.counted.journal).rules c.self.invariant.agrees.rules_are)) in
    rw (← c.is_active.ensures, c.if-not-is_active.true) few
