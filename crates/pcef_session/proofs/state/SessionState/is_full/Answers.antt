use Rattle.std.proofs.Common.{◌≡◌, ◌∙◌, ap, false, length, refl, subst, nat_le}
use Rattle.pcef_model.specs.Entries.{Journal, commands}
use Rattle.pcef_model.specs.Refusals.{limited_count, was_closed, was_terminated}
use Rattle.pcef_model.specs.ProfileModel.{setting_of}
use Rattle.pcef_session.specs.SessionModel.{SessionModel}
use Rattle.pcef_session.proofs.Refused.{full_is}
use Rattle.pcef_session.proofs.state.SessionState.is_full.Goals as goal

pub returns : goal.returns
returns c =
    let s = c.self.inside in
    subst (λ (v : SessionModel). was_closed v.journal ≡ false → was_terminated v.journal ≡ false → nat_le c.commands_of.result c.commands_len.result ≡ nat_le v.setting.commands (limited_count v.journal)) c.self.view_is
    (λ unclosed living. full_is (setting_of s.profile s.listing) s.counted.journal c.commands_len.result c.commands_of.result _
    (c.commands_len.ensures ∙ ap (λ (j : Journal). length (commands j)) c.journal.ensures.entries) c.commands_of.ensures refl unclosed living)
