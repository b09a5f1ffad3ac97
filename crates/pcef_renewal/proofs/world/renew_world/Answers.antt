use Rattle.std.proofs.Common.{◌∙◌, ap, subst}
use Rattle.pcef_model.specs.Lawful.{Lawful}
use Rattle.pcef_session.specs.SessionModel.{SessionModel}
use Rattle.pcef_renewal.specs.Renewal.{renewal}
use Rattle.pcef_renewal.proofs.Likeness.{new_is_like}
use Rattle.pcef_renewal.proofs.world.renew_world.Goals as goal

pub begin-requires-clause-list : goal.begin-requires-clause-list
begin-requires-clause-list g c =
    c.deref.ensures.value ∙ c.in-Ok.ensures.list ∙ ap (λ (s : SessionModel). renewal s.setting s.journal) c.session.ensures.session

pub returns-in-Ok-command-clause-like : goal.returns-in-Ok-command-clause-like
returns-in-Ok-command-clause-like g c =
    new_is_like c.args.world.now.session c.in-Ok-begin.new.session (subst (λ (s : SessionModel). Lawful s.setting s.journal) c.session.ensures.session c.in-Ok.ensures.lawful)
    c.in-Ok-begin.ensures
