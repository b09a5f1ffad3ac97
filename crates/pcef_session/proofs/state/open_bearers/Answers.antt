use Rattle.std.proofs.Common.{[], subst}
use Rattle.std.specs.Result.{result_err}
use Rattle.pcef_model.specs.Outcomes.{Opens}
use Rattle.pcef_model.specs.ProfileModel.{ProfileModel, setting_of}
use Rattle.pcef_session.proofs.FirstSession.{opens_as_made}
use Rattle.pcef_session.proofs.state.open_bearers.Goals as goal

pub returns-clause-answer : goal.returns-clause-answer
returns-clause-answer c =
    let p = c.profile.inside in
    subst (λ (t : ProfileModel). Opens (setting_of t []) (result_err c.new.result)) c.profile.view_is
    (opens_as_made (setting_of (record { ue = p.ue; default_qos = p.default_qos; capacity = p.capacity; qcis = p.qcis; rows = p.rows; commands = p.commands }) [])
    c.new.result c.new.ensures.unknown c.new.ensures.gbr c.new.ensures.accepted)
