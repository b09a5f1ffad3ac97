use Rattle.std.proofs.Common.{subst}
use Rattle.pcef_model.specs.Lawful.{Lawful}
use Rattle.pcef_session.specs.SessionModel.{SessionModel}
use Rattle.pcef_renewal.proofs.Played.{opened_takes}
use Rattle.pcef_renewal.proofs.world.begin.Goals as goal

pub play-requires-clause-taken : goal.play-requires-clause-taken
play-requires-clause-taken g c =
    let lawful = subst (λ (s : SessionModel). Lawful s.setting s.journal) c.session.ensures.session c.journal-journal.ensures.lawful in
    opened_takes c.args.world.now.session c.in_ok-new.new.session c.args.list.now lawful (c.in_ok-new.ensures.0, c.in_ok-new.ensures.1, c.in_ok-new.ensures.3) c.requires.list
