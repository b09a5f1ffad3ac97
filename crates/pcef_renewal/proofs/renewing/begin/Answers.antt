use Rattle.pcef_renewal.proofs.Played.{opened_takes}
use Rattle.pcef_renewal.proofs.renewing.begin.Goals as goal

pub play-requires : goal.play-requires
play-requires c = opened_takes c.args.session.now c.in_ok-new.new c.args.list.now c.journal-journal.ensures.lawful c.in_ok-new.ensures c.requires
