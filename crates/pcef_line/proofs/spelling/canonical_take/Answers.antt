use Rattle.pcef_line.proofs.Canonical.{take_due}
use Rattle.pcef_line.proofs.spelling.canonical_take.Goals as goal

pub returns-in-Ok : goal.returns-in-Ok
returns-in-Ok c =
    let x = c.in_ok-worker in
    take_due x.worker x.dir x.packet.now c.args.text.now c.in-Ok.header x.ensures.small x.ensures.spelled c.in-Ok.ensures
