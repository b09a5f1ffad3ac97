use Rattle.pcef_handle.proofs.Judged.{judged_newest}
use Rattle.pcef_handle.proofs.held.OpenSession.judge.Goals as goal

pub returns-clause-brief : goal.returns-clause-brief
returns-clause-brief c = judged_newest c.args.self.now.world.session c.args.header.now c.judge.result c.judge.ensures.brief
