use Rattle.pcef_world.proofs.ApartWorkers.{lacks_apart}
use Rattle.pcef_world.proofs.apart.ApartWorker.take.Goals as goal

pub returns-clause-lacks : goal.returns-clause-lacks
returns-clause-lacks g c = lacks_apart c.take_by_flows.result c.args.self.now c.take_by_flows.new.self c.take_by_flows.ensures.lacks
