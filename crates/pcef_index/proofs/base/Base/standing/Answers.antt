use Rattle.pcef_index.proofs.Running.{all_stand_in}
use Rattle.pcef_index.proofs.base.Base.standing.Goals as goal

pub returns-then-all : goal.returns-then-all
returns-then-all c = all_stand_in c.args.self.now c.args.places.now
