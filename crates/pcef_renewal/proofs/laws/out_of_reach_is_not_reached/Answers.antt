use Rattle.pcef_renewal.proofs.Reaching.{not_reached}
use Rattle.pcef_renewal.proofs.laws.out_of_reach_is_not_reached.Goals as goal

pub returns : goal.returns
returns c = not_reached
