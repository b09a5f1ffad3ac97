use Rattle.pcef_core.proofs.LeastIds.{least_free}
use Rattle.pcef_core.proofs.laws.new_bearers_take_the_least_id.Goals as goal

pub returns : goal.returns
returns c = least_free
