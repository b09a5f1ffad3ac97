use Rattle.pcef_renewal.proofs.GoingOn.{go_on_alike}
use Rattle.pcef_renewal.proofs.laws.sessions_go_on_alike.Goals as goal

pub returns : goal.returns
returns c = go_on_alike
