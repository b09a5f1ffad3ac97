use Rattle.pcef_gx.proofs.Names as names
use Rattle.pcef_gx.proofs.laws.names_go_back.Goals as goal

pub returns : goal.returns
returns c = names.names_go_back
