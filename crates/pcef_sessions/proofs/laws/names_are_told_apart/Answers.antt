use Rattle.pcef_sessions.proofs.Told.{told_apart}
use Rattle.pcef_sessions.proofs.laws.names_are_told_apart.Goals as goal

pub returns : goal.returns
returns c = told_apart
