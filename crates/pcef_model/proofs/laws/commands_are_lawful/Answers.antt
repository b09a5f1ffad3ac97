use Rattle.pcef_model.proofs.Budget.{commands_are_within}
use Rattle.pcef_model.proofs.laws.commands_are_lawful.Goals as goal

pub returns : goal.returns
returns c = record { within = commands_are_within }
