use Rattle.pcef_rule.proofs.OrderOfRules.{one_goes_first}
use Rattle.pcef_rule.proofs.laws.rules_are_ordered.Goals as goal

pub returns : goal.returns
returns c = one_goes_first
