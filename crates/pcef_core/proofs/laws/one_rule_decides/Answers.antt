use Rattle.pcef_model.specs.Journals.{now, tables}
use Rattle.pcef_model.proofs.Decisive.{made_once}
use Rattle.pcef_core.proofs.Foremost.{one_decides}
use Rattle.pcef_core.proofs.laws.one_rule_decides.Goals as goal

pub returns : goal.returns
returns c = λ p j header. one_decides (now p j).rules p.ue header (made_once p (tables j))
