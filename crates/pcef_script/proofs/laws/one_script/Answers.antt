use Rattle.pcef_answer.proofs.OneShow.{one_show}
use Rattle.pcef_script.proofs.OneScript.{one_script}
use Rattle.pcef_script.proofs.laws.one_script.Goals as goal

pub returns-clause-show : goal.returns-clause-show
returns-clause-show c = one_show

pub returns-clause-script : goal.returns-clause-script
returns-clause-script c = one_script
