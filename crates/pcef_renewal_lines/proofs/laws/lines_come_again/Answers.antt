use Rattle.std.proofs.Common.{ap, refl}
use Rattle.pcef_model.specs.Generations.{made_by, slots_of}
use Rattle.pcef_model.specs.Journals.{subscribed}
use Rattle.pcef_renewal.proofs.Renumbered.{comes_again}
use Rattle.pcef_renewal_lines.specs.Lines.{lines_for}
use Rattle.pcef_renewal_lines.proofs.laws.lines_come_again.Goals as goal

pub returns-clause-first : goal.returns-clause-first
unfolding slots_of made_by subscribed
returns-clause-first c = λ p. refl

pub returns-clause-again : goal.returns-clause-again
returns-clause-again c = λ p j lawful. ap (lines_for p.ue) (comes_again p j lawful)
