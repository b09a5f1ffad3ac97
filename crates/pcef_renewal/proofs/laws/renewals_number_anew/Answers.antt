use Rattle.pcef_renewal.proofs.Anew.{begins_anew}
use Rattle.pcef_renewal.proofs.Renumbered.{comes_again, renumbered, slots_new}
use Rattle.pcef_renewal.proofs.laws.renewals_number_anew.Goals as goal

pub returns-clause-bearers : goal.returns-clause-bearers
returns-clause-bearers c = renumbered

pub returns-clause-slots : goal.returns-clause-slots
returns-clause-slots c = slots_new

pub returns-clause-counts : goal.returns-clause-counts
returns-clause-counts c = begins_anew

pub returns-clause-again : goal.returns-clause-again
returns-clause-again c = comes_again
