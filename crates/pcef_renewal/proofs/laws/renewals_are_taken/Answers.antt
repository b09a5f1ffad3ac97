use Rattle.pcef_renewal.proofs.Accepted.{renewal_taken}
use Rattle.pcef_renewal.proofs.laws.renewals_are_taken.Goals as goal

pub returns : goal.returns
returns c = renewal_taken
