use Rattle.pcef_renewal.proofs.Likeness.{needs_what_it_says, renewal_like}
use Rattle.pcef_renewal.proofs.laws.new_sessions_are_like_old_ones.Goals as goal

pub returns-clause-like : goal.returns-clause-like
returns-clause-like c = renewal_like

pub returns-clause-need : goal.returns-clause-need
returns-clause-need c = needs_what_it_says
