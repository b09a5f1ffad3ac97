use Rattle.pcef_renewal.proofs.Deciding.{counted_alike, decided_alike, octets_add_up}
use Rattle.pcef_renewal.proofs.laws.like_sessions_judge_alike.Goals as goal

pub returns-clause-decide : goal.returns-clause-decide
returns-clause-decide c = decided_alike

pub returns-clause-count : goal.returns-clause-count
returns-clause-count c = counted_alike

pub returns-clause-octets : goal.returns-clause-octets
returns-clause-octets c = octets_add_up
