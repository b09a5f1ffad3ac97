use Rattle.pcef_gx_dialogue.proofs.Told.{answered_told, octets_add, untold_next}
use Rattle.pcef_gx_dialogue.proofs.laws.ccrs_add_up.Goals as goal

pub returns-clause-next : goal.returns-clause-next
returns-clause-next c = untold_next

pub returns-clause-answered : goal.returns-clause-answered
returns-clause-answered c = answered_told

pub returns-clause-octets : goal.returns-clause-octets
returns-clause-octets c = octets_add
