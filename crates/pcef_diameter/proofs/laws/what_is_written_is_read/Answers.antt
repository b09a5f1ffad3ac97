use Rattle.pcef_diameter.proofs.Again.{avps_again, header_again}
use Rattle.pcef_diameter.proofs.laws.what_is_written_is_read.Goals as goal

pub returns-clause-avps : goal.returns-clause-avps
returns-clause-avps c = avps_again

pub returns-clause-header : goal.returns-clause-header
returns-clause-header c = header_again
