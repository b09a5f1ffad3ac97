use Rattle.pcef_diameter.proofs.Spelled.{avps_spelled, header_spelled, zeros_spelled}
use Rattle.pcef_diameter.proofs.laws.nothing_else_is_read.Goals as goal

pub returns-clause-avps : goal.returns-clause-avps
returns-clause-avps c = avps_spelled

pub returns-clause-zeros : goal.returns-clause-zeros
returns-clause-zeros c = zeros_spelled

pub returns-clause-header : goal.returns-clause-header
returns-clause-header c = header_spelled
