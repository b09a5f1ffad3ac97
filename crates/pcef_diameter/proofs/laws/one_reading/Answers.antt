use Rattle.pcef_diameter.proofs.Readings.{read_once}
use Rattle.pcef_diameter.proofs.laws.one_reading.Goals as goal

pub returns : goal.returns
returns c = read_once
