use Rattle.pcef_capture_file.proofs.Readings.{read_once}
use Rattle.pcef_capture_file.proofs.laws.one_reading.Goals as goal

pub returns : goal.returns
returns c = read_once
