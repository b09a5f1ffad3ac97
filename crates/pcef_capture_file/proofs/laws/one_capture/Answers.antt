use Rattle.pcef_capture_file.proofs.BlockReadings.{capture_once}
use Rattle.pcef_capture_file.proofs.laws.one_capture.Goals as goal

pub returns : goal.returns
returns c = capture_once
