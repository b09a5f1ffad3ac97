-- The exit statuses.
use Rattle.std.specs.Prelude.{ℕ}
use Rattle.pcef_capture_script.specs.declared.end.End.{End}
use Rattle.pcef_capture_script.specs.declared.end.End.TheVariants.{Done, Capture, NoMemory, Read, Write}

abbrev pub capture_status : End → ℕ
capture_status Done = 0
capture_status (Capture fault) = 1
capture_status NoMemory = 3
capture_status (Read error) = 4
capture_status (Write error) = 4
