-- Which faults more octets may mend: for private clauses.
use Rattle.std.specs.Prelude.{Some}
use Rattle.pcef_capture_file.specs.declared.fault.CaptureFault.{CaptureFault}
use Rattle.pcef_capture_file.specs.declared.fault.CaptureFault.TheVariants as fault
use Rattle.pcef_capture_file.specs.declared.stop.Stop.{Stop}
use Rattle.pcef_capture_file.specs.declared.stop.Stop.TheVariants as stop

-- a record ends beyond the octets at hand, unless it is too long
abbrev pub record_stop : CaptureFault → Stop
record_stop fault.TooLong = stop.Fault fault.TooLong
record_stop other = stop.Waits (Some other)

-- only a cut block does
abbrev pub block_stop : CaptureFault → Stop
block_stop fault.CutBlock = stop.Waits (Some fault.CutBlock)
block_stop other = stop.Fault other

-- what a whole block has doesn't change
abbrev pub content_stop : CaptureFault → Stop
content_stop fault.NoMemory = stop.NoMemory
content_stop other = stop.Fault other
