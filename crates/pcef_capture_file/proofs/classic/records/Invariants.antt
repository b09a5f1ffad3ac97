use Rattle.std.proofs.Common.{List, ◌++◌, Option, length, map}
use Rattle.pcef_capture_file.specs.Captured.{Captured, captured, Reads}
use Rattle.pcef_capture_file.specs.Classic.{record_of}
use Rattle.pcef_capture_file.specs.declared.fault.CaptureFault.{CaptureFault}
use Rattle.pcef_capture_file.proofs.classic.records.Given as goal

-- whatever is read of the rest is read of all behind the packets so far
abbrev pub invariant-loop-rest : goal.invariant-loop-rest
invariant-loop-rest l =
    (packets : List Captured) (fault : Option CaptureFault)
    → Reads (record_of l.header) l.rest packets fault
    → Reads (record_of l.header) l.octets (map captured l.packets.items ++ packets) fault

abbrev pub decreases-loop-rest : goal.decreases-loop-rest
decreases-loop-rest l = length l.rest
