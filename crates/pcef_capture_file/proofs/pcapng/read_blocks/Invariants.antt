use Rattle.std.proofs.Common.{length, map}
use Rattle.pcef_capture_file.specs.Captured.{captured}
use Rattle.pcef_capture_file.specs.Sections.{standing}
use Rattle.pcef_capture_file.proofs.BlockReadings.{ReadSoFar}
use Rattle.pcef_capture_file.proofs.pcapng.read_blocks.Given as goal

abbrev pub invariant-loop-rest : goal.invariant-loop-rest
invariant-loop-rest l = ReadSoFar l.octets (map captured l.packets.items) (standing l.section) l.rest

abbrev pub decreases-loop-rest : goal.decreases-loop-rest
decreases-loop-rest l = length l.rest
