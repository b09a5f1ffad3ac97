-- The numbers of faults.
use Rattle.std.specs.Prelude.{ℕ}
use Rattle.pcef_capture_file.specs.declared.fault.CaptureFault.{CaptureFault}
use Rattle.pcef_capture_file.specs.declared.fault.CaptureFault.TheVariants.{NotACapture, CutHeader, Version, LinkType, CutRecord, CutPacket, CutBlock, BlockLength, ByteOrder, UnknownInterface, TooLong, TooManyInterfaces, NoMemory}

abbrev pub capture_fault_number : CaptureFault → ℕ
capture_fault_number NotACapture = 1
capture_fault_number CutHeader = 2
capture_fault_number Version = 3
capture_fault_number LinkType = 4
capture_fault_number CutRecord = 5
capture_fault_number CutPacket = 6
capture_fault_number CutBlock = 7
capture_fault_number BlockLength = 8
capture_fault_number ByteOrder = 9
capture_fault_number UnknownInterface = 10
capture_fault_number TooLong = 11
capture_fault_number TooManyInterfaces = 12
capture_fault_number NoMemory = 13
