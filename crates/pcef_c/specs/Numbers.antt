-- The numbers that C gets (own choice). `include/pcef.h` has a name for each.
use Rattle.std.specs.Prelude.{ℕ, Bool, true, false, Result, Ok, Err}
use Rattle.pcef_model.specs.declared.answer.OpenFault.{OpenFault}
use Rattle.pcef_model.specs.declared.answer.OpenFault.TheVariants as opening
use Rattle.pcef_packet.specs.declared.header.PacketFault.{PacketFault}
use Rattle.pcef_packet.specs.declared.header.PacketFault.TheVariants as fault
use Rattle.pcef_profile.specs.ProfileOf.{profile_fault_number}
use Rattle.pcef_handle.specs.declared.line.CallRefusal.{CallRefusal}
use Rattle.pcef_handle.specs.declared.line.CallRefusal.TheVariants as call
use Rattle.pcef_handle.specs.declared.opening.OpenRefusal.{OpenRefusal}
use Rattle.pcef_handle.specs.declared.opening.OpenRefusal.TheVariants as refusal

-- ---- opening
-- no session can have the profile: the numbers of the same faults in its text
abbrev pub session_number : OpenFault → ℕ
session_number opening.UnknownQci = 5
session_number opening.DefaultIsGbr = 6
session_number opening.NoMemory = 7

abbrev pub open_number : Result (Unit {0}) OpenRefusal → ℕ
open_number (Ok done) = 0
open_number (Err (refusal.Profile fault)) = profile_fault_number fault
open_number (Err (refusal.Session fault)) = session_number fault
open_number (Err refusal.NoMemory) = 7
open_number (Err refusal.NotUtf8) = 8
open_number (Err refusal.AlreadyOpen) = 9

-- ---- texts and reports: the length or the count, or one of the three highest numbers
abbrev pub length_number : Result ℕ CallRefusal → ℕ
length_number (Ok length) = length
length_number (Err call.NoSession) = 18446744073709551615
length_number (Err call.NoMemory) = 18446744073709551614
length_number (Err call.Forgotten) = 18446744073709551613

-- ---- verdicts
-- why octets are no packet: the numbers behind those of verdicts
abbrev pub packet_number : PacketFault → ℕ
packet_number fault.Empty = 5
packet_number fault.Version = 6
packet_number fault.ShortHeader = 7
packet_number fault.BadHeaderLength = 8
packet_number fault.BadTotalLength = 9

-- 1 where it is so
abbrev pub flag_number : Bool → ℕ
flag_number true = 1
flag_number false = 0
