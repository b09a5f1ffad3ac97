-- The numbers that C gets of what a worker and its session do together (own choice). `include/pcef.h` has a name for each.
use Rattle.std.specs.Prelude.{ℕ, Option, Some, None, Result, Ok, Err}
use Rattle.pcef_model.specs.declared.answer.AttachFault.TheVariants as fault
use Rattle.pcef_model.specs.declared.answer.FlushRefusal.TheVariants as flushing
use Rattle.pcef_handle.specs.declared.attached.AttachRefusal.{AttachRefusal}
use Rattle.pcef_handle.specs.declared.attached.AttachRefusal.TheVariants as attaching
use Rattle.pcef_handle.specs.declared.attached.MeetRefusal.{MeetRefusal}
use Rattle.pcef_handle.specs.declared.attached.MeetRefusal.TheVariants as meeting

-- a worker's number, or one above all of them
abbrev pub attach_number : Result ℕ AttachRefusal → ℕ
attach_number (Ok number) = number
attach_number (Err attaching.NoSession) = 64
attach_number (Err attaching.AlreadyAttached) = 65
attach_number (Err (attaching.Session fault.NoPlace)) = 66
attach_number (Err (attaching.Session fault.Closed)) = 67
attach_number (Err (attaching.Session fault.NoMemory)) = 68

-- a refusal is one of the highest numbers; the third one is that of a report that is forgotten
abbrev pub meet_number : MeetRefusal → ℕ
meet_number meeting.NoSession = 18446744073709551615
meet_number (meeting.Session flushing.NoMemory) = 18446744073709551614
meet_number meeting.NoWorker = 18446744073709551612
meet_number meeting.OtherSession = 18446744073709551611
meet_number (meeting.Session flushing.NotAttached) = 18446744073709551610
meet_number (meeting.Session flushing.RowsFull) = 18446744073709551609

abbrev pub generation_number : Option ℕ → ℕ
generation_number (Some generation) = generation
generation_number None = 18446744073709551615

-- the number of the generation that is held then
abbrev pub refresh_number : Result ℕ MeetRefusal → ℕ
refresh_number (Ok generation) = generation
refresh_number (Err refusal) = meet_number refusal

-- the number of the next report
abbrev pub report_number : Result ℕ MeetRefusal → ℕ
report_number (Ok next) = next
report_number (Err refusal) = meet_number refusal

-- how many rows never count
abbrev pub never_counted : Result ℕ MeetRefusal → ℕ
never_counted (Ok rows) = rows
never_counted (Err refusal) = meet_number refusal
