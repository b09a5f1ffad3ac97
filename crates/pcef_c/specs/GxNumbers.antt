-- The numbers that C gets of a session over Gx (own choice). `include/pcef.h` has a name for each.
use Rattle.std.specs.Prelude.{ℕ, Option, Some, None, is_some, Result, Ok, Err}
use Rattle.pcef_gx_dialogue.specs.declared.answering.LeftToHost.{LeftToHost}
use Rattle.pcef_gx_dialogue.specs.declared.granting.Grant.TheVariants as grant
use Rattle.pcef_gx_dialogue.specs.declared.responder.RarDone.TheVariants as done
use Rattle.pcef_gx_handle.specs.declared.ending.EndRefusal.{EndRefusal}
use Rattle.pcef_gx_handle.specs.declared.ending.EndRefusal.TheVariants as ending
use Rattle.pcef_gx_handle.specs.declared.ending.NoticeRefusal.{NoticeRefusal}
use Rattle.pcef_gx_handle.specs.declared.ending.NoticeRefusal.TheVariants as notice
use Rattle.pcef_gx_handle.specs.declared.hearing.Heard.{Heard}
use Rattle.pcef_gx_handle.specs.declared.hearing.Heard.TheVariants as heard
use Rattle.pcef_gx_handle.specs.declared.hearing.HearRefusal.{HearRefusal}
use Rattle.pcef_gx_handle.specs.declared.hearing.HearRefusal.TheVariants as hearing
use Rattle.pcef_gx_handle.specs.declared.held.Stage.{Stage}
use Rattle.pcef_gx_handle.specs.declared.held.Stage.TheVariants as stage
use Rattle.pcef_gx_handle.specs.declared.opening.BeginRefusal.{BeginRefusal}
use Rattle.pcef_gx_handle.specs.declared.opening.BeginRefusal.TheVariants as beginning
use Rattle.pcef_gx_handle.specs.declared.renewing.GoOnRefusal.{GoOnRefusal}
use Rattle.pcef_gx_handle.specs.declared.renewing.GoOnRefusal.TheVariants as going
use Rattle.pcef_gx_handle.specs.declared.telling.NextRefusal.{NextRefusal}
use Rattle.pcef_gx_handle.specs.declared.telling.NextRefusal.TheVariants as telling
use Rattle.pcef_gx_messages.specs.declared.requesting.RequestKind.{RequestKind}
use Rattle.pcef_gx_messages.specs.declared.requesting.RequestKind.TheVariants as kind
use Rattle.pcef_model.specs.declared.answer.Refusal.TheVariants as refusal
use Rattle.pcef_c.specs.GxPorts.{nothing_left}
use Rattle.pcef_c.specs.Numbers.{flag_number, open_number}
use Rattle.pcef_c.specs.declared.gx_port.CLeft.{CLeft}

-- those of a profile are the numbers that `pcef_open` has for it
abbrev pub begin_number : Result (Unit {0}) BeginRefusal → ℕ
begin_number (Ok begun) = 0
begin_number (Err (beginning.Profile why)) = open_number (Err why)
begin_number (Err beginning.NoMemory) = 7
begin_number (Err beginning.AlreadyBegun) = 9
begin_number (Err beginning.NotAvps) = 10

abbrev pub hear_number : Result Heard HearRefusal → ℕ
hear_number (Ok (heard.Answered (done.Done left))) = 0
hear_number (Ok (heard.Answered done.Repeated)) = 1
hear_number (Ok heard.Refused) = 2
hear_number (Ok (heard.Told grant.Done left)) = 3
hear_number (Ok (heard.Told grant.CutShort left)) = 4
hear_number (Ok heard.Ended) = 5
hear_number (Ok (heard.NotOpened fault)) = 6
hear_number (Ok (heard.Failed code)) = 7
hear_number (Err hearing.NoDialogue) = 32
hear_number (Err hearing.NoMessage) = 33
hear_number (Err hearing.NotOurs) = 34
hear_number (Err (hearing.AtFault problem)) = 35
hear_number (Err hearing.OtherSession) = 36
hear_number (Err hearing.AlreadyOpen) = 37
hear_number (Err hearing.NoMemory) = 38

-- ---- what a message leaves to the host
abbrev pub release_left : Option ℕ → CLeft → CLeft
release_left (Some cause) left = record left { release = cause; has_release = 1 }
release_left None left = left

abbrev pub left_numbers : LeftToHost → CLeft
left_numbers left = release_left left.release (record nothing_left { has_triggers = flag_number (is_some left.others) })

abbrev pub result_left : Option ℕ → CLeft
result_left (Some code) = record nothing_left { result_code = code; has_result_code = 1 }
result_left None = nothing_left

abbrev pub heard_left : Heard → CLeft
heard_left (heard.Answered (done.Done left)) = left_numbers left
heard_left (heard.Told grant left) = left_numbers left
heard_left (heard.Failed code) = result_left code
heard_left other = nothing_left

-- one that isn't heard leaves what was left
abbrev pub left_after : Result Heard HearRefusal → CLeft → CLeft
left_after (Ok h) before = heard_left h
left_after (Err why) before = before

-- ---- CCRs: the CC-Request-Type of the one that goes out, or 0
abbrev pub next_number : Result (Option RequestKind) NextRefusal → ℕ
next_number (Ok None) = 0
next_number (Ok (Some kind.Initial)) = 1
next_number (Ok (Some kind.Update)) = 2
next_number (Ok (Some kind.Termination)) = 3
next_number (Err telling.NoDialogue) = 32
next_number (Err telling.OtherSession) = 36
next_number (Err telling.NoMemory) = 38
next_number (Err telling.Forgotten) = 39
next_number (Err telling.NoNumber) = 40

abbrev pub end_number : Result (Unit {0}) EndRefusal → ℕ
end_number (Ok ended) = 0
end_number (Err ending.NoDialogue) = 32
end_number (Err ending.OtherSession) = 36
end_number (Err ending.NoMemory) = 38
end_number (Err ending.WorkersAttached) = 41

abbrev pub go_on_number : Result (Unit {0}) GoOnRefusal → ℕ
go_on_number (Ok renewed) = 0
go_on_number (Err going.NoDialogue) = 32
go_on_number (Err going.OtherSession) = 36
go_on_number (Err going.NoMemory) = 38
go_on_number (Err going.Forgotten) = 39
go_on_number (Err going.SessionRefuses) = 43
go_on_number (Err going.ReportsDue) = 45

abbrev pub notice_number : Result (Unit {0}) NoticeRefusal → ℕ
notice_number (Ok noticed) = 0
notice_number (Err notice.NoSession) = 36
notice_number (Err (notice.Session refusal.NoMemory)) = 38
notice_number (Err notice.NoValue) = 42
notice_number (Err (notice.Session why)) = 43

abbrev pub stage_number : Stage → ℕ
stage_number stage.Opening = 1
stage_number stage.Open = 2
stage_number stage.Ending = 3
stage_number stage.Over = 4
