-- What the value behind a session's lock answers, and the journal after it.
use Rattle.std.specs.Prelude.{ℕ, ◌≡◌, ◌≢◌, ◌+◌, false, true, List, Result, Ok, Err, map}
use Rattle.std.specs.Result.{result_map_both}
use Rattle.pcef_model.specs.Setting.{Setting}
use Rattle.pcef_model.specs.Entries.{Journal}
use Rattle.pcef_model.specs.Lawful.{Lawful}
use Rattle.pcef_model.specs.Outcomes.{AttachStep, FlushAnswer, FlushStep, Gives, abandon_outcome, judged_of}
use Rattle.pcef_model.specs.declared.answer.AttachFault.{AttachFault}
use Rattle.pcef_model.specs.declared.answer.AttachFault.TheVariants.{NoPlace}
use Rattle.pcef_model.specs.declared.answer.FlushRefusal.{FlushRefusal}
use Rattle.pcef_model.specs.declared.answer.FlushRefusal.TheVariants.{NotAttached}
use Rattle.pcef_model.specs.declared.answer.Judged.{Judged}
use Rattle.pcef_model.specs.declared.answer.Verdicts.{Verdicts}
use Rattle.pcef_session.specs.declared.batch.Item.{Item}
use Rattle.pcef_session.specs.Answers.{flushed_of}
use Rattle.pcef_session.specs.Following.{row_of}
use Rattle.pcef_share.specs.Amounts.{Account}
use Rattle.pcef_lock.specs.declared.leaving.LastFlush.{LastFlush}
use Rattle.pcef_lock.specs.declared.seat.Seat.{Seat}
use Rattle.pcef_handover.specs.Lanes.{continues_lane}
use Rattle.pcef_lock.specs.Locked.{Locked}
use Rattle.pcef_lock.specs.Seats.{seat_number}

-- a worker is attached as to any session; where all places were taken, there is none
abbrev pub SeatStep : ℕ → ℕ → Journal → Result ℕ AttachFault → Journal → Type 0
SeatStep issued places before result after =
    (issued ≡ places + 1 → Gives (Err NoPlace, before) result after) × (issued ≢ places + 1 → AttachStep before result after)

-- a share more is issued where a worker was attached
abbrev pub with_share : {A E : Type 0} → Result A E → Account → Account
with_share (Ok a) books = record books { issued = books.issued + 1 }
with_share (Err e) books = books

-- the answer to rows that are taken over: the generation and the verdict of each, in order
abbrev pub judged_rows : List Item → List Judged
judged_rows items = map judged_of (map row_of items)

-- the verdicts of the last rows of a worker that finished
abbrev pub last_verdicts : {l : _} → LastFlush l → Verdicts
last_verdicts last = last.verdicts

-- rows are handed over as to any session; those that don't continue their lane are refused as of a worker that isn't there
abbrev pub HandOverStep : Setting → ℕ → List Item → Journal → Result FlushAnswer FlushRefusal → Journal → Type 0
HandOverStep p worker items before result after =
    (continues_lane before worker items ≡ false → Gives (Err NotAttached, before) result after)
    × (continues_lane before worker items ≡ true → FlushStep p worker (map row_of items) before result after)

-- a worker leaves, as from any session; where it isn't attached, nothing changes
abbrev pub after_leaving : ℕ → Journal → Journal
after_leaving worker j = (abandon_outcome j worker).1

-- where its last rows were taken over
abbrev pub after_last : {A E : Type 0} → Result A E → ℕ → Journal → Journal
after_last (Ok a) worker j = after_leaving worker j
after_last (Err e) worker j = j

-- a worker's last rows are handed over, and where they are taken over it leaves
abbrev pub LeaveStep : Setting → ℕ → List Item → Journal → Result FlushAnswer FlushRefusal → Journal → Type 0
LeaveStep p worker items before result after =
    (flushed : Journal) × HandOverStep p worker items before result flushed × (after ≡ after_last result worker flushed)

-- ---- the value behind the lock, before and after
-- attaching a worker is answered as due
abbrev pub AnswersSeat : {l : _} → Locked → Result (Seat l) AttachFault → Locked → Type 0
AnswersSeat before result after =
    SeatStep before.books.issued before.places before.session.journal (result_map_both seat_number (λ e. e) result) after.session.journal

-- rows that a worker hands over are answered as due
abbrev pub AnswersHandOver : Setting → ℕ → List Item → Locked → Result Verdicts FlushRefusal → Locked → Type 0
AnswersHandOver p worker items before result after =
    HandOverStep p worker items before.session.journal (flushed_of result) after.session.journal

-- a worker that finishes is answered as due
abbrev pub AnswersLeave : {l : _} → Setting → ℕ → List Item → Locked → Result (LastFlush l) FlushRefusal → Locked → Type 0
AnswersLeave p worker items before result after =
    LeaveStep p worker items before.session.journal (flushed_of (result_map_both last_verdicts (λ e. e) result)) after.session.journal

-- ---- answers through the lock: each is due after some lawful journal
abbrev pub IsDueToSeat : {l : _} → Setting → Result (Seat l) AttachFault → Type 0
IsDueToSeat p result = (before : Locked) × (after : Locked) × Lawful p before.session.journal × AnswersSeat before result after

abbrev pub IsDueToRows : Setting → ℕ → List Item → Result Verdicts FlushRefusal → Type 0
IsDueToRows p worker items result = (before : Locked) × (after : Locked) × Lawful p before.session.journal × AnswersHandOver p worker items before result after

abbrev pub IsDueToLeaver : {l : _} → Setting → ℕ → List Item → Result (LastFlush l) FlushRefusal → Type 0
IsDueToLeaver p worker items result = (before : Locked) × (after : Locked) × Lawful p before.session.journal × AnswersLeave p worker items before result after
