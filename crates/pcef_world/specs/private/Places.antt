-- What is done at the place of a worker, which is there or has left.
use Rattle.std.specs.Prelude.{ℕ, ◌≡◌, List, [], ◌∷◌, ◌++◌, Option, Some, None, Result, Ok, Err, length, map}
use Rattle.std.specs.Allocator.{alloc_error}
use Rattle.std.specs.declared.alloc.AllocError.{AllocError}
use Rattle.std.specs.Result.{result_map_both}
use Rattle.pcef_packet.specs.declared.header.Addr.{Addr}
use Rattle.pcef_packet.specs.declared.header.Header.{Header}
use Rattle.pcef_catalog.specs.declared.listing.Offer.{Offer}
use Rattle.pcef_model.specs.declared.answer.AttachFault.{AttachFault}
use Rattle.pcef_model.specs.declared.answer.AttachFault.TheVariants as lacks
use Rattle.pcef_model.specs.declared.answer.FlushRefusal.{FlushRefusal}
use Rattle.pcef_model.specs.declared.answer.FlushRefusal.TheVariants.{NoMemory}
use Rattle.pcef_model.specs.declared.answer.Verdicts.{Verdicts}
use Rattle.pcef_model.specs.Outcomes.{FinishStep, FlushStep, finish_answer_of, flush_answer_of}
use Rattle.pcef_model.specs.Setting.{Setting}
use Rattle.pcef_model.specs.Entries.{Journal}
use Rattle.pcef_model.specs.Journals.{gen, lane_len}
use Rattle.pcef_model.specs.Reports.{after_leave}
use Rattle.pcef_session.specs.declared.batch.BatchFull.{BatchFull}
use Rattle.pcef_session.specs.Following.{row_of}
use Rattle.pcef_session.specs.SessionModel.{SessionModel}
use Rattle.pcef_session.specs.Shown.{Shows}
use Rattle.pcef_world.specs.declared.answer.StepAnswer.{StepAnswer}
use Rattle.pcef_world.specs.declared.answer.StepAnswer.TheVariants as answer
use Rattle.pcef_world.specs.declared.worker.WorldWorker.{WorldWorker}
use Rattle.pcef_world.specs.Steps.{new_worker}
use Rattle.pcef_world.specs.Worlds.{Waiting}
use Rattle.pcef_world.specs.Workers.{LacksForItem, TakesItem, after_flushing, held_by}

-- ---- answers
-- out of memory is no answer
abbrev pub attach_step_answer : Result ℕ AttachFault → Result StepAnswer AllocError
attach_step_answer (Ok number) = Ok (answer.Attach (Ok number))
attach_step_answer (Err lacks.NoMemory) = Err alloc_error
attach_step_answer (Err fault) = Ok (answer.Attach (Err fault))

abbrev pub flush_step_answer : Result Verdicts FlushRefusal → Result StepAnswer AllocError
flush_step_answer (Ok verdicts) = Ok (answer.Flush (Ok verdicts))
flush_step_answer (Err NoMemory) = Err alloc_error
flush_step_answer (Err r) = Ok (answer.Flush (Err r))

abbrev pub finish_step_answer : Result (Verdicts × ℕ) FlushRefusal → Result StepAnswer AllocError
finish_step_answer (Ok finished) = Ok (answer.Finish (Ok finished))
finish_step_answer (Err NoMemory) = Err alloc_error
finish_step_answer (Err r) = Ok (answer.Finish (Err r))

-- ---- what is done
-- the workers, where one more is attached or refused
abbrev pub after_coming : Journal → Result ℕ AttachFault → List (Option Waiting) → List (Option Waiting)
after_coming j (Ok number) workers = workers ++ Some (new_worker j) ∷ []
after_coming j (Err fault) workers = workers

abbrev pub TakesAt : List Offer → Addr → Header → ℕ → Option WorldWorker → Result StepAnswer AllocError → Option WorldWorker → Type 0
TakesAt offers ue header handed_over None out new = (out ≡ Ok answer.NoWorker) × (new ≡ None)
TakesAt offers ue header handed_over (Some w) (Ok a) new =
    (r : Result ℕ BatchFull) × (v : WorldWorker) × TakesItem offers ue header handed_over w r v × (a ≡ answer.Take r) × (new ≡ Some v)
TakesAt offers ue header handed_over (Some w) (Err lack) new = (v : WorldWorker) × LacksForItem w v × (new ≡ Some v)

-- a worker holds the newest table from now on, and its rows go on waiting
abbrev pub Holds : Setting → Journal → WorldWorker → WorldWorker → Type 0
Holds p j w v = Shows p j (gen j) (held_by v) × (v.number ≡ w.number) × (v.waiting ≡ w.waiting)

abbrev pub RefreshesAt : Setting → Journal → Option WorldWorker → Result StepAnswer AllocError → Option WorldWorker → Type 0
RefreshesAt p j None out new = (out ≡ Ok answer.NoWorker) × (new ≡ None)
RefreshesAt p j (Some w) (Ok a) new = (v : WorldWorker) × Holds p j w v × (a ≡ answer.Refresh (gen j)) × (new ≡ Some v)
RefreshesAt p j (Some w) (Err lack) new = new ≡ Some w

abbrev pub FlushesAt : Setting → Journal → Option WorldWorker → Result StepAnswer AllocError → Journal → Option WorldWorker → Type 0
FlushesAt p j None out k new = (out ≡ Ok answer.NoWorker) × (k ≡ j) × (new ≡ None)
FlushesAt p j (Some w) out k new =
    (r : Result Verdicts FlushRefusal) × FlushStep p w.number (map row_of w.waiting) j (result_map_both flush_answer_of (λ e. e) r) k
    × (out ≡ flush_step_answer r) × (new ≡ Some (after_flushing r w))

abbrev pub after_finishing : {A E : Type 0} → Result A E → WorldWorker → Option WorldWorker
after_finishing (Ok a) w = None
after_finishing (Err e) w = Some w

abbrev pub FinishesAt : Setting → Journal → Option WorldWorker → Result StepAnswer AllocError → Journal → Option WorldWorker → Type 0
FinishesAt p j None out k new = (out ≡ Ok answer.NoWorker) × (k ≡ j) × (new ≡ None)
FinishesAt p j (Some w) out k new =
    (r : Result (Verdicts × ℕ) FlushRefusal) × FinishStep p w.number (map row_of w.waiting) j (result_map_both finish_answer_of (λ e. e) r) k
    × (out ≡ finish_step_answer r) × (new ≡ after_finishing r w)

abbrev pub AbandonsAt : Journal → Option WorldWorker → StepAnswer → Journal → Option WorldWorker → Type 0
AbandonsAt j None out k new = (out ≡ answer.NoWorker) × (k ≡ j) × (new ≡ None)
AbandonsAt j (Some w) out k new =
    (out ≡ answer.Abandon (record { waiting = length w.waiting; rows = lane_len j w.number })) × (k ≡ after_leave w.number j) × (new ≡ None)

-- ---- the outcome at a session and a place
-- a worker hands its rows over at its place
abbrev pub HandsOverAt : SessionModel → Option WorldWorker → Result StepAnswer AllocError → SessionModel → Option WorldWorker → Type 0
HandsOverAt before place out after new = FlushesAt before.setting before.journal place out after.journal new

-- a worker hands its last rows over, and leaves its place
abbrev pub LeavesAt : SessionModel → Option WorldWorker → Result StepAnswer AllocError → SessionModel → Option WorldWorker → Type 0
LeavesAt before place out after new = FinishesAt before.setting before.journal place out after.journal new
