-- Workers that stand apart from their session (own choice).
use Rattle.std.specs.Prelude.{ℕ, ◌≡◌, ◌≤◌, ◌<◌, List, [], ◌∷◌, ◌++◌, Some, None, Result, Ok, Err, length, map, slice_get}
use Rattle.std.specs.Result.{result_map_both}
use Rattle.pcef_packet.specs.declared.header.Header.{Header}
use Rattle.pcef_catalog.specs.declared.listing.Offer.{Offer}
use Rattle.pcef_table.specs.Tables.{TableValue}
use Rattle.pcef_model.specs.declared.answer.AttachFault.{AttachFault}
use Rattle.pcef_model.specs.declared.answer.FlushRefusal.{FlushRefusal}
use Rattle.pcef_model.specs.declared.answer.Verdicts.{Verdicts}
use Rattle.pcef_model.specs.Journals.{attach_count, gen, lane_len}
use Rattle.pcef_model.specs.Reports.{after_attach, after_leave}
use Rattle.pcef_model.specs.Outcomes.{FinishStep, FlushStep, finish_answer_of, flush_answer_of}
use Rattle.pcef_session.specs.declared.batch.BatchFull.{BatchFull}
use Rattle.pcef_session.specs.declared.batch.Item.{Item}
use Rattle.pcef_session.specs.Following.{row_of}
use Rattle.pcef_session.specs.SessionModel.{SessionModel}
use Rattle.pcef_session.specs.Shown.{Shows}
use Rattle.pcef_world.specs.declared.answer.Abandoned.{Abandoned}
use Rattle.pcef_world.specs.declared.apart.ApartWorker.{ApartWorker}
use Rattle.pcef_world.specs.Worlds.{World}
use Rattle.pcef_world.specs.Workers.{TakesItem, Waits, held_by}

-- the table that it holds
abbrev pub held_apart : ApartWorker → TableValue
held_apart a = held_by a.worker

-- a worker of this session whose place none of the session's own has, and whose rows may come next: all that the
-- session asks of it
pub record IsApart (w : World) (a : ApartWorker) : Type 0 where
  pub waits : Waits w.session.setting w.session.journal a.worker.number a.worker
  pub place_is : slice_get w.workers a.worker.number ≡ Some None
  pub ue_is : a.ue ≡ w.session.setting.ue
  pub lane_is : a.handed_over ≡ lane_len w.session.journal a.worker.number
  pub few : a.handed_over ≤ 4294967295

-- a packet that it takes waits as a row, judged by the table that it holds, where fewer than 32 do
abbrev pub TakesApart : List Offer → Header → ApartWorker → Result ℕ BatchFull → ApartWorker → Type 0
TakesApart offers header old answer new =
    TakesItem offers old.ue header old.handed_over old.worker answer new.worker × (new.ue ≡ old.ue) × (new.handed_over ≡ old.handed_over)

-- there is no memory for a packet that may wait
abbrev pub LacksApart : ApartWorker → ApartWorker → Type 0
LacksApart old new = (length old.worker.waiting < 32) × (new ≡ old)

-- the number of a worker that was attached
abbrev pub worker_number : Result ApartWorker AttachFault → Result ℕ AttachFault
worker_number (Ok a) = Ok a.worker.number
worker_number (Err fault) = Err fault

-- a worker that was attached just now
pub record IsNewApart (before after : World) (a : ApartWorker) : Type 0 where
  pub journal_is : after.session.journal ≡ after_attach before.session.journal
  pub number_is : a.worker.number ≡ attach_count before.session.journal
  pub rows_are : a.worker.waiting ≡ []
  pub shows : Shows before.session.setting before.session.journal (gen before.session.journal) (held_apart a)
  pub workers_are : after.workers ≡ before.workers ++ None ∷ []
  pub is_apart : IsApart after a

-- it holds the newest table from now on, and its rows go on waiting
pub record IsRefreshed (s : SessionModel) (generation : ℕ) (old new : ApartWorker) : Type 0 where
  pub generation_is : generation ≡ gen s.journal
  pub shows : Shows s.setting s.journal generation (held_apart new)
  pub number_is : new.worker.number ≡ old.worker.number
  pub rows_are : new.worker.waiting ≡ old.worker.waiting
  pub ue_is : new.ue ≡ old.ue
  pub handed_over_is : new.handed_over ≡ old.handed_over

-- what waits after rows were handed over or refused
abbrev pub rows_after : {A E : Type 0} → Result A E → List Item → List Item
rows_after (Ok a) items = []
rows_after (Err e) items = items

-- its rows are handed over as by a step of the session's own worker
pub record FlushesApart (before : World) (old : ApartWorker) (r : Result Verdicts FlushRefusal) (after : World) (new : ApartWorker) : Type 0 where
  pub step : FlushStep before.session.setting old.worker.number (map row_of old.worker.waiting) before.session.journal (result_map_both flush_answer_of (λ e. e) r) after.session.journal
  pub setting_is : after.session.setting ≡ before.session.setting
  pub forgotten_is : after.session.forgotten ≡ before.session.forgotten
  pub workers_are : after.workers ≡ before.workers
  pub rows_are : new.worker.waiting ≡ rows_after r old.worker.waiting
  pub number_is : new.worker.number ≡ old.worker.number
  pub held_is : held_apart new ≡ held_apart old
  pub is_apart : IsApart after new

-- it leaves with its last rows, as a worker of the session's own does, or is refused
pub record FinishesApart (before : World) (old : ApartWorker) (r : Result (Verdicts × ℕ) FlushRefusal) (after : World) : Type 0 where
  pub step : FinishStep before.session.setting old.worker.number (map row_of old.worker.waiting) before.session.journal (result_map_both finish_answer_of (λ e. e) r) after.session.journal
  pub setting_is : after.session.setting ≡ before.session.setting
  pub forgotten_is : after.session.forgotten ≡ before.session.forgotten
  pub workers_are : after.workers ≡ before.workers

-- it leaves without its rows
pub record AbandonsApart (before : World) (old : ApartWorker) (r : Abandoned) (after : World) : Type 0 where
  pub answer_is : r ≡ record { waiting = length old.worker.waiting; rows = lane_len before.session.journal old.worker.number }
  pub journal_is : after.session.journal ≡ after_leave old.worker.number before.session.journal
  pub setting_is : after.session.setting ≡ before.session.setting
  pub forgotten_is : after.session.forgotten ≡ before.session.forgotten
  pub workers_are : after.workers ≡ before.workers
