-- A worker that stands apart stays one of its session's, whatever it does alone, and whatever the session does but with
-- this worker (own choice).
use Rattle.std.specs.Prelude.{ℕ, ◌≡◌, ◌≢◌, Result, length}
use Rattle.pcef_packet.specs.declared.header.Header.{Header}
use Rattle.pcef_model.specs.declared.answer.FlushRefusal.{FlushRefusal}
use Rattle.pcef_model.specs.declared.answer.Verdicts.{Verdicts}
use Rattle.pcef_model.specs.declared.step.Step.{Step}
use Rattle.pcef_model.specs.Journals.{attach_count}
use Rattle.pcef_session.specs.declared.batch.BatchFull.{BatchFull}
use Rattle.pcef_world.specs.declared.answer.Abandoned.{Abandoned}
use Rattle.pcef_world.specs.declared.answer.StepAnswer.{StepAnswer}
use Rattle.pcef_world.specs.declared.apart.ApartWorker.{ApartWorker}
use Rattle.pcef_world.specs.Apart.{AbandonsApart, FinishesApart, FlushesApart, IsApart, IsNewApart, IsRefreshed, TakesApart}
use Rattle.pcef_world.specs.Steps.{MakesStep, standing_of}
use Rattle.pcef_world.specs.Worlds.{HasWorkersInTurn, World}

-- ---- what it does alone
abbrev pub StaysByTaking : Type 0
StaysByTaking = (w : World) (header : Header) (a b : ApartWorker) (r : Result ℕ BatchFull) → IsApart w a → TakesApart w.session.setting.catalog header a r b → IsApart w b

abbrev pub StaysByRefreshing : Type 0
StaysByRefreshing = (w : World) (a b : ApartWorker) (generation : ℕ) → IsApart w a → IsRefreshed w.session generation a b → IsApart w b

-- ---- what the session does
-- a session with a place for each worker that was ever attached, whose own workers' rows may come next, as
-- `WorldState::session` promises of every session
pub record IsKept (w : World) : Type 0 where
  pub places : attach_count w.session.journal ≡ length w.workers
  pub in_turn : HasWorkersInTurn w

-- nothing but the reports that it forgets, or the index that it shares
abbrev pub StaysBesideTheSame : Type 0
StaysBesideTheSame = (v w : World) (a : ApartWorker) → standing_of w ≡ standing_of v → w.session.setting ≡ v.session.setting → IsApart v a → IsApart w a

-- a step of a script: a command, or what one of the session's own workers does
abbrev pub StaysBesideSteps : Type 0
StaysBesideSteps = (v w : World) (step : Step) (answer : StepAnswer) (a : ApartWorker) → IsKept v → MakesStep v step answer w → w.session.setting ≡ v.session.setting → IsApart v a → IsApart w a

-- another worker that stands apart comes, hands its rows over, and leaves with its last rows or without them
abbrev pub StaysBesideComing : Type 0
StaysBesideComing = (v w : World) (a b : ApartWorker) → IsKept v → IsNewApart v w b → w.session.setting ≡ v.session.setting → IsApart v a → IsApart w a

abbrev pub StaysBesideFlushes : Type 0
StaysBesideFlushes = (v w : World) (a b c : ApartWorker) (r : Result Verdicts FlushRefusal) → a.worker.number ≢ b.worker.number → IsApart v b → FlushesApart v b r w c → IsApart v a → IsApart w a

abbrev pub StaysBesideFinishing : Type 0
StaysBesideFinishing = (v w : World) (a b : ApartWorker) (r : Result (Verdicts × ℕ) FlushRefusal) → a.worker.number ≢ b.worker.number → IsApart v b → FinishesApart v b r w → IsApart v a → IsApart w a

abbrev pub StaysBesideLeaving : Type 0
StaysBesideLeaving = (v w : World) (a b : ApartWorker) (r : Abandoned) → a.worker.number ≢ b.worker.number → AbandonsApart v b r w → IsApart v a → IsApart w a
