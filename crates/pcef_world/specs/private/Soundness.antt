-- What always holds of a world's parts.
use Rattle.std.specs.Prelude.{◌≡◌, ◌≤◌, true, IfSome, List, Option, length, map}
use Rattle.std.specs.Option.{option_map}
use Rattle.pcef_model.specs.Journals.{attach_count}
use Rattle.pcef_world.specs.declared.world.WorldState.TheInside.{Inside}
use Rattle.pcef_world.specs.declared.worker.WorldWorker.{WorldWorker}
use Rattle.pcef_session.specs.SessionModel.{SessionModel}
use Rattle.pcef_world.specs.private.Followed.{FollowsNewest}
use Rattle.pcef_world.specs.Workers.{AllWait, seen}
use Rattle.pcef_world.specs.Worlds.{World}

abbrev pub world_of : Inside → World
world_of w = record { session = w.session; workers = map (option_map seen) w.workers.items }

-- there is a place for each worker that was attached, and each that is there waits with rows that may come next
pub record IsSoundWith (s : SessionModel) (workers : List (Option WorldWorker)) : Type 0 where
  pub counted : attach_count s.journal ≡ length workers
  pub few_rows : s.setting.rows ≤ 4294967295
  pub wait : AllWait s.setting s.journal workers

abbrev pub IsSoundWorld : Inside → Type 0
IsSoundWorld w = IsSoundWith w.session w.workers.items × (w.is_followed ≡ true → IfSome w.judged (λ f. FollowsNewest w.session f.value))
