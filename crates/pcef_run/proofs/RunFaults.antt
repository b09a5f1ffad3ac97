-- The faults of a run, by the clauses of the session that runs.
use Rattle.std.proofs.Common.{◌≡◌, ◌≢◌, ◌⊎◌, ◌<◌, ◌≤◌, ℕ, All, refl}
use Rattle.std.specs.Prelude.{◌↔◌}
use Rattle.pcef_gateway.specs.declared.arrivals.Arrival.{Arrival}
use Rattle.pcef_gateway.specs.declared.fault.RunFault.{RunFault}
use Rattle.pcef_gateway.specs.declared.fault.RunFault.TheVariants as fault
use Rattle.pcef_model.specs.Setting.{Setting}
use Rattle.pcef_run.specs.Runs.{EndsPlan, FailsRun, OpensNot}
use Rattle.pcef_run.specs.declared.fault.RunEnd.{RunEnd}
use Rattle.pcef_run.specs.declared.fault.RunEnd.TheVariants as run
use Rattle.pcef_run.specs.declared.plan.Plan.{Plan}

-- one that comes exactly as a session's run says
pub fails_run : (plan : Plan) (workers : ℕ) (f : RunFault) → ((f ≡ fault.Workers) ↔ ((workers ≡ 0) ⊎ (16 < workers)))
    → ((f ≡ fault.StrangeWorker) ↔ ((0 < workers) × (workers ≤ 16) × (All (λ (a : Arrival). a.worker < workers) plan.arrivals.items → ⊥))) → f ≢ fault.NoMemory → FailsRun plan workers f
fails_run plan workers fault.Workers few strange some = few.0 refl
fails_run plan workers fault.StrangeWorker few strange some = (strange.0 refl).2
fails_run plan workers fault.Shared few strange some = tt
fails_run plan workers fault.Ring few strange some = tt
fails_run plan workers fault.Attach few strange some = tt
fails_run plan workers fault.Thread few strange some = tt
fails_run plan workers fault.Gather few strange some = tt
fails_run plan workers fault.NoMemory few strange some = absurd (some refl)

-- one of a session that isn't opened
pub opens_not : (p : Setting) (plan : Plan) (workers : ℕ) (e : RunEnd) → OpensNot p e → EndsPlan p plan workers e
opens_not p plan workers (run.Open opening) due = due
opens_not p plan workers (run.Run fault) due = absurd due
opens_not p plan workers run.NoMemory due = tt
