-- What the program does where a run is asked for (own choice).
use Rattle.std.specs.Prelude.{ℕ, ◌≡◌, ◌⊎◌, ◌<◌, List, Option, Some, string_bytes, Result, Ok, Err}
use Rattle.std.specs.Io.KnownBytes.{Appends, Keeps}
use Rattle.pcef_model.specs.declared.answer.OpenFault.{OpenFault}
use Rattle.pcef_model.specs.Refusals.{first_of, open_faults}
use Rattle.pcef_model.specs.Setting.{Setting}
use Rattle.pcef_profile.specs.declared.fault.ReadProfileFault.{ReadProfileFault}
use Rattle.pcef_script.specs.ScriptLines.{AppendsFront}
use Rattle.pcef_gateway.specs.declared.fault.RunFault.{RunFault}
use Rattle.pcef_gateway.specs.declared.fault.RunFault.TheVariants as failure
use Rattle.pcef_run.specs.Plans.{Plans}
use Rattle.pcef_run.specs.Runs.{FailsRun, RunsPlan}
use Rattle.pcef_run.specs.Summaries.{summary_text}
use Rattle.pcef_run.specs.declared.fault.PlanFault.TheVariants as fault
use Rattle.pcef_run.specs.declared.plan.Plan.{Plan}
use Rattle.pcef_run.specs.declared.run.Ran.{Ran}
use Rattle.pcef_run.specs.declared.taken.Counts.{Counts}
use Rattle.pcef_run.specs.declared.end.End.{End}
use Rattle.pcef_run.specs.declared.end.End.TheVariants as ending
use Rattle.pcef_run.specs.Ends.{line_text, open_end}

-- the summary of a run is written, or a front of it where the writer fails
abbrev pub IsWritten : Ran → Counts → End → Option (List ℕ) → Option (List ℕ) → Type 0
IsWritten ran taken ending.Done old new = Appends old new (summary_text ran taken)
IsWritten ran taken ending.Write old new = AppendsFront old new (summary_text ran taken)
IsWritten ran taken ending.NoMemory old new = Keeps old new
IsWritten ran taken other old new = ⊥

-- of a plan that was run
abbrev pub WritesRun : Setting → Plan → ℕ → End → Option (List ℕ) → Option (List ℕ) → Type 0
WritesRun p plan workers end old new = (ran : Ran) × RunsPlan p plan workers ran × (taken : Counts) × IsWritten ran taken end old new

-- no session can be opened with the profile, for this fault
abbrev pub IsOpenFault : Setting → ReadProfileFault → Type 0
IsOpenFault p fault = (first : OpenFault) × (first_of (open_faults p) ≡ Some first) × (open_end first ≡ ending.Profile fault)

-- A fault of a run with `workers` workers whose input is a plan: no packet is for a worker that there isn't, and out
-- of memory has an end of its own.
abbrev pub IsRunFault : ℕ → RunFault → Type 0
IsRunFault workers failure.Workers = (workers ≡ 0) ⊎ (16 < workers)
IsRunFault workers failure.StrangeWorker = ⊥
IsRunFault workers failure.NoMemory = ⊥
IsRunFault workers other = Unit {0}

-- the whole input is a plan, and the session ran it; or nothing is written
abbrev pub RanPlan : Setting → ℕ → End → Option (List ℕ) → Option (List ℕ) → Option (List ℕ) → Option (List ℕ) → Type 0
RanPlan p workers ending.Done before left old new = (plan : Plan) × Plans workers (Ok plan) before left × WritesRun p plan workers ending.Done old new
RanPlan p workers ending.Write before left old new = (plan : Plan) × Plans workers (Ok plan) before left × WritesRun p plan workers ending.Write old new
RanPlan p workers (ending.Run fault) before left old new =
    (plan : Plan) × Plans workers (Ok plan) before left × IsRunFault workers fault × Keeps old new
RanPlan p workers (ending.Profile fault) before left old new =
    (plan : Plan) × Plans workers (Ok plan) before left × IsOpenFault p fault × Keeps old new
RanPlan p workers (ending.Line first text) before left old new =
    (string_bytes text ≡ line_text first.number) × Plans workers (Err (fault.Line first)) before left × Keeps old new
RanPlan p workers ending.Read before left old new = Plans workers (Err fault.Read) before left × Keeps old new
RanPlan p workers ending.TooMuch before left old new = Plans workers (Err fault.TooMuch) before left × Keeps old new
RanPlan p workers ending.NoMemory before left old new = Keeps old new
RanPlan p workers other before left old new = ⊥

-- ---- for private clauses
-- that of a plan that was read
abbrev pub RanOne : Setting → ℕ → Plan → End → Option (List ℕ) → Option (List ℕ) → Type 0
RanOne p workers plan ending.Done old new = WritesRun p plan workers ending.Done old new
RanOne p workers plan ending.Write old new = WritesRun p plan workers ending.Write old new
RanOne p workers plan (ending.Run fault) old new = FailsRun plan workers fault × Keeps old new
RanOne p workers plan (ending.Profile fault) old new = IsOpenFault p fault × Keeps old new
RanOne p workers plan ending.NoMemory old new = Keeps old new
RanOne p workers plan other old new = ⊥
