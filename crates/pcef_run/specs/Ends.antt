-- How the program ends (own choice): its exit status, and what is said of it on the writer for faults.
use Rattle.std.specs.Prelude.{ℕ, ◌≡◌, ◌⊎◌, ◌+◌, ◌==◌, List, [], ◌∷◌, ◌++◌, String, codes, decimal, string_bytes, Result, Ok, Err, if◌then◌else◌}
use Rattle.std.specs.declared.alloc.Global.{Global}
use Rattle.std.specs.declared.io.ErrorKind.{ErrorKind}
use Rattle.std.specs.declared.io.ErrorKind.TheVariants.{OutOfMemory}
use Rattle.pcef_model.specs.declared.answer.OpenFault.{OpenFault}
use Rattle.pcef_model.specs.declared.answer.OpenFault.TheVariants as opening
use Rattle.pcef_profile.specs.ProfileOf.{profile_fault_number}
use Rattle.pcef_profile.specs.declared.fault.ReadProfileFault.{ReadProfileFault}
use Rattle.pcef_profile.specs.declared.fault.ReadProfileFault.TheVariants as profile
use Rattle.pcef_script.specs.declared.fault.ScriptFault.{ScriptFault}
use Rattle.pcef_script.specs.declared.fault.ScriptFault.TheVariants as script
use Rattle.pcef_gateway.specs.Faults.{run_fault_number}
use Rattle.pcef_run.specs.declared.fault.PlanFault.{PlanFault}
use Rattle.pcef_run.specs.declared.fault.PlanFault.TheVariants as plan
use Rattle.pcef_run.specs.declared.fault.RunEnd.{RunEnd}
use Rattle.pcef_run.specs.declared.fault.RunEnd.TheVariants as run
use Rattle.pcef_share.specs.declared.pool_state.PoolFault.TheVariants as of_pool
use Rattle.pcef_run.specs.declared.pooled_fault.PooledFault.{PooledFault}
use Rattle.pcef_run.specs.declared.pooled_fault.PooledFault.TheVariants as pooled
use Rattle.pcef_run.specs.declared.pool_end.PoolEnd.{PoolEnd}
use Rattle.pcef_run.specs.declared.pool_end.PoolEnd.TheVariants as pool
use Rattle.pcef_run.specs.declared.end.End.{End}
use Rattle.pcef_run.specs.declared.end.End.TheVariants as end

abbrev pub end_status : End → ℕ
end_status end.Done = 0
end_status end.LinesAtFault = 1
end_status (end.Profile fault) = 1
end_status end.Usage = 2
end_status end.NoMemory = 3
end_status end.NoProfile = 4
end_status end.Read = 4
end_status end.TooMuch = 4
end_status end.Write = 4
end_status (end.Line first text) = 1
end_status (end.Run fault) = 4

-- a line, or nothing
abbrev pub end_text : End → List ℕ
end_text end.Done = []
end_text end.LinesAtFault = []
end_text (end.Profile fault) = codes "profile fault " ++ (48 + profile_fault_number fault) ∷ 10 ∷ []
end_text end.Usage = codes "usage: pcef script PROFILE | pcef run PROFILE WORKERS | pcef pool UP DOWN PROFILE..." ++ 10 ∷ []
end_text end.NoMemory = codes "want of memory" ++ 10 ∷ []
end_text end.NoProfile = codes "read fault" ++ 10 ∷ []
end_text end.Read = codes "read fault" ++ 10 ∷ []
end_text end.TooMuch = codes "read fault" ++ 10 ∷ []
end_text end.Write = codes "write fault" ++ 10 ∷ []
end_text (end.Line first text) = string_bytes text
end_text (end.Run fault) = codes "run fault " ++ (48 + run_fault_number fault) ∷ 10 ∷ []

-- what is wrong with the line that doesn't fit
abbrev pub line_reason : End → List ℕ
line_reason (end.Line first text) = string_bytes first.explanation
line_reason other = []

-- the program's name before that
abbrev pub reason_front : End → List ℕ
reason_front (end.Line first text) = codes "pcef: "
reason_front other = []

-- the line of both
abbrev pub end_reason : End → List ℕ
end_reason e = reason_front e ++ line_reason e

-- a profile that can't be read
abbrev pub profile_end : ReadProfileFault → End
profile_end profile.NoMemory = end.NoMemory
profile_end fault = end.Profile fault

-- a profile whose file can't be read
abbrev pub unread_end : ErrorKind → End
unread_end OutOfMemory = end.NoMemory
unread_end kind = end.NoProfile

abbrev pub lines_end : ℕ → End
lines_end faults = if faults == 0 then end.Done else end.LinesAtFault

-- a script that was run
abbrev pub script_end : Result ℕ ScriptFault → End
script_end (Ok faults) = lines_end faults
script_end (Err script.Read) = end.Read
script_end (Err script.TooMuch) = end.TooMuch
script_end (Err script.Write) = end.Write
script_end (Err script.NoMemory) = end.NoMemory
script_end (Err (script.Profile opening.UnknownQci)) = end.Profile profile.UnknownQci
script_end (Err (script.Profile opening.DefaultIsGbr)) = end.Profile profile.DefaultIsGbr
script_end (Err (script.Profile opening.NoMemory)) = end.NoMemory

-- ---- a run
abbrev pub line_text : ℕ → List ℕ
line_text number = codes "line " ++ (decimal number ++ codes " fault\n")

-- an input that is no plan; there may be no memory to say which line is at fault
abbrev pub IsPlanEnd : PlanFault → End → Type 0
IsPlanEnd plan.Read e = e ≡ end.Read
IsPlanEnd plan.TooMuch e = e ≡ end.TooMuch
IsPlanEnd plan.NoMemory e = e ≡ end.NoMemory
IsPlanEnd (plan.Line first) e = ((text : String Global) × (e ≡ end.Line first text) × (string_bytes text ≡ line_text first.number)) ⊎ (e ≡ end.NoMemory)

abbrev pub open_end : OpenFault → End
open_end opening.UnknownQci = end.Profile profile.UnknownQci
open_end opening.DefaultIsGbr = end.Profile profile.DefaultIsGbr
open_end opening.NoMemory = end.NoMemory

abbrev pub run_end : RunEnd → End
run_end (run.Open fault) = open_end fault
run_end (run.Run fault) = end.Run fault
run_end run.NoMemory = end.NoMemory

-- ---- a pool
-- one without sessions, with too many or with too much capacity is nothing that words ask for
abbrev pub pooled_end : PooledFault → End
pooled_end pooled.Sessions = end.Usage
pooled_end (pooled.Session number fault) = open_end fault
pooled_end (pooled.Pool of_pool.OutOfRange) = end.Usage
pooled_end pooled.NoMemory = end.NoMemory

abbrev pub pool_end : Result (Unit {0}) PoolEnd → End
pool_end (Ok done) = end.Done
pool_end (Err (pool.Open fault)) = pooled_end fault
pool_end (Err pool.Write) = end.Write
pool_end (Err pool.NoMemory) = end.NoMemory
