-- A run of a plan (own choice).
use Rattle.std.specs.Prelude.{ℕ, ◌≡◌, ◌⊎◌, ◌<◌, ◌+◌, Bool, true, false, List, [], ◌∷◌, All, length, Some, Result, Ok, Err}
use Rattle.std.specs.List.{count_by}
use Rattle.pcef_model.specs.declared.answer.Accepted.{Accepted}
use Rattle.pcef_model.specs.declared.answer.Refusal.{Refusal}
use Rattle.pcef_model.specs.declared.command.Command.{Command}
use Rattle.pcef_model.specs.Entries.{Journal}
use Rattle.pcef_model.specs.Outcomes.{CommandStep}
use Rattle.pcef_model.specs.Refusals.{first_of, open_faults}
use Rattle.pcef_model.specs.Setting.{Setting}
use Rattle.pcef_session.specs.SessionModel.{SessionModel}
use Rattle.pcef_gateway.specs.Commanding.{FoundMemory}
use Rattle.pcef_gateway.specs.Ending.{RunsTo}
use Rattle.pcef_gateway.specs.declared.fault.RunFault.{RunFault}
use Rattle.pcef_gateway.specs.declared.fault.RunFault.TheVariants as fault
use Rattle.pcef_run.specs.declared.fault.RunEnd.{RunEnd}
use Rattle.pcef_run.specs.declared.fault.RunEnd.TheVariants as run
use Rattle.pcef_run.specs.declared.plan.Plan.{Plan}
use Rattle.pcef_run.specs.declared.run.Ran.{Ran}

-- the answers to commands that are given one after the other, and the journal after them
abbrev pub Obeyed : Setting → Journal → List Command → List (Result Accepted Refusal) → Journal → Type 0
Obeyed p before [] answers after = (answers ≡ []) × (after ≡ before)
Obeyed p before (c ∷ cs) answers after =
    (first : Result Accepted Refusal) × (others : List (Result Accepted Refusal)) × (between : Journal)
    × (answers ≡ first ∷ others) × CommandStep p c before first between × Obeyed p between cs others after

-- an Activate of an active rule is accepted too
abbrev pub is_accepted : Result Accepted Refusal → Bool
is_accepted (Ok a) = true
is_accepted (Err r) = false

-- of all commands: those before the first packet, and those of the run
abbrev pub command_count : Ran → ℕ
command_count ran = length ran.answers.items + length ran.ended.answers.items

abbrev pub accepted_of : Ran → ℕ
accepted_of ran = count_by is_accepted ran.answers.items + count_by is_accepted ran.ended.answers.items

-- a new session is given the commands before the first packet, and then runs with the packets and the other commands
abbrev pub RunsPlan : Setting → Plan → ℕ → Ran → Type 0
RunsPlan p plan workers ran =
    (between : Journal) × Obeyed p [] plan.first.items ran.answers.items between × All FoundMemory ran.answers.items
    × RunsTo p between plan.arrivals.items plan.later.items workers ran.ended

-- A fault of a run with `workers` workers: there are none or more than 16, or a packet arrives for one that there
-- isn't, or what the run stands on failed. Out of memory has an end of its own.
abbrev pub FailsRun : Plan → ℕ → RunFault → Type 0
FailsRun plan workers fault.Workers = (workers ≡ 0) ⊎ (16 < workers)
FailsRun plan workers fault.StrangeWorker = All (λ a. a.worker < workers) plan.arrivals.items → ⊥
FailsRun plan workers fault.NoMemory = ⊥
FailsRun plan workers other = Unit {0}

-- why a plan isn't run to its end: the first fault of its profile, a fault of the run, or out of memory
abbrev pub EndsPlan : Setting → Plan → ℕ → RunEnd → Type 0
EndsPlan p plan workers (run.Open opening) = first_of (open_faults p) ≡ Some opening
EndsPlan p plan workers (run.Run fault) = FailsRun plan workers fault
EndsPlan p plan workers run.NoMemory = Unit {0}

-- ---- for private clauses
abbrev pub OpensNot : Setting → RunEnd → Type 0
OpensNot p (run.Open opening) = first_of (open_faults p) ≡ Some opening
OpensNot p (run.Run fault) = ⊥
OpensNot p run.NoMemory = Unit {0}

-- the end for a fault: out of memory has its own
abbrev pub end_for_fault : RunFault → RunEnd
end_for_fault fault.NoMemory = run.NoMemory
end_for_fault other = run.Run other

-- a session was given commands, one after the other, and answered them so
abbrev pub ObeyedBy : SessionModel → List Command → List (Result Accepted Refusal) → SessionModel → Type 0
ObeyedBy before commands answers after = Obeyed before.setting before.journal commands answers after.journal
