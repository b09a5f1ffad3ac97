-- The numbers of the faults of a run, and which fault is reported for which failure.
use Rattle.std.specs.Prelude.{ℕ}
use Rattle.pcef_lock.specs.declared.opening.SharedFault.{SharedFault}
use Rattle.pcef_lock.specs.declared.opening.SharedFault.TheVariants as shared
use Rattle.pcef_model.specs.declared.answer.AttachFault.{AttachFault}
use Rattle.pcef_model.specs.declared.answer.AttachFault.TheVariants as attach
use Rattle.pcef_gateway.specs.declared.fault.Failure.{Failure}
use Rattle.pcef_gateway.specs.declared.fault.Failure.TheVariants as failure
use Rattle.pcef_gateway.specs.declared.fault.RunFault.{RunFault}
use Rattle.pcef_gateway.specs.declared.fault.RunFault.TheVariants.{Attach, Gather, NoMemory, Ring, Shared, StrangeWorker, Thread, Workers}

abbrev pub run_fault_number : RunFault → ℕ
run_fault_number Workers = 1
run_fault_number StrangeWorker = 2
run_fault_number Shared = 3
run_fault_number Ring = 4
run_fault_number Attach = 5
run_fault_number Thread = 6
run_fault_number Gather = 7
run_fault_number NoMemory = 8

-- ---- for private clauses
-- the fault that is reported for a failure
abbrev pub run_fault_of : Failure → RunFault
run_fault_of failure.Shared = Shared
run_fault_of failure.Ring = Ring
run_fault_of failure.Attach = Attach
run_fault_of failure.Thread = Thread
run_fault_of failure.Gather = Gather
run_fault_of failure.NoMemory = NoMemory

-- a worker that wasn't attached: out of memory is reported as such
abbrev pub failure_of_attach : AttachFault → Failure
failure_of_attach attach.NoMemory = failure.NoMemory
failure_of_attach _ = failure.Attach

-- a session that couldn't be put behind its lock: out of memory is reported as such
abbrev pub failure_of : SharedFault → Failure
failure_of shared.NoMemory = failure.NoMemory
failure_of _ = failure.Shared
