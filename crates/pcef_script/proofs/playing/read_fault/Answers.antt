use Rattle.std.proofs.lemmas.Result.{IfOk-weaker}
use Rattle.pcef_script.proofs.playing.read_fault.Goals as goal

pub returns-in_default : goal.returns-in_default
returns-in_default c = IfOk-weaker c.fault_found.result _ _ (λ x told. (c.in_default.not-NoMemory, told)) c.fault_found.ensures
