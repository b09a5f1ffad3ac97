use Rattle.std.proofs.lemmas.Result.{IfOk-weaker}
use Rattle.pcef_script.proofs.step.read_fault.Goals as goal

pub returns-in_default : goal.returns-in_default
returns-in_default c = λ p before.
    IfOk-weaker c.fault.result _ _ (λ a told. (c.in_default.not-NoMemory, told)) (c.fault.ensures p before)
