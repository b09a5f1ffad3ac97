use Rattle.pcef_run.proofs.Splits.{nothing}
use Rattle.pcef_run.proofs.plan.Plan.new.Goals as goal

pub returns : goal.returns
returns c = nothing _ c.new.ensures.items c.new-2.ensures.items c.new-3.ensures.items
