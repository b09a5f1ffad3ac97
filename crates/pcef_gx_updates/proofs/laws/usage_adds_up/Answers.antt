use Rattle.pcef_gx_updates.proofs.AddsUp.{adds_up, goes_on}
use Rattle.pcef_gx_updates.proofs.laws.usage_adds_up.Goals as goal

pub returns-clause-usage : goal.returns-clause-usage
returns-clause-usage c = adds_up

pub returns-clause-next : goal.returns-clause-next
returns-clause-next c = goes_on
