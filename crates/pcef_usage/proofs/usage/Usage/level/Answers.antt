use Rattle.pcef_usage.specs.declared.usage.KeyState.{KeyState}
use Rattle.std.proofs.Common.{ap}
use Rattle.pcef_usage.proofs.Places.{read}
use Rattle.pcef_usage.proofs.usage.Usage.level.Goals as goal

pub returns : goal.returns
returns c = ap (λ (s : KeyState). s.level) (read _ _ _ _ _ c.self.view_is c.requires c.as_slice-states.ensures.value)
