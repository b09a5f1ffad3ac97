use Rattle.std.proofs.Common.{◌∙◌, ap}
use Rattle.pcef_usage.specs.Keys.{stopped}
use Rattle.pcef_usage.proofs.Places.{written}
use Rattle.pcef_usage.proofs.usage.Usage.stop.Goals as goal

pub returns : goal.returns
returns c = written (stopped) _ _ _ _ _ c.self.view_is c.requires (c.stop.ensures ∙ ap (stopped) c.index_mut.ensures.value)
