use Rattle.std.proofs.Common.{◌∙◌, ap}
use Rattle.pcef_usage.specs.Keys.{started}
use Rattle.pcef_usage.proofs.Places.{written}
use Rattle.pcef_usage.proofs.usage.Usage.start.Goals as goal

pub returns : goal.returns
returns c = written (started c.args.amount) _ _ _ _ _ c.self.view_is c.requires (c.start.ensures ∙ ap (started c.args.amount) c.index_mut.ensures.value)
