use Rattle.std.proofs.Common.{◌∙◌}
use Rattle.pcef_gx_orders.proofs.Kept.{kept_active}
use Rattle.pcef_gx_orders.proofs.finding.active_definition.Goals as goal

pub returns : goal.returns
returns c = c.kept_definition.ensures ∙ kept_active _ _ _ _ c.active.ensures
