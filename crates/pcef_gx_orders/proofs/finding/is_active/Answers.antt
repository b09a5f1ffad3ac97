use Rattle.std.proofs.Common.{◌∙◌}
use Rattle.pcef_session.proofs.KeptRules.{kept_name}
use Rattle.pcef_gx_orders.proofs.finding.is_active.Goals as goal

pub returns : goal.returns
returns c = c.contains.ensures ∙ kept_name _ _ _ _ c.active.ensures
