use Rattle.std.proofs.Common.{◌∙◌}
use Rattle.pcef_model.specs.ProfileModel.{setting_of}
use Rattle.pcef_run.proofs.Opened.{no_rates_at_first}
use Rattle.pcef_run.proofs.member.Member.open.Goals as goal

pub invariant_of-result : goal.invariant_of-result
invariant_of-result g c = (
  c.in-Some.ensures.share ∙ no_rates_at_first (setting_of c.args.profile c.args.listing) c.in-Ok.session c.in-Ok.ensures.made,
  c.in-Ok.ensures.made.2,
)
