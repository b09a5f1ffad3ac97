use Rattle.std.proofs.Common.{◌≡◌, ◌∙◌, subst}
use Rattle.pcef_active.specs.ByName.{RulesByName, without_kept}
use Rattle.pcef_active.proofs.Names.{removed_is}
use Rattle.pcef_active.proofs.active.ActiveRules.remove.Goals as goal

pub returns-clause-rules : goal.returns-clause-rules
returns-clause-rules c =
    subst (λ (v : RulesByName). c.shift_remove-removed.new.self.entries ≡ without_kept c.args.name.now v.rules) c.self.view_is
    (c.shift_remove-removed.ensures.entries ∙ removed_is c.args.name.now c.self.inside.rules.entries c.len-count.ensures.unique)
