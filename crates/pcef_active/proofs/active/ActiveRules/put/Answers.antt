use Rattle.std.proofs.Common.{◌≡◌, ◌∙◌, subst}
use Rattle.pcef_active.specs.ByName.{RulesByName, put_kept}
use Rattle.pcef_active.proofs.Names.{inserted_is}
use Rattle.pcef_active.proofs.active.ActiveRules.put.Goals as goal

pub returns-clause-rules : goal.returns-clause-rules
returns-clause-rules c =
    subst (λ (v : RulesByName). c.insert.new.self.entries ≡ put_kept (c.args.name, c.args.source) v.rules) c.self.view_is
    (c.in-Ok.ensures.entries ∙ inserted_is c.args.name c.args.source c.self.inside.rules.entries)
