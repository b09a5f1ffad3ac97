use Rattle.std.proofs.Common.{◌≡◌, ◌∙◌, subst}
use Rattle.std.specs.List.{list_any}
use Rattle.pcef_active.specs.ByName.{RulesByName, is_kept_as}
use Rattle.pcef_active.proofs.Names.{found_is}
use Rattle.pcef_active.proofs.active.ActiveRules.contains.Goals as goal

pub returns : goal.returns
returns c =
    subst (λ (v : RulesByName). c.contains_key.result ≡ list_any (is_kept_as c.args.name.now) v.rules) c.self.view_is
    (c.contains_key.ensures ∙ found_is c.args.name.now c.self.inside.rules.entries)
