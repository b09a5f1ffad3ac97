use Rattle.std.proofs.Common.{rules, ◌≡◌, filter, subst}
use Rattle.indexmap.proofs.CallerLemmas.{filter-RetainsPairs}
use Rattle.pcef_active.specs.ByName.{RulesByName, is_still_bound}
use Rattle.pcef_active.proofs.active.ActiveRules.retain_bound.Goals as goal

pub returns-clause-rules : goal.returns-clause-rules
returns-clause-rules c =
    subst (λ (v : RulesByName). c.retain.new.self.entries ≡ filter (is_still_bound c.args.bearers.now) v.rules) c.self.view_is
    (filter-RetainsPairs _ _ _ (λ k v b w g call. search rules) _ _ c.retain.ensures.filtered)
