use Rattle.std.proofs.Common.{rules, not}
use Rattle.std.proofs.lemmas.Fn.{filter_same}
use Rattle.pcef_bearer.specs.Bindings.{is_bound_as}
use Rattle.pcef_bearer.specs.declared.bearers.Bound.{Bound}
use Rattle.pcef_bearer.proofs.lookup.drop_named.Goals as goal

pub returns : goal.returns
returns c = filter_same _ (λ (b : Bound). not (is_bound_as c.args.name.now b)) _ (λ x b f' called. search rules) _ _ c.retain.ensures.filtered
