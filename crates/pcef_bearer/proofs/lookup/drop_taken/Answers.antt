use Rattle.std.proofs.Common.{rules, not}
use Rattle.std.proofs.lemmas.Fn.{filter_same}
use Rattle.pcef_model.specs.Commands.{takes_away}
use Rattle.pcef_bearer.specs.declared.bearers.Bound.{Bound}
use Rattle.pcef_bearer.proofs.lookup.drop_taken.Goals as goal

pub returns : goal.returns
returns c = filter_same _ (λ (b : Bound). not (takes_away c.args.command.now b.name b.bearer.0)) _ (λ x b f' called. search rules) _ _ c.retain.ensures.filtered
