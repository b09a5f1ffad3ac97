use Rattle.std.proofs.Common.{rules}
use Rattle.pcef_flow.proofs.Remembering.{none_remembered}
use Rattle.pcef_flow.proofs.cache.FlowCache.new.Goals as goal

pub returns : goal.returns
returns c offers entries ue = record {
  right = none_remembered offers entries ue c.in_ok-from_elem.field-0.items c.args.places (c.in_ok-from_elem.ensures.items_if_clones_equal (search rules));
  used = λ is. absurd cc;
}
