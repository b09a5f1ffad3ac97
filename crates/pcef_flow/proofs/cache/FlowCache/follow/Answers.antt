use Rattle.std.proofs.Common.{rules, ◌∙◌, sym}
use Rattle.pcef_flow.proofs.Remembering.{none_remembered}
use Rattle.pcef_flow.proofs.cache.FlowCache.follow.Goals as goal

pub returns : goal.returns
returns g c ue = record {
  right = none_remembered (g.C.Offers.offers c.args.catalog.now) c.args.table.now.entries ue c.fill.new.self.items _ (c.fill.ensures.items (search rules));
  used = λ is. rw (← c.entries.ensures.entries) (sym c.all_ignore_volume-self-inside.ensures ∙ is);
}
