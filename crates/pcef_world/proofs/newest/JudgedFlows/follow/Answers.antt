use Rattle.std.proofs.Common.{rules, ◌≡◌, ◌∙◌, ap, subst}
use Rattle.std.specs.Arc.{arc_value}
use Rattle.pcef_flow.specs.Flows.{Remembers}
use Rattle.pcef_table.specs.Tables.{TableValue}
use Rattle.pcef_world.specs.private.Followed.{rule_briefs}
use Rattle.pcef_world.proofs.newest.JudgedFlows.follow.Goals as goal

pub returns : goal.returns
returns g c ue =
    let offers = g.C.Offers.offers c.args.catalog.now in
    let held : arc_value c.in_ok-self.field-0 ≡ arc_value c.args.newest.now = search rules in
    record {
      held = held;
      rules = c.rule_briefs-self.ensures ∙ ap (rule_briefs offers) (c.table-2.ensures ∙ c.deref-2.ensures ∙ held);
      remembers = subst (λ (t : TableValue). Remembers offers t.entries ue c.follow.new.self) (c.table.ensures ∙ c.deref.ensures ∙ held) (c.follow.ensures ue);
    }
