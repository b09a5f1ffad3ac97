use Rattle.std.proofs.Common.{◌∙◌, List, ap, subst, sym}
use Rattle.std.specs.Arc.{arc_value}
use Rattle.pcef_table.specs.Tables.{TableValue}
use Rattle.pcef_flow.specs.Flows.{IsOwnPlace}
use Rattle.pcef_world.specs.declared.newest.RuleBrief.{RuleBrief}
use Rattle.pcef_world.specs.Newest.{IsBriefOf}
use Rattle.pcef_world.specs.private.Followed.{decided_at}
use Rattle.pcef_world.proofs.Briefs.{place_is_brief}
use Rattle.pcef_world.proofs.newest.JudgedFlows.judge.Goals as goal

pub returns-in-Ok-clause-brief : goal.returns-in-Ok-clause-brief
returns-in-Ok-clause-brief g c =
    let offers = g.C.Offers.offers c.args.catalog.now in
    let t = arc_value c.args.self.now.held in
    let ue = c.args.ue.now in
    let header = c.args.header.now in
    let place = c.in-Ok.place in
    let own = subst (λ (s : TableValue). IsOwnPlace offers s.entries ue header place) c.deref.ensures c.in-Ok.ensures.own in
    let is = c.decided_at.ensures ∙ ap (λ (briefs : List RuleBrief). decided_at t.number briefs place header.dir) c.requires.follows.rules in
    subst (IsBriefOf offers t ue header) (sym is) (place_is_brief offers t ue header place c.requires.table own.0 own.1)
