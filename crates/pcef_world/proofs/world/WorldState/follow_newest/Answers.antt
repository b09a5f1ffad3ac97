use Rattle.std.proofs.Common.{◌∙◌, List, ap, subst, sym}
use Rattle.std.specs.Arc.{arc_value}
use Rattle.pcef_catalog.specs.declared.listing.Offer.{Offer}
use Rattle.pcef_table.specs.Tables.{IsTable}
use Rattle.pcef_world.proofs.Followed.{followed_now}
use Rattle.pcef_world.proofs.world.WorldState.follow_newest.Goals as goal

pub follow-requires : goal.follow-requires
follow-requires g c =
    let offered = c.requires ∙ sym (ap (λ w. w.session.setting.catalog) c.self.view_is) in
    subst (λ (offers : List Offer). IsTable offers (arc_value c.indexed.result.now).entries) (sym offered) c.indexed.ensures.ordered

pub invariant_of-self : goal.invariant_of-self
invariant_of-self g c =
    let offered = c.requires ∙ sym (ap (λ w. w.session.setting.catalog) c.self.view_is) in (
      c.self.invariant.0,
      λ is. followed_now c.self.inside.session (arc_value c.indexed.result.now) (g.C.Offers.offers c.args.catalog.now) c.follow.new.self c.follow.result c.indexed.ensures offered c.follow.ensures
          (sym c.is_ok-self-inside.ensures.value ∙ is),
    )
