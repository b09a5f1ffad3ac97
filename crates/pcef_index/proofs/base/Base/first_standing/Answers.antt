use Rattle.std.proofs.Common.{◌∙◌, List, ap, find, refl, subst, sym}
use Rattle.pcef_index.specs.declared.lines.Line.{Line}
use Rattle.pcef_index.specs.private.AllSieves.{BaseValue}
use Rattle.pcef_index.specs.private.Lines.{lines_from, standing_fits}
use Rattle.pcef_index.specs.private.Standing.{StandFor}
use Rattle.pcef_index.proofs.Numbering.{place_of}
use Rattle.pcef_index.proofs.Standing.{first_rule}
use Rattle.pcef_index.proofs.base.Base.first_standing.Goals as goal

pub returns : goal.returns
returns g c =
    let places = c.args.places.now in
    let offers = g.C.Offers.offers c.args.catalog.now in
    let ue = c.args.ue.now in
    let h = c.args.header.now in
    let test = standing_fits places offers ue h in
    first_rule places offers ue h c.args.self.now.sources (lines_from 0 c.args.self.now.sources) c.first_place.result refl
    (c.first_place.ensures
    ∙ ap (λ (ls : List Line). place_of (find test ls)) c.deref-2.ensures.value
    ∙ c.self.invariant.kept places offers ue h (c.is_looked_up.ensures c.if-not-is_looked_up.false)
    ∙ ap (λ (b : BaseValue). place_of (find test (lines_from 0 b.sources))) c.self.view_is)

pub first_place-requires-clause-words : goal.first_place-requires-clause-words
first_place-requires-clause-words g c =
    let inside = c.self.inside in
    let places = c.args.places.now in
    let words = c.args.words.now in
    let stand : StandFor places inside.lines.items inside.sieves words = subst (λ (b : BaseValue). StandFor places b.lines b.sieves words) (sym c.self.view_is) c.requires in
    subst (λ (ls : List Line). StandFor places ls inside.sieves words) (sym c.deref-2.ensures.value) stand
