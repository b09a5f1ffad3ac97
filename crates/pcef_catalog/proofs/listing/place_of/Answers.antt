use Rattle.std.proofs.Common.{◌∙◌, arith, sym}
use Rattle.pcef_catalog.specs.Offers.{is_offer_of}
use Rattle.pcef_catalog.proofs.Views.{find_here}
use Rattle.pcef_catalog.proofs.listing.place_of.Goals as goal

pub returns-then-has_name-clause-offer : goal.returns-then-has_name-clause-offer
returns-then-has_name-clause-offer c =
    find_here (is_offer_of c.args.name.now) c.args.offers.now c.loop-place.place c.index-offers-place.result (omega arith) c.index-offers-place.is (sym c.if-has_name.ensures)
    ∙ c.loop-place.invariant
