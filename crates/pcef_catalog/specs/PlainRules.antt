-- Predefined rules, whose closures are left out.
use Rattle.std.specs.Prelude.{List, map}
use Rattle.pcef_catalog.specs.declared.listing.Offer.{Offer}
use Rattle.pcef_catalog.specs.declared.predefined.Predefined.{Predefined}

-- a predefined rule without its closure
abbrev pub offer_of : {d h g : _} → Predefined d h g → Offer
offer_of p = record { properties = p.properties; shape = p.shape }

abbrev pub offers_in : {d h g : _} → List (Predefined d h g) → List Offer
offers_in rules = map offer_of rules
