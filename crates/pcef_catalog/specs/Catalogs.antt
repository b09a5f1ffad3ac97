-- Catalogs, without their closures.
use Rattle.std.specs.Prelude.{List}
use Rattle.pcef_catalog.specs.declared.listing.Offer.{Offer}
use Rattle.pcef_catalog.specs.declared.catalog.Catalog.{Catalog}

-- the rules that a catalog offers
abbrev pub offers_of : {d h g : _} → Catalog d h g → List Offer
offers_of c = c.listing
