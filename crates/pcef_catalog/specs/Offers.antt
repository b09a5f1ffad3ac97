-- Predefined rules, without their closures.
use Rattle.std.specs.Prelude.{ℕ, ◌≢◌, ◌≤◌, ◌<◌, Bool, List, length, map, slice_get, Option, Some, None}
use Rattle.std.specs.Str.{bytes_eq}
use Rattle.pcef_catalog.specs.declared.listing.Offer.{Offer}
use Rattle.pcef_catalog.specs.declared.catalog.CatalogFault.{CatalogFault}
use Rattle.pcef_catalog.specs.declared.catalog.CatalogFault.TheVariants.{SameName, TooMany, NoMemory}

-- own choice
abbrev pub most_offers : ℕ
most_offers = 32

-- whether a rule has this name
abbrev pub is_offer_of : List ℕ → Offer → Bool
is_offer_of name o = bytes_eq o.properties.name name

abbrev pub names_of : List Offer → List (List ℕ)
names_of offers = map (λ o. o.properties.name) offers

-- no two names are the same
abbrev pub AreDistinct : List (List ℕ) → Type 0
AreDistinct names = (i j : ℕ) → i < j → j < length names → slice_get names i ≢ slice_get names j

-- when rules make a catalog, and when each fault is due; out of memory is the last
abbrev pub Makes : List Offer → Option CatalogFault → Type 0
Makes offers None = AreDistinct (names_of offers) × (length offers ≤ most_offers)
Makes offers (Some SameName) = ¬ AreDistinct (names_of offers)
Makes offers (Some TooMany) = AreDistinct (names_of offers) × (most_offers < length offers)
Makes offers (Some NoMemory) = AreDistinct (names_of offers) × (length offers ≤ most_offers)
