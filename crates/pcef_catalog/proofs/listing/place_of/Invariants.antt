use Rattle.std.proofs.Common.{◌≡◌, drop, find}
use Rattle.pcef_catalog.specs.Offers.{is_offer_of}
use Rattle.pcef_catalog.proofs.listing.place_of.Given as goal

-- what is found from here on is found at all
abbrev pub invariant-loop-place : goal.invariant-loop-place
invariant-loop-place l = find (is_offer_of l.name) (drop l.place l.offers) ≡ find (is_offer_of l.name) l.offers
