use Rattle.std.proofs.Common.{◌≢◌, ℕ, ◌<◌, Some}
use Rattle.std.specs.List.{slice_get}
use Rattle.pcef_catalog.specs.Offers.{names_of}
use Rattle.pcef_catalog.specs.PlainRules.{offers_in}
use Rattle.pcef_catalog.proofs.places.place_before.Given as goal

-- no place so far has the name
abbrev pub invariant-loop-place : goal.invariant-loop-place
invariant-loop-place g l = (k : ℕ) → k < l.place → slice_get (names_of (offers_in l.rules)) k ≢ Some l.name
