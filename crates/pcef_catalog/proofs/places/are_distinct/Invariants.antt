use Rattle.std.proofs.Common.{◌≢◌, ℕ, ◌<◌}
use Rattle.std.specs.List.{slice_get}
use Rattle.pcef_catalog.specs.Offers.{names_of}
use Rattle.pcef_catalog.specs.PlainRules.{offers_in}
use Rattle.pcef_catalog.proofs.places.are_distinct.Given as goal

-- the names so far are distinct
abbrev pub invariant-loop-place : goal.invariant-loop-place
invariant-loop-place g l = (j : ℕ) → j < l.place → (k : ℕ) → k < j → slice_get (names_of (offers_in l.rules)) k ≢ slice_get (names_of (offers_in l.rules)) j
