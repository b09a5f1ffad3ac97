use Rattle.std.proofs.Common.{◌≡◌, ◌<◌, ℕ, false}
use Rattle.pcef_index.specs.private.Bases.{stands_and_fits}
use Rattle.pcef_index.proofs.base.first_searched.Given as goal

abbrev pub invariant-loop-number : goal.invariant-loop-number
invariant-loop-number g l =
    (k : ℕ) → k < l.number → stands_and_fits l.places (g.C.Offers.offers l.catalog) l.ue l.header l.sources k ≡ false
