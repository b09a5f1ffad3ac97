use Rattle.std.proofs.Common.{◌<◌, ◌*◌, ◌^◌}
use Rattle.pcef_index.specs.private.Lines.{standing_fits}
use Rattle.pcef_index.specs.private.Words.{AreSieved, fits_at}
use Rattle.pcef_index.proofs.sieve.Sieve.first_in.Given as goal

abbrev pub invariant-loop-left : goal.invariant-loop-left
invariant-loop-left g l = record {
  fits : l.left < 2 ^ 64;
  sieved : AreSieved (fits_at (standing_fits l.standing.places.now (g.C.Offers.offers l.catalog) l.ue l.header) l.standing.lines.now) l.self.numbers.items (l.passed.block * 64) l.left;
}

abbrev pub decreases-loop-left : goal.decreases-loop-left
decreases-loop-left g l = l.left
