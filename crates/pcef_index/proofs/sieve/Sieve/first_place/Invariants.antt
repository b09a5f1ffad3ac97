use Rattle.std.proofs.Common.{◌≡◌, ◌*◌, find, drop}
use Rattle.pcef_index.specs.private.Lines.{standing_fits}
use Rattle.pcef_index.specs.private.Words.{fits_at}
use Rattle.pcef_index.proofs.sieve.Sieve.first_place.Given as goal

abbrev pub invariant-loop-block : goal.invariant-loop-block
invariant-loop-block g l =
    find (fits_at (standing_fits l.standing.places.now (g.C.Offers.offers l.catalog) l.ue l.header) l.standing.lines.now) (drop (l.block * 64) l.self.numbers.items)
    ≡ find (fits_at (standing_fits l.standing.places.now (g.C.Offers.offers l.catalog) l.ue l.header) l.standing.lines.now) l.self.numbers.items
