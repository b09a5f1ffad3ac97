use Rattle.std.proofs.Common.{◌<◌, ◌*◌, arith}
use Rattle.std.specs.Int.{trailing_zeros, w64}
use Rattle.std.proofs.lemmas.Nat.Bits.{bit_at-trailing_zeros}
use Rattle.pcef_index.specs.private.Lines.{standing_fits}
use Rattle.pcef_index.specs.private.Words.{fits_at}
use Rattle.pcef_index.proofs.Searching.{fail_below, sieved_above, without_smaller}
use Rattle.pcef_index.proofs.sieve.Sieve.first_in.Goals as goal

pub loop-left-init : goal.loop-left-init
loop-left-init g c = record { fits = omega arith; sieved = c.requires.sieved }

pub last_failing-requires-clause-bit : goal.last_failing-requires-clause-bit
last_failing-requires-clause-bit g c =
    let some : 0 < c.loop-left.left = omega (arith, c.loop-left-test.true) in
    (bit_at-trailing_zeros w64 c.loop-left.left some c.loop-left.invariant.fits).0

pub returns-in-Some : goal.returns-in-Some
returns-in-Some g c =
    let test = standing_fits c.args.standing.places.now (g.C.Offers.offers c.args.catalog.now) c.args.ue.now c.args.header.now in
    let some : 0 < c.loop-left.left = omega (arith, c.loop-left-test.true) in (
      trailing_zeros w64 c.loop-left.left,
      fail_below (fits_at test c.args.standing.lines.now) c.args.self.now.numbers.items (c.args.passed.block * 64) c.loop-left.left some c.loop-left.invariant.fits c.loop-left.invariant.sieved,
      c.in-Some.ensures,
    )

pub loop-left-smaller : goal.loop-left-smaller
loop-left-smaller g c =
    let some : 0 < c.loop-left.left = omega (arith, c.loop-left-test.true) in
    without_smaller c.loop-left.left c.above-left.result some c.loop-left.invariant.fits c.above-left.ensures.most (c.above-left.ensures.clears (trailing_zeros w64 c.loop-left.left) c.last_failing.ensures.least)

pub loop-left-preserved : goal.loop-left-preserved
loop-left-preserved g c =
    let offers = g.C.Offers.offers c.args.catalog.now in
    let test = standing_fits c.args.standing.places.now offers c.args.ue.now c.args.header.now in
    let some : 0 < c.loop-left.left = omega (arith, c.loop-left-test.true) in
    let fits = c.loop-left.invariant.fits in
    record {
      fits = omega (arith, fits, c.above-left.ensures.most);
      sieved = sieved_above (fits_at test c.args.standing.lines.now) c.args.self.now.numbers.items (c.args.passed.block * 64) c.loop-left.left c.last_failing.result c.above-left.result some fits c.loop-left.invariant.sieved
          (λ t least most. c.last_failing.ensures.fail offers c.args.ue.now c.args.header.now t c.in_default.ensures least most)
          c.above-left.ensures.keeps;
    }
