use Rattle.std.proofs.Common.{◌≡◌, ◌<◌, ◌+◌, ◌*◌, ◌/◌, ◌∙◌, ℕ, ap, drop, find, length, refl, subst, sym, arith}
use Rattle.std.specs.Int.{bit_at}
use Rattle.pcef_index.specs.private.Lines.{standing_fits}
use Rattle.pcef_index.specs.private.Words.{fits_at}
use Rattle.pcef_index.proofs.Probing.{has_words, lets_at}
use Rattle.pcef_index.proofs.Running.{behind_fail, fits_too, standing_has}
use Rattle.pcef_index.proofs.Searching.{found_in, next_block, rest_fails}
use Rattle.pcef_index.proofs.sieve.Sieve.first_place.Goals as goal

pub returns-then-are_behind : goal.returns-then-are_behind
returns-then-are_behind g c =
    let self = c.args.self.now in
    let lines = c.args.standing.lines.now in
    let places = c.args.standing.places.now in
    rest_fails (standing_fits places (g.C.Offers.offers c.args.catalog.now) c.args.ue.now c.args.header.now) lines self.numbers.items 0
    (λ j from. behind_fail places (g.C.Offers.offers c.args.catalog.now) c.args.ue.now c.args.header.now lines self.numbers.items j
    (λ k there. c.are_behind.ensures lines self.numbers.items j k c.requires.sieve.runs c.if-are_behind.true from there)) refl

pub returns-then-are_behind-2 : goal.returns-then-are_behind-2
returns-then-are_behind-2 g c =
    let self = c.args.self.now in
    let lines = c.args.standing.lines.now in
    let places = c.args.standing.places.now in
    let test = fits_at (standing_fits places (g.C.Offers.offers c.args.catalog.now) c.args.ue.now c.args.header.now) lines in
    let block = c.loop-block.block in
    let next : block * 64 + 64 ≡ (block + 1) * 64 = omega arith in
    rest_fails (standing_fits places (g.C.Offers.offers c.args.catalog.now) c.args.ue.now c.args.header.now) lines self.numbers.items (block * 64 + 64)
    (λ j from. behind_fail places (g.C.Offers.offers c.args.catalog.now) c.args.ue.now c.args.header.now lines self.numbers.items j
    (λ k there. c.are_behind-in-loop-block.ensures lines self.numbers.items j k c.requires.sieve.runs c.if-are_behind-2.true from there))
    (ap (λ (n : ℕ). find test (drop n self.numbers.items)) next ∙ next_block test self.numbers.items block c.in_default.ensures c.loop-block.invariant)

pub sieved-word-requires-clause-words : goal.sieved-word-requires-clause-words
sieved-word-requires-clause-words g c =
    let self = c.args.self.now in
    let blocks : ℕ = (length self.numbers.items + 63) / 64 in
    let some = c.requires.sieve.shaped.free in
    let less : c.loop-block.block < blocks = omega (arith, some, c.loop-block-test.true) in
    has_words self c.args.ue.now c.args.header.now c.probe-probe.result blocks c.loop-block.block c.requires.sieve.shaped less c.probe-probe.ensures.is c.probe-probe.ensures.within

pub first_in-requires-clause-sieved : goal.first_in-requires-clause-sieved
first_in-requires-clause-sieved g c i small passes =
    let self = c.args.self.now in
    let lines = c.args.standing.lines.now in
    let places = c.args.standing.places.now in
    let offers = g.C.Offers.offers c.args.catalog.now in
    let ue = c.args.ue.now in
    let h = c.args.header.now in
    let block = c.loop-block.block in
    let is = c.probe-probe.ensures.is in
    let up : bit_at c.standing_at.result i ≡ 1 =
    subst (λ (w : ℕ). bit_at w i ≡ 1) (sym c.standing_at.ensures) (standing_has places offers ue h lines self.numbers.items block _ i (c.requires.words block) small passes) in
    c.sieved-word.ensures ue h i is small up (lets_at self lines offers ue h block i c.requires.sieve.lets is.ranged small (fits_too places offers ue h lines self.numbers.items (block * 64 + i) passes))

pub returns-in-Some : goal.returns-in-Some
returns-in-Some g c =
    found_in (standing_fits c.args.standing.places.now (g.C.Offers.offers c.args.catalog.now) c.args.ue.now c.args.header.now) c.args.standing.lines.now c.args.self.now.numbers.items (c.loop-block.block * 64) c.in-Some.place
    c.in-Some.ensures c.loop-block.invariant

pub loop-block-preserved : goal.loop-block-preserved
loop-block-preserved g c =
    next_block (fits_at (standing_fits c.args.standing.places.now (g.C.Offers.offers c.args.catalog.now) c.args.ue.now c.args.header.now) c.args.standing.lines.now) c.args.self.now.numbers.items c.loop-block.block
    c.in_default.ensures c.loop-block.invariant
