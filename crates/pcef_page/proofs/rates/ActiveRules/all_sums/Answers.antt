use Rattle.std.proofs.Common.{◌<◌, ◌∙◌, length, length-set, slice_index, arith}
use Rattle.pcef_page.specs.Guarantees.{bearers, down_of, up_of}
use Rattle.pcef_page.proofs.RuleLists.{more_pairs, pair_is}
use Rattle.pcef_page.proofs.rates.ActiveRules.all_sums.Goals as goal

pub loop-place-preserved : goal.loop-place-preserved
loop-place-preserved c =
    let all = c.loop-place.all in
    let place = c.loop-place.place in
    let before = c.loop-place.invariant in
    let within : place < length all = omega (arith, before.long, c.loop-place-test.true) in
    record {
      long = length-set all place c.sums.result ∙ before.long;
      sums = more_pairs all place c.sums.result (λ k. (up_of c.args.self.now (slice_index bearers k), down_of c.args.self.now (slice_index bearers k)))
          within (pair_is c.sums.result _ _ c.sums.ensures.up c.sums.ensures.down) before.sums;
    }
