use Rattle.std.proofs.Common.{List, ℕ, sym, subst, arith}
use Rattle.pcef_index.specs.private.Standing.{AreStanding, HasStanding}
use Rattle.pcef_index.proofs.Running.{all_stand, word_more}
use Rattle.pcef_index.proofs.standing_words.standing_words.Goals as goal

pub loop-block-init : goal.loop-block-init
loop-block-init c = record {
  long = omega (arith, c.in_ok-words.ensures.len);
  standing = subst (λ (ws : List ℕ). AreStanding c.args.places.now c.args.lines.now c.args.numbers.now ws) (sym c.in_ok-words.ensures.items) (all_stand c.args.places.now c.args.lines.now c.args.numbers.now);
}

pub loop-block-preserved : goal.loop-block-preserved
loop-block-preserved c =
    let places = c.args.places.now in
    let lines = c.args.lines.now in
    let numbers = c.args.numbers.now in
    let words = c.loop-block.words.items in
    let here : HasStanding places lines numbers _ c.standing_word.result = subst (λ (b : ℕ). HasStanding places lines numbers b c.standing_word.result) (sym c.loop-block.invariant.long) c.standing_word.ensures in
    record {
      long = omega (arith, c.loop-block.invariant.long, c.in_ok-push.ensures.len);
      standing = subst (λ (ws : List ℕ). AreStanding places lines numbers ws) (sym c.in_ok-push.ensures.items) (word_more places lines numbers words c.standing_word.result c.loop-block.invariant.standing here);
    }
