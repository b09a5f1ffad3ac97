use Rattle.std.proofs.Common.{◌≡◌, ◌+◌, ◌*◌, ◌∙◌, ℕ, List, get_or, ap, subst, sym, arith}
use Rattle.pcef_index.specs.private.Digits.{digit_of, digit_place}
use Rattle.pcef_index.specs.private.Words.{Has}
use Rattle.pcef_index.proofs.Bits.{and_has, full_has}
use Rattle.pcef_index.proofs.DigitLaws.{place_at}
use Rattle.pcef_index.proofs.digits.word_of.Goals as goal

pub loop-digit-init : goal.loop-digit-init
loop-digit-init c i n small is has = full_has i small

pub loop-digit-preserved : goal.loop-digit-preserved
loop-digit-preserved c i n small is has =
    let words = c.args.words.now in
    let digit = c.loop-digit.digit in
    let there : get_or c.args.places digit 0 ≡ digit_place n digit = ap (λ (ks : List ℕ). get_or ks digit 0) is ∙ place_at n digit (omega arith) in
    let same : 0 + 16 * digit + digit_of n digit ≡ digit_place n digit = omega arith in
    and_has c.loop-digit.word (get_or words (get_or c.args.places digit 0) 0) i
    (c.loop-digit.invariant i n small is (λ k below. has k (omega (arith, below))))
    (subst (λ (k : ℕ). Has words k i) (same ∙ sym there) (has digit (omega arith)))
