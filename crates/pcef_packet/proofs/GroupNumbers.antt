-- The numbers of groups, and their bounds.
use Rattle.std.proofs.Common.{ℕ, suc, ◌≡◌, ◌+◌, ◌-◌, ◌*◌, ◌^◌, ◌<◌, ◌≤◌, ◌∙◌, sym, ap, arith}
use Rattle.std.proofs.lemmas.Nat.{pow-add}
use Rattle.std.proofs.lemmas.Grind.{pow_more}
use Rattle.std.proofs.Math.Nat.{mul-le-mul_right, pow-le-pow_right}

-- a number of at most four digits
pub sixteen : (n k : ℕ) → n < 16 ^ k → k ≤ 4 → n < 65536
sixteen n k h few =
    let step : 16 ^ k ≤ 16 ^ 4 = pow-le-pow_right (omega arith) few in
    omega (arith, step, h)

-- one group more
pub bound_more : (number count g : ℕ) → number < 65536 ^ count → g < 65536 → number * 65536 + g < 65536 ^ (count + 1)
bound_more number count g h small =
    let more = pow_more 65536 count in
    let above : (suc number) * 65536 ≤ 65536 ^ count * 65536 = mul-le-mul_right 65536 h in
    omega (arith, more, above)

eight_most : (k : ℕ) → k ≤ 8 → 65536 ^ k ≤ 2 ^ 128
eight_most k few =
    let step : 65536 ^ k ≤ 65536 ^ 8 = pow-le-pow_right (omega arith) few in
    omega (arith, step)

pub fits : (number count g : ℕ) → number < 65536 ^ count → count < 8 → g < 65536 → number * 65536 + g < 2 ^ 128
fits number count g h few small =
    let below = bound_more number count g h small in
    let most = eight_most (count + 1) (omega arith) in
    omega (arith, below, most)

-- groups in front and behind
pub both_fit : (high low highs lows : ℕ) → high < 65536 ^ highs → low < 65536 ^ lows → highs + lows ≤ 7 → high * 65536 ^ (8 - highs) + low < 2 ^ 128
both_fit high low highs lows h l few =
    let split : 65536 ^ highs * 65536 ^ (8 - highs) ≡ 65536 ^ 8 = (let sum : highs + (8 - highs) ≡ 8 = omega arith in sym (pow-add 65536 highs (8 - highs)) ∙ ap (λ (k : ℕ). 65536 ^ k) sum) in
    let above : suc high * 65536 ^ (8 - highs) ≤ 65536 ^ highs * 65536 ^ (8 - highs) = mul-le-mul_right (65536 ^ (8 - highs)) h in
    let apart = one_more high (65536 ^ (8 - highs)) in
    let less : 65536 ^ lows ≤ 65536 ^ (8 - highs) = pow-le-pow_right (omega arith) (omega arith) in
    omega (arith, split, above, apart, less, l)
  where
    one_more : (a b : ℕ) → suc a * b ≡ a * b + b
    one_more a b = grind arith

-- the number with a group of zero more
pub shift_fits : (high i : ℕ) → high < 65536 ^ i → i < 8 → (high * 65536 < 2 ^ 128) × (high * 65536 < 65536 ^ (i + 1))
shift_fits high i h few =
    let below = bound_more high i 0 h (omega arith) in
    let most = eight_most (i + 1) (omega arith) in
    (omega (arith, below, most), omega (arith, below))

pub shift_value : (high i whole : ℕ) → i < 8 → high * 65536 ^ (8 - i) ≡ whole → (high * 65536) * 65536 ^ (8 - (i + 1)) ≡ whole
shift_value high i whole few is =
    let one : (8 - (i + 1)) + 1 ≡ 8 - i = omega arith in
    let power : 65536 ^ (8 - (i + 1)) * 65536 ≡ 65536 ^ (8 - i) = sym (pow_more 65536 (8 - (i + 1))) ∙ ap (λ (k : ℕ). 65536 ^ k) one in
    turn high (65536 ^ (8 - (i + 1))) ∙ ap (λ (k : ℕ). high * k) power ∙ is
  where
    turn : (a b : ℕ) → (a * 65536) * b ≡ a * (b * 65536)
    turn a b = grind arith
