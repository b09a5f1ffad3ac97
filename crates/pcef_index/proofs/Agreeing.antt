-- Numbers that agree above some low bits.
use Rattle.std.proofs.Common.{◌≡◌, ◌<◌, ◌≤◌, ◌+◌, ◌-◌, ◌*◌, ◌/◌, ◌^◌, ◌∙◌, ℕ, ap, sym, subst, arith}
use Rattle.std.proofs.Math.Nat.{div-lt_iff_lt-mul}
use Rattle.std.proofs.lemmas.Nat.{pow-add, pow_pos}

-- what agrees with a number of 128 bits has no more
pub agree_small : (n number loose : ℕ) → loose ≤ 128 → number < 2 ^ 128 → n / 2 ^ loose ≡ number / 2 ^ loose → n < 2 ^ 128
agree_small n number loose few small same =
    let sum : 128 - loose + loose ≡ 128 = omega arith in
    let whole : 2 ^ (128 - loose) * 2 ^ loose ≡ 2 ^ 128 = sym (pow-add 2 (128 - loose) loose) ∙ ap (λ (m : ℕ). 2 ^ m) sum in
    let front : number / 2 ^ loose < 2 ^ (128 - loose) =
    (div-lt_iff_lt-mul (pow_pos loose)).1 (subst (λ (m : ℕ). number < m) (sym whole) small) in
    subst (λ (m : ℕ). n < m) whole
    ((div-lt_iff_lt-mul (pow_pos loose)).0 (subst (λ (m : ℕ). m < 2 ^ (128 - loose)) (sym same) front))
