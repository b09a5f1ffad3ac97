use Rattle.std.proofs.Common.{◌≡◌, ◌+◌, ◌*◌, ◌∙◌, ℕ, length, subst, sym, arith}
use Rattle.std.specs.Int.{bit_at}
use Rattle.std.specs.Vec.{vec_len}
use Rattle.std.proofs.lemmas.Bool.{eqb-true}
use Rattle.std.proofs.lemmas.List.{get_or_past}
use Rattle.pcef_index.specs.private.Digits.{digit_of}
use Rattle.pcef_index.proofs.digits.Digits.word.Goals as goal

pub returns-then-is_empty : goal.returns-then-is_empty
returns-then-is_empty c i n small is lets =
    let words = c.args.self.now.words in
    let place : ℕ = 128 * c.args.block + 16 * 0 + digit_of n 0 in
    let e = eqb-true (vec_len words) 0 (sym c.is_empty.ensures ∙ c.if-is_empty.true) in
    let none : length words.items ≡ 0 = omega (arith, e) in
    subst (λ (w : ℕ). bit_at w i ≡ 1) (get_or_past words.items place 0 (omega (arith, none))) (lets 0 (omega arith))
