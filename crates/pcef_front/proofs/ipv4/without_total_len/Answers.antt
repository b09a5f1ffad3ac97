use Rattle.std.proofs.Common.{ℕ, ◌≡◌, ◌<◌, List, [], ◌∷◌, arith, length, refl, slice_index}
use Rattle.pcef_front.proofs.FrontsV4.{total_beyond, total_missing}
use Rattle.pcef_front.proofs.ipv4.without_total_len.Goals as goal
use Rattle.pcef_front.proofs.ipv4.without_total_len.Goals.{else-front-eq3-via-else-front-eq3, else-front-eq3-via-then-front-eq3+else-whole-from}

no_third : (front : List ℕ) → length front < 3 → slice_index front 2 ≡ 0
no_third [] few = refl
no_third (a ∷ []) few = refl
no_third (a ∷ b ∷ []) few = refl
no_third (a ∷ b ∷ c ∷ more) few = absurd (omega arith)

pub returns-then-whole-from : goal.returns-then-whole-from
returns-then-whole-from c = λ dir.
    let upper = c.from.ensures in
    let beyond = c.if-whole-from.true in
    total_beyond dir c.args.front.now c.args.whole c.if-front-eq3.true c.requires.least c.requires.most (omega arith)

pub returns-else-front-eq3 : goal.returns-else-front-eq3
returns-else-front-eq3 c = λ dir. total_missing dir c.args.front.now c.args.whole c.requires.some c.requires.few c.requires.least c.requires.most
    (elim c.else-front-eq3.branch [
      | else-front-eq3-via-then-front-eq3+else-whole-from w ↦ (let upper = w.from.ensures in let within = w.if-whole-from.false in omega arith)
      | else-front-eq3-via-else-front-eq3 w ↦
          (let few = c.requires.few in let other = w.if-front-eq3.false in let none = no_third c.args.front.now (omega arith) in omega arith)
    ])
