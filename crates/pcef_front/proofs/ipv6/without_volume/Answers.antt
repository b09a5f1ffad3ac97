use Rattle.std.proofs.Common.{ℕ, ◌≡◌, ◌<◌, List, [], ◌∷◌, arith, length, refl, slice_index}
use Rattle.pcef_front.proofs.FrontsV6.{volume_beyond, volume_missing}
use Rattle.pcef_front.proofs.ipv6.without_volume.Goals as goal
use Rattle.pcef_front.proofs.ipv6.without_volume.Goals.{else-front-eq5-via-else-front-eq5, else-front-eq5-via-then-front-eq5+else-whole-from}

no_fifth : (front : List ℕ) → length front < 5 → slice_index front 4 ≡ 0
no_fifth [] few = refl
no_fifth (a ∷ []) few = refl
no_fifth (a ∷ b ∷ []) few = refl
no_fifth (a ∷ b ∷ c ∷ []) few = refl
no_fifth (a ∷ b ∷ c ∷ d ∷ []) few = refl
no_fifth (a ∷ b ∷ c ∷ d ∷ e ∷ more) few = absurd (omega arith)

pub returns-then-whole-from : goal.returns-then-whole-from
returns-then-whole-from c = λ dir.
    let upper = c.from.ensures in
    let beyond = c.if-whole-from.true in
    volume_beyond dir c.args.front.now c.args.whole c.if-front-eq5.true c.requires.long (omega arith)

pub returns-else-front-eq5 : goal.returns-else-front-eq5
returns-else-front-eq5 c = λ dir.
    volume_missing dir c.args.front.now c.args.whole c.requires.some c.requires.few
    (elim c.else-front-eq5.branch [
      | else-front-eq5-via-then-front-eq5+else-whole-from w ↦ (let upper = w.from.ensures in let within = w.if-whole-from.false in omega arith)
      | else-front-eq5-via-else-front-eq5 w ↦
          (let few = c.requires.few in let long = c.requires.long in let other = w.if-front-eq5.false in let none = no_fifth c.args.front.now (omega arith) in omega arith)
    ])
