-- A read that gives nothing.
use Rattle.std.proofs.Common.{ℕ, ◌≡◌, ◌∙◌, ◌++◌, List, Option, ap, append-nil, subst, take}
use Rattle.std.specs.Io.KnownBytes.{Consumes}
use Rattle.std.proofs.KnownBytes.{Consumes-trans}

-- what was read before it is all that was read
pub read_none : (before now left : Option (List ℕ)) (input block : List ℕ) (n : ℕ) → n ≡ 0 → Consumes before now input → Consumes now left (take n block) → Consumes before left input
read_none before now left input block n zero read none =
    subst (Consumes before left) (ap (λ k. input ++ take k block) zero ∙ append-nil input) (Consumes-trans before now left input (take n block) read none)
