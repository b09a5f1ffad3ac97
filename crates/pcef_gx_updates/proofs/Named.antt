-- How many octets a name stands for.
use Rattle.std.proofs.Common.{◌≤◌, ℕ, List, [], ◌∷◌, length, inl, inr, arith}
use Rattle.std.proofs.lemmas.Bool.{cases_Bool}
use Rattle.pcef_gx.specs.Names.{is_escape, octets_of}

pub octets_few : (name : List ℕ) → length (octets_of name) ≤ length name
octets_few [] = omega arith
octets_few (a ∷ []) = omega arith
octets_few (a ∷ b ∷ []) = omega arith
octets_few (a ∷ b ∷ c ∷ rest) =
    elim (cases_Bool (is_escape a b c)) [
      | inl is ↦ rw is (omega (arith, octets_few rest))
      | inr isnt ↦ rw isnt (omega (arith, octets_few (b ∷ c ∷ rest)))
    ]
