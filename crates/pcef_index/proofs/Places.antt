-- What stands at a place.
use Rattle.std.proofs.Common.{◌≡◌, ℕ, suc, zero, List, [], ◌∷◌, Some, Contains, arith}
use Rattle.std.specs.Prelude.{slice_get}

-- what is got at a place of a list is there
pub got_is_there : {X : Type 0} (xs : List X) (i : ℕ) (x : X) → slice_get xs i ≡ Some x → Contains xs x
got_is_there [] i x got = absurd cc
got_is_there (y ∷ xs) zero x got = (0, omega arith, cc)
got_is_there (y ∷ xs) (suc i) x got = let rest = got_is_there xs i x got in (suc rest.0, omega (arith, rest.1), rest.2)
