use Rattle.std.proofs.Common.{◌≡◌, ◌<◌, ◌≤◌, ℕ, Some}
use Rattle.pcef_index.specs.private.Bases.{place_in}
use Rattle.pcef_index.proofs.part.Part.reach.Given as goal

abbrev pub invariant-loop-number : goal.invariant-loop-number
invariant-loop-number l = (b k : ℕ) → l.reach ≤ b → b < l.number → place_in l.self b ≡ Some k → l.place ≤ k
