use Rattle.std.proofs.Common.{◌≡◌, ◌++◌, drop}
use Rattle.pcef_gx.specs.Triggers.{others_of}
use Rattle.pcef_gx.proofs.triggers.others_of.Given as goal

-- the others of the rest, behind those so far, are the others of all
abbrev pub invariant-loop-number : goal.invariant-loop-number
invariant-loop-number l = l.others.items ++ others_of (drop l.number-index l.numbers) ≡ others_of l.numbers
