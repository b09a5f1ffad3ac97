use Rattle.std.proofs.Common.{◌≡◌, take}
use Rattle.pcef_catalog.proofs.shape.copy_alternatives.Given as goal

-- the alternatives so far
abbrev pub invariant-loop-alternative : goal.invariant-loop-alternative
invariant-loop-alternative l = l.copy.items ≡ take l.alternative-index l.alternatives
