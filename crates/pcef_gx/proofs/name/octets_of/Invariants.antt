use Rattle.std.proofs.Common.{◌≡◌, ◌++◌, length}
use Rattle.pcef_gx.specs.Names.{octets_of}
use Rattle.pcef_gx.proofs.name.octets_of.Given as goal

-- the octets of the rest, behind those so far, are those of the name
abbrev pub invariant-loop-rest : goal.invariant-loop-rest
invariant-loop-rest l = l.octets.items ++ octets_of l.rest ≡ octets_of l.name

abbrev pub decreases-loop-rest : goal.decreases-loop-rest
decreases-loop-rest l = length l.rest
