use Rattle.std.proofs.Common.{List, ◌++◌, ℕ, Option, length, map}
use Rattle.pcef_diameter.specs.Avps.{Reads, Shown, shown}
use Rattle.pcef_diameter.specs.declared.fault.AvpFault.{AvpFault}
use Rattle.pcef_diameter.proofs.avps.read_avps.Given as goal

-- whatever is read of the rest is read of all behind the AVPs so far
abbrev pub invariant-loop-rest : goal.invariant-loop-rest
invariant-loop-rest l =
    (avps : List Shown) (behind : List ℕ) (fault : Option AvpFault)
    → Reads l.rest avps behind fault
    → Reads l.octets (map shown l.avps.items ++ avps) behind fault

abbrev pub decreases-loop-rest : goal.decreases-loop-rest
decreases-loop-rest l = length l.rest
