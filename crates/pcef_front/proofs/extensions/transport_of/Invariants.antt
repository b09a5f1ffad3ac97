use Rattle.std.proofs.Common.{ℕ, ◌≤◌, List, length, Result}
use Rattle.pcef_front.specs.Fronts.{IsSettledBy}
use Rattle.pcef_front.specs.private.Transports.{transport_in}
use Rattle.pcef_front.specs.declared.extensions.Transport.{Transport}
use Rattle.pcef_front.specs.declared.fault.FrontFault.{FrontFault}
use Rattle.pcef_front.proofs.extensions.transport_of.Given as goal

-- the answer here is the answer for the whole front
pub record Leads (first kind : ℕ) (front left : List ℕ) (room left_room : ℕ) : Type 0 where
  pub within : length left ≤ left_room
  pub told : (r : Result Transport FrontFault) → IsSettledBy (transport_in kind) left left_room r → IsSettledBy (transport_in first) front room r

abbrev pub invariant-headers : goal.invariant-headers
invariant-headers l = Leads l.first l.kind l.front l.left l.room l.left_room

abbrev pub decreases-headers : goal.decreases-headers
decreases-headers l = l.left_room
