use Rattle.std.proofs.Common.{◌≡◌, length}
use Rattle.pcef_packet.specs.Carrying.{carried_in}
use Rattle.pcef_packet.proofs.extensions.payload_behind.Given as goal

abbrev pub invariant-headers : goal.invariant-headers
invariant-headers l = carried_in l.kind l.left ≡ carried_in l.first l.octets

abbrev pub decreases-headers : goal.decreases-headers
decreases-headers l = length l.left
