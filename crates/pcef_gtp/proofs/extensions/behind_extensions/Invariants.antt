use Rattle.std.proofs.Common.{◌≡◌, length}
use Rattle.pcef_gtp.specs.Messages.{behind_extensions}
use Rattle.pcef_gtp.proofs.extensions.behind_extensions.Given as goal

abbrev pub invariant-headers : goal.invariant-headers
invariant-headers l = behind_extensions l.kind l.rest ≡ behind_extensions l.first l.octets

abbrev pub decreases-headers : goal.decreases-headers
decreases-headers l = length l.rest
