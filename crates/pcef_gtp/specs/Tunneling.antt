-- The packet of a tunnel that an IP packet has in it (3GPP TS 29.281, clauses 4.4.2 and 5.1).
use Rattle.std.specs.Prelude.{ℕ, List, Result}
use Rattle.pcef_base.specs.Readings.{◌>>=◌}
use Rattle.pcef_gtp.specs.Messages.{packet_in}
use Rattle.pcef_gtp.specs.Outer.{datagram_in, message_in}
use Rattle.pcef_gtp.specs.declared.refusal.NotTunneled.{NotTunneled}

-- the TEID and the packet
unfoldable pub tunneled_in : List ℕ → Result (ℕ × List ℕ) NotTunneled
tunneled_in octets = datagram_in octets >>= (λ datagram. message_in datagram >>= packet_in)
