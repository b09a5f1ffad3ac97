-- Packets that arrive for workers.
use Rattle.std.specs.Prelude.{ℕ, ◌==◌, List, filter, map}
use Rattle.pcef_packet.specs.declared.header.Header.{Header}
use Rattle.pcef_gateway.specs.declared.arrivals.Arrival.{Arrival}

-- the headers of those that arrive for a worker, in order
abbrev pub headers_for : ℕ → List Arrival → List Header
headers_for worker arrivals = map (λ a. a.header) (filter (λ a. a.worker == worker) arrivals)
