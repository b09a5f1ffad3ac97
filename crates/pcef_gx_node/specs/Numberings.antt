-- The identifiers of the requests of a node (RFC 6733, clause 3).
use Rattle.std.specs.Prelude.{ℕ, ◌+◌, ◌*◌, ◌%◌, ◌^◌}
use Rattle.pcef_gx_peer.specs.declared.exchange.Identifiers.{Identifiers}

-- the low 12 bits of the time in front of 20 bits that count from 0
abbrev pub start_of : ℕ → ℕ
start_of seconds = (seconds % 2 ^ 12) * 2 ^ 20

-- the two are the same number (own choice)
abbrev pub identifiers : ℕ → Identifiers
identifiers number = record { hop_by_hop = number; end_to_end = number }

-- in 32 bits
abbrev pub after : ℕ → ℕ
after number = (number + 1) % 2 ^ 32
