-- What rules compare of addresses.
use Rattle.std.specs.Prelude.{ℕ, ◌-◌, ◌/◌, ◌^◌, ◌==◌, Bool, true, false}
use Rattle.pcef_packet.specs.declared.header.Addr.{Addr}
use Rattle.pcef_packet.specs.declared.header.Addr.TheVariants.{V4, V6}
use Rattle.pcef_packet.specs.declared.header.Dir.{Dir}
use Rattle.pcef_packet.specs.declared.header.Dir.TheVariants.{Up, Down}
use Rattle.pcef_packet.specs.declared.header.Header.{Header}

-- how many bits an address has
abbrev pub width_of : Addr → ℕ
width_of (V4 number) = 32
width_of (V6 number) = 128

-- two numbers of this width agree in their first bits
abbrev pub same_front : ℕ → ℕ → ℕ → ℕ → Bool
same_front width bits a b = (a / 2 ^ (width - bits)) == (b / 2 ^ (width - bits))

-- two addresses of one version agree in their first bits (RFC 6733, clause 4.3.1)
abbrev pub agrees_in : ℕ → Addr → Addr → Bool
agrees_in bits (V4 a) (V4 b) = same_front 32 bits a b
agrees_in bits (V4 a) (V6 b) = false
agrees_in bits (V6 a) (V4 b) = false
agrees_in bits (V6 a) (V6 b) = same_front 128 bits a b

-- an address is one of a session's: a session of version 4 has one address, and one of version 6 the
-- whole network of 64 bits that its address stands in (TS 23.401, clause 5.3.1.2.2)
abbrev pub is_assigned : Addr → Addr → Bool
is_assigned (V4 a) (V4 ue) = a == ue
is_assigned (V4 a) (V6 ue) = false
is_assigned (V6 a) (V4 ue) = false
is_assigned (V6 a) (V6 ue) = same_front 128 64 a ue

abbrev pub same_dir : Dir → Dir → Bool
same_dir Up Up = true
same_dir Up Down = false
same_dir Down Up = false
same_dir Down Down = true

-- the user equipment is the source of an uplink packet and the destination of a downlink packet (own choice)
abbrev pub ue_side_in : Dir → Header → Addr
ue_side_in Up header = header.src
ue_side_in Down header = header.dst

abbrev pub ue_side : Header → Addr
ue_side header = ue_side_in header.dir header

-- the other side
abbrev pub remote_side_in : Dir → Header → Addr
remote_side_in Up header = header.dst
remote_side_in Down header = header.src

abbrev pub remote_side : Header → Addr
remote_side header = remote_side_in header.dir header
