-- Kinds of packets: by direction, version, and TCP, UDP or another protocol (IANA's numbers 6 and 17).
use Rattle.std.specs.Prelude.{ℕ, ◌==◌, if◌then◌else◌}
use Rattle.pcef_packet.specs.declared.header.Addr.{Addr}
use Rattle.pcef_packet.specs.declared.header.Addr.TheVariants as addr
use Rattle.pcef_packet.specs.declared.header.Header.{Header}
use Rattle.pcef_index.specs.declared.kinds.Class.{Class}
use Rattle.pcef_index.specs.declared.kinds.Class.TheVariants.{Tcp, Udp, Other}
use Rattle.pcef_index.specs.declared.kinds.Kind.{Kind}
use Rattle.pcef_index.specs.declared.kinds.Version.{Version}
use Rattle.pcef_index.specs.declared.kinds.Version.TheVariants.{V4, V6}
use Rattle.pcef_index.specs.declared.sides.Side.TheVariants.{Remote}
use Rattle.pcef_index.specs.private.Sides.{addr_on}

abbrev pub version_of : Addr → Version
version_of (addr.V4 number) = V4
version_of (addr.V6 number) = V6

abbrev pub class_of : ℕ → Class
class_of proto = if proto == 6 then Tcp else if proto == 17 then Udp else Other

-- the kind of a packet
abbrev pub kind_of : Header → Kind
kind_of h = record { dir = h.dir; version = version_of (addr_on Remote h); class = class_of h.proto }
