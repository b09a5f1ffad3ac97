-- Headers as they are kept in great numbers, and what they stand for.
use Rattle.byteorder.specs.Endian.{big_number}
use Rattle.pcef_packet.specs.declared.header.Addr.{Addr}
use Rattle.pcef_packet.specs.declared.header.Addr.TheVariants as addr
use Rattle.pcef_packet.specs.declared.header.Header.{Header}
use Rattle.pcef_packet.specs.declared.packed.PackedAddr.{PackedAddr}
use Rattle.pcef_packet.specs.declared.packed.PackedAddr.TheVariants.{V4, V6}
use Rattle.pcef_packet.specs.declared.packed.PackedHeader.TheInside.{Inside}

-- the number in an address's octets, the highest octet first
abbrev pub addr_of : PackedAddr → Addr
addr_of (V4 octets) = addr.V4 (big_number 4 octets)
addr_of (V6 octets) = addr.V6 (big_number 16 octets)

abbrev pub header_of : Inside → Header
header_of p = record {
  src = addr_of p.src;
  dst = addr_of p.dst;
  octets = p.octets;
  ports = p.ports;
  dir = p.dir;
  proto = p.proto;
  dscp = p.dscp;
}
