-- Flows as they are kept, and what they stand for.
use Rattle.std.specs.Prelude.{◌+◌, ◌*◌, ◌^◌, Option, option_map}
use Rattle.pcef_packet.specs.declared.header.Addr.{Addr}
use Rattle.pcef_packet.specs.declared.header.Addr.TheVariants as addr
use Rattle.pcef_packet.specs.declared.header.Header.{Header}
use Rattle.pcef_flow.specs.declared.cache.Remembered.{Remembered}
use Rattle.pcef_flow.specs.declared.flow.Flow.{Flow}
use Rattle.pcef_flow.specs.declared.flow.FlowAddr.{FlowAddr}
use Rattle.pcef_flow.specs.declared.flow.FlowAddr.TheVariants.{V4, V6}
use Rattle.pcef_flow.specs.Flows.{Note}

abbrev pub addr_of : FlowAddr → Addr
addr_of (V4 number) = addr.V4 number
addr_of (V6 high low) = addr.V6 (high * 2 ^ 64 + low)

abbrev pub header_of : Flow → Header
header_of f = record {
  src = addr_of f.src;
  dst = addr_of f.dst;
  octets = 0;
  ports = f.ports;
  dir = f.dir;
  proto = f.proto;
  dscp = f.dscp;
}

abbrev pub note_of : Option Remembered → Option Note
note_of kept = option_map (λ r. record { flow = header_of r.flow; place = r.place }) kept
