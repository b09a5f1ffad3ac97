use Rattle.std.proofs.Common.{ap, arith, drop, filter, length, length-append, map}
use Rattle.pcef_diameter.specs.Avps.{shown}
use Rattle.pcef_diameter.specs.Spellings.{avps_octets}
use Rattle.pcef_gx.specs.Codes.{has_code, proxy_info}
use Rattle.pcef_diameter.proofs.Rooms.{filter_len}
use Rattle.pcef_gx_messages.proofs.proxies.put_proxies.Goals as goal

pub returns-clause-room : goal.returns-clause-room
returns-clause-room c =
    let asked = map shown c.args.asked.now in
    let rest = map shown (drop c.loop-avp.avp-index c.args.asked.now) in
    omega (
      arith,
      ap length c.loop-avp.invariant.0,
      length-append c.loop-avp.out.items (avps_octets (filter (has_code proxy_info) rest)),
      length-append c.args.out.now.items (avps_octets (filter (has_code proxy_info) asked)),
      filter_len (has_code proxy_info) asked,
      c.requires,
    )
