use Rattle.std.proofs.Common.{◌≡◌, ◌≤◌, ◌++◌, drop, filter, length, map}
use Rattle.pcef_diameter.specs.Avps.{shown}
use Rattle.pcef_diameter.specs.Spellings.{avps_octets}
use Rattle.pcef_gx.specs.Codes.{has_code, proxy_info}
use Rattle.pcef_gx_messages.proofs.proxies.put_proxies.Given as goal

-- what is written, with those of the rest, is what is due, and the rest takes no more octets than all
abbrev pub invariant-loop-avp : goal.invariant-loop-avp
invariant-loop-avp l =
    (l.out.items ++ avps_octets (filter (has_code proxy_info) (map shown (drop l.avp-index l.asked))) ≡ l.fn.out.items ++ avps_octets (filter (has_code proxy_info) (map shown l.asked)))
    × (length (avps_octets (map shown (drop l.avp-index l.asked))) ≤ 65536)
