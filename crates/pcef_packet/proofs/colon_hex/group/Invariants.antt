use Rattle.std.proofs.Common.{◌≡◌, ◌<◌, ◌^◌, drop}
use Rattle.pcef_packet.specs.ColonHex.{digits_from}
use Rattle.pcef_packet.proofs.colon_hex.group.Given as goal

abbrev pub invariant-loop-octet : goal.invariant-loop-octet
invariant-loop-octet l = record {
  value : digits_from l.number (drop l.octet-index l.digits) ≡ digits_from 0 l.digits;
  bound : l.number < 16 ^ l.octet-index;
}
