use Rattle.std.proofs.Common.{◌≡◌, ◌<◌, ◌*◌, ◌^◌, ◌-◌}
use Rattle.pcef_packet.proofs.colon_hex.in_front.Given as goal

abbrev pub invariant-loop-i : goal.invariant-loop-i
invariant-loop-i l = record {
  value : l.high * 65536 ^ (8 - l.i) ≡ l.number * 65536 ^ (8 - l.count);
  bound : l.high < 65536 ^ l.i;
}
