use Rattle.std.proofs.Common.{◌≡◌, ◌<◌, ◌^◌, ◌-◌}
use Rattle.pcef_packet.specs.AddressTexts.{groups_in, groups_within}
use Rattle.pcef_packet.proofs.colon_hex.groups.Given as goal

abbrev pub invariant-loop-count : goal.invariant-loop-count
invariant-loop-count l = record {
  value : groups_within (8 - l.count) l.number l.count l.left ≡ groups_in l.text;
  bound : l.number < 65536 ^ l.count;
}
