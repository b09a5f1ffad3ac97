use Rattle.std.proofs.Common.{◌≡◌, ◌+◌, ◌≤◌, take}
use Rattle.pcef_explain.specs.Places.{column_behind, line_behind}
use Rattle.pcef_explain.proofs.text.place_behind.Given as goal

-- the place behind the octets so far
abbrev pub invariant-loop-octet : goal.invariant-loop-octet
invariant-loop-octet l = record {
  line : l.line ≡ line_behind (take l.octet-index l.octets);
  column : l.column ≡ column_behind (take l.octet-index l.octets);
  below : l.line ≤ l.octet-index + 1;
  within : l.column ≤ l.octet-index + 1;
}
