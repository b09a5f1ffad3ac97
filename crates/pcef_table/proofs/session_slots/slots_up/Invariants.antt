use Rattle.std.proofs.Common.{◌≡◌, ◌≤◌, take, length}
use Rattle.pcef_table.specs.SessionSlots.{slots_up}
use Rattle.pcef_table.proofs.session_slots.slots_up.Given as goal

abbrev pub invariant-loop-up : goal.invariant-loop-up
invariant-loop-up l = record {
  slots : l.slots.items ≡ slots_up (take l.up-index l.flags);
  place : l.place ≡ l.up-index;
  few : length l.slots.items ≤ l.up-index;
}
