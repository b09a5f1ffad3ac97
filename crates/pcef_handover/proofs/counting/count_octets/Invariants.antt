use Rattle.std.proofs.Common.{◌≡◌, drop}
use Rattle.pcef_model.specs.Slots.{AreSlotsBelow}
use Rattle.pcef_handover.specs.Counting.{with_slots}
use Rattle.pcef_handover.proofs.Loops.{TakeMore}
use Rattle.pcef_handover.proofs.counting.count_octets.Given as goal

-- what is left can be counted, and leaves what all the slots leave
abbrev pub invariant-loop-slot : goal.invariant-loop-slot
invariant-loop-slot g l = record {
  low : AreSlotsBelow 8 (drop l.slot-index l.slots);
  takes : TakeMore (drop l.slot-index l.slots) l.octets l.books.totals;
  totals : with_slots l.books.totals (drop l.slot-index l.slots) l.octets ≡ with_slots l.initial.books.totals l.slots l.octets;
  issued : l.books.issued ≡ l.initial.books.issued;
  shares : with_slots l.shares (drop l.slot-index l.slots) l.octets ≡ with_slots l.initial.shares l.slots l.octets;
}
