use Rattle.std.proofs.Common.{arith}
use Rattle.pcef_usage.proofs.Places.{place_below}
use Rattle.pcef_usage.proofs.Slots.{slot_is_place}
use Rattle.pcef_usage.proofs.usage.Usage.slot.Goals as goal

pub returns-in-None-clause-slot : goal.returns-in-None-clause-slot
returns-in-None-clause-slot c =
    slot_is_place c.next_slot.result c.args.key.now c.args.level c.args.self.now c.next_slot.new.self c.in-None.ensures c.next_slot.ensures.slot c.next_slot.ensures.states

pub same_slot-requires : goal.same_slot-requires
same_slot-requires c = let h = place_below c.args.key.now c.args.self.now c.in-Some.ensures.0 in omega (arith, c.in-Some.ensures.1, h)
