use Rattle.std.proofs.Common.{◌≡◌, drop}
use Rattle.pcef_world.specs.Newest.{flags_of}
use Rattle.pcef_world.proofs.newest.flags_of.Given as goal

-- the slots that are left bring the flags to those of all
abbrev pub invariant-loop-slot : goal.invariant-loop-slot
invariant-loop-slot l = flags_of (drop l.slot-index l.slots) l.flags ≡ flags_of l.slots 0
