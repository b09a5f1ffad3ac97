use Rattle.std.proofs.Common.{◌≡◌, length}
use Rattle.pcef_trigger.specs.Kinds.{repeats}
use Rattle.pcef_trigger.proofs.kind.repeats.Given as goal

abbrev pub invariant-loop-first : goal.invariant-loop-first
invariant-loop-first g l = repeats l.rest ≡ repeats l.reporters

abbrev pub decreases-loop-first : goal.decreases-loop-first
decreases-loop-first g l = length l.rest
