use Rattle.std.proofs.Common.{◌≡◌}
use Rattle.tests_examples.proofs.behind_a_lock.play_steps.Given as goal

abbrev pub invariant-loop-line : goal.invariant-loop-line
invariant-loop-line g l =
    (goal.iterator-loop-line g).can_next l.line-iterator × (goal.iterator-loop-line g).is_finite l.line-iterator × (l.journal.forgotten ≡ 0)
