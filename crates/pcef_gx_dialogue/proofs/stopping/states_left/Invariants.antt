use Rattle.std.proofs.Common.{◌≡◌, ◌++◌, drop, max}
use Rattle.pcef_gx_dialogue.specs.private.Left.{states_left}
use Rattle.pcef_gx_dialogue.proofs.stopping.states_left.Given as goal

-- the keys so far, and those of the rest, are those of all
abbrev pub invariant-loop-state : goal.invariant-loop-state
invariant-loop-state l =
    l.keys.items ++ states_left l.journal.entries (max l.told l.journal.forgotten) l.orders (drop l.state-index l.states)
    ≡ states_left l.journal.entries (max l.told l.journal.forgotten) l.orders l.states
