use Rattle.std.proofs.Common.{◌≡◌, ◌≤◌, ◌*◌, take}
use Rattle.pcef_lock.specs.Gathering.{rows_abandoned}
use Rattle.pcef_lock.proofs.gathering.abandoned_rows.Given as goal

abbrev pub invariant-loop-f : goal.invariant-loop-f
invariant-loop-f g l = (l.abandoned ≡ rows_abandoned (take l.f-index l.finished)) × (l.abandoned ≤ 255 * l.f-index)
