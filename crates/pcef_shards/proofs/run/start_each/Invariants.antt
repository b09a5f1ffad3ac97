use Rattle.std.specs.Prelude.{◌≡◌, [], All, length}
use Rattle.pcef_shards.specs.private.Started.{AreFor}
use Rattle.pcef_shards.proofs.run.start_each.Given as goal

abbrev pub invariant-loop-writer : goal.invariant-loop-writer
invariant-loop-writer g l =
    (length l.started.lanes.items ≡ length l.yielded) × (length l.started.handles.items ≡ length l.yielded)
    × All (λ lane. lane ≡ []) l.started.lanes.items × AreFor l.fn.tasks.profile.now 0 l.yielded l.started.handles.items
