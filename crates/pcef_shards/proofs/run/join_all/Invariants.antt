use Rattle.std.specs.Prelude.{◌≡◌, ◌++◌, ◌≤◌, length, vec_capacity, vec_len}
use Rattle.pcef_shards.specs.private.Started.{HaveKept}
use Rattle.pcef_shards.proofs.run.join_all.Given as goal

-- those that were joined kept their promises, and there is room for all
abbrev pub invariant-loop-handle : goal.invariant-loop-handle
invariant-loop-handle g l = record {
  kept : HaveKept g.W.Write.contents g.N.Leading.part l.yielded l.all.items;
  left : l.fn.handles.items ≡ l.yielded ++ l.handle-iterator.rest.items;
  many : vec_len l.all ≡ length l.yielded;
  room : vec_len l.fn.handles ≤ vec_capacity l.all;
}
