use Rattle.std.proofs.Common.{◌≡◌, ◌++◌, List, ℕ, length}
use Rattle.pcef_run.specs.PoolRuns.{WritesOrders}
use Rattle.pcef_run.proofs.answering.do_orders.Given as goal

-- the orders so far are answered
abbrev pub invariant-loop-order : goal.invariant-loop-order
invariant-loop-order g l = record {
  written : WritesOrders l.fn.pooled l.yielded l.pooled (g.W.Write.contents l.fn.writer) (g.W.Write.contents l.writer);
  left : l.fn.orders.items ≡ l.yielded ++ l.order-iterator.rest.items;
  many : length l.pooled.sessions ≡ length l.fn.pooled.sessions;
}
