use Rattle.std.proofs.Common.{◌≡◌, ◌≤◌, ◌+◌, ◌++◌, List, ℕ, length}
use Rattle.pcef_script.specs.Scripts.{all_lines}
use Rattle.pcef_run.specs.Orders.{AreOrdered}
use Rattle.pcef_run.proofs.orders.orders_of.Given as goal

-- the lines so far are orders
abbrev pub invariant-loop-untaken : goal.invariant-loop-untaken
invariant-loop-untaken l = record {
  lines : List (List ℕ);
  whole : all_lines l.fn.input ≡ lines ++ all_lines l.rest;
  ordered : AreOrdered l.fn.sessions lines l.orders.items;
  number : l.number ≡ length lines;
  room : l.number + length l.rest ≤ length l.fn.input;
}

abbrev pub decreases-loop-untaken : goal.decreases-loop-untaken
decreases-loop-untaken l = length l.rest
