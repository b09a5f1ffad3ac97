use Rattle.std.proofs.Common.{◌≡◌, ◌++◌, ◌≤◌, map, take, drop, length}
use Rattle.pcef_usage.specs.Keys.{ungranted_if_reached, reached_places}
use Rattle.pcef_usage.proofs.usage.Usage.settle.Given as goal

abbrev pub invariant-loop-state : goal.invariant-loop-state
invariant-loop-state l = record {
  states : l.state-items ≡ map ungranted_if_reached (take l.state-index l.initial.state-items) ++ drop l.state-index l.initial.state-items;
  slots : map (λ s. s.0) l.reached.items ≡ reached_places 0 (take l.state-index l.initial.state-items);
  place : l.place ≡ l.state-index;
  few : length l.reached.items ≤ l.state-index;
}
