use Rattle.std.proofs.Common.{◌≡◌, ◌≤◌, ◌-◌, ℕ, Some, length}
use Rattle.pcef_index.specs.private.Runs.{AreLeasts, rule_at}
use Rattle.pcef_index.proofs.runs.leasts_of.Given as goal

abbrev pub invariant-loop-behind : goal.invariant-loop-behind
invariant-loop-behind l = record {
  long : length l.leasts.items ≡ length l.numbers;
  least : (j k : ℕ) → length l.numbers - l.behind ≤ j → rule_at l.lines l.numbers j ≡ Some k → l.least ≤ k;
  leasts : AreLeasts (length l.numbers - l.behind) l.lines l.numbers l.leasts.items;
}
