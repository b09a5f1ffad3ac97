use Rattle.std.proofs.Common.{◌≡◌, take, length}
use Rattle.pcef_rule.proofs.equal.are_equal_filters.Given as goal

abbrev pub invariant-loop-place : goal.invariant-loop-place
invariant-loop-place l = record { done : take l.place l.a ≡ take l.place l.b; same_len : length l.a ≡ length l.b }
