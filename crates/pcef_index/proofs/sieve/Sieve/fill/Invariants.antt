use Rattle.std.proofs.Common.{◌≡◌, ◌+◌, ◌/◌, length}
use Rattle.pcef_index.specs.private.Sieves.{IsShaped, LetsTo}
use Rattle.pcef_index.proofs.sieve.Sieve.fill.Given as goal

abbrev pub invariant-loop-place : goal.invariant-loop-place
invariant-loop-place l = record {
  numbers : l.self.numbers.items ≡ l.fn.self.numbers.items;
  runs : l.self.runs ≡ l.fn.self.runs;
  shaped : IsShaped ((length l.self.numbers.items + 63) / 64) l.self;
  lets : LetsTo l.place l.lines l.self;
}
