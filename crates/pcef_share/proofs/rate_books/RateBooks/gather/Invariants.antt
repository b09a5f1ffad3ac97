use Rattle.std.proofs.Common.{◌≡◌, ◌+◌, ◌≤◌, length}
use Rattle.pcef_share.specs.Rates.{no_rates, sum_of_rates}
use Rattle.pcef_share.proofs.rate_books.RateBooks.gather.Given as goal

abbrev pub invariant-loop-share : goal.invariant-loop-share
invariant-loop-share g l = record {
  parts : l.tallies.parts + l.fn.self.issued ≡ 64 + length l.yielded;
  bound : l.tallies.parts ≤ 64;
  granted : l.tallies.granted ≡ l.fn.self.granted;
  amounts : l.tallies.amounts ≡ sum_of_rates no_rates l.yielded;
}
