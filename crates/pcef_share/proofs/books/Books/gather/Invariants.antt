use Rattle.std.specs.Prelude.{◌≡◌, ◌+◌, ◌≤◌, count_by, is_some}
use Rattle.pcef_share.specs.Amounts.{zeros, sums}
use Rattle.pcef_share.proofs.books.Books.gather.Given as goal

abbrev pub invariant-loop-share : goal.invariant-loop-share
invariant-loop-share g l =
    (l.tallies.totals ≡ l.initial.tallies.totals)
    × (l.tallies.parts ≡ l.initial.tallies.parts + count_by is_some l.yielded)
    × (l.tallies.parts ≤ 17)
    × (l.tallies.amounts ≡ sums zeros l.yielded)
