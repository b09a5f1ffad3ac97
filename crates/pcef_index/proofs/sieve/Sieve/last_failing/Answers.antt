use Rattle.std.proofs.Common.{◌+◌, ◌*◌, ℕ, arith}
use Rattle.pcef_index.proofs.Running.{behind_fail}
use Rattle.pcef_index.proofs.sieve.Sieve.last_failing.Goals as goal

pub returns-then-are_behind-clause-fail : goal.returns-then-are_behind-clause-fail
returns-then-are_behind-clause-fail c offers ue h t fails least most =
    let lines = c.args.standing.lines.now in
    let numbers = c.args.self.now.numbers.items in
    let place : ℕ = c.args.block * 64 + t in
    behind_fail c.args.standing.places.now offers ue h lines numbers place
    (λ k there. c.are_behind.ensures lines numbers place k c.requires.runs c.if-are_behind.true (omega (arith, least)) there)
