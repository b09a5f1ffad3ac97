use Rattle.std.proofs.Common.{ℕ, List, take}
use Rattle.pcef_page.specs.Sums.{IsSum, counted_for_rule, sum_in}
use Rattle.pcef_page.proofs.sums.sums_by_rule.Given as goal

abbrev pub invariant-loop-packet : goal.invariant-loop-packet
invariant-loop-packet l = (rule : List ℕ) → IsSum (counted_for_rule l.count rule (take l.packet-index l.judged)) (sum_in l.sums rule)
