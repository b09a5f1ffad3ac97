use Rattle.std.proofs.Common.{ℕ, List, take}
use Rattle.pcef_page.specs.Sums.{IsSum, sum_in, usage_octets}
use Rattle.pcef_page.proofs.sums.octets_by_key.Given as goal

abbrev pub invariant-loop-report : goal.invariant-loop-report
invariant-loop-report l = (key : List ℕ) → IsSum (usage_octets key (take l.report-index l.usage)) (sum_in l.sums key)
