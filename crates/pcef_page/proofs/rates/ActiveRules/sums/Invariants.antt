use Rattle.std.proofs.Common.{◌≡◌, ◌-◌, ◌^◌, min, take}
use Rattle.std.specs.List.{sum_by}
use Rattle.pcef_page.proofs.RuleLists.{downs, ups}
use Rattle.pcef_page.proofs.rates.ActiveRules.sums.Given as goal

abbrev pub invariant-loop-rule : goal.invariant-loop-rule
invariant-loop-rule l = record {
  up : l.up ≡ min (sum_by (ups l.bearer) (take l.rule-index l.rule-items)) (2 ^ 64 - 1);
  down : l.down ≡ min (sum_by (downs l.bearer) (take l.rule-index l.rule-items)) (2 ^ 64 - 1);
}
