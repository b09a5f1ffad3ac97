use Rattle.std.proofs.Common.{◌≡◌, ◌<◌, ◌++◌, ℕ, slice_index_or, List, slice_index, take}
use Rattle.std.specs.List.{flat_map}
use Rattle.pcef_page.specs.Guarantees.{RuleFigure, bearers, rate_change, down_of, up_of}
use Rattle.pcef_page.proofs.rates.ActiveRules.push_changes.Given as goal

abbrev pub invariant-loop-place : goal.invariant-loop-place
invariant-loop-place l = (rules : List RuleFigure)
    → ((k : ℕ) → k < 11 → slice_index_or l.before k (0, 0) ≡ (up_of rules (slice_index bearers k), down_of rules (slice_index bearers k)))
    → l.rates.items ≡ l.fn.rates.items ++ flat_map (rate_change l.generation rules l.self) (take l.place bearers)
