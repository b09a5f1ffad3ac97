-- Bearers and guaranteed rates (TS 23.203, clauses 6.1.1.4 and 6.2.2.2). A rule may be written in any form X: `pair`
-- gives its QCI and ARP, `rates` its guaranteed rates, and `id` the id of its bearer.
use Rattle.std.specs.Prelude.{ℕ, ◌+◌, ◌==◌, Bool, false, true, not, ◌||◌, List, [], ◌∷◌, Option, Some, None, find}
use Rattle.std.specs.List.{list_any}
use Rattle.pcef_rule.specs.declared.qci.Kind.{Kind}
use Rattle.pcef_rule.specs.declared.qci.Kind.TheVariants.{Gbr, NonGbr}
use Rattle.pcef_rule.specs.declared.quantity.Qos.{Qos}
use Rattle.pcef_rule.specs.declared.quantity.Rates.{Rates}
use Rattle.pcef_model.specs.Setting.{same_qos}

-- ---- bearers
-- the id of the default bearer, and those of the others (own choice, of the ids 5 to 15 that TS 24.007,
-- clause 11.2.3.1.5, has)
abbrev pub default_id : ℕ
default_id = 5

abbrev pub other_ids : List ℕ
other_ids = 6 ∷ 7 ∷ 8 ∷ 9 ∷ 10 ∷ 11 ∷ 12 ∷ 13 ∷ 14 ∷ 15 ∷ []

-- the default pair has a bearer, and each pair of a rule
abbrev pub has_pair : {X : Type 0} → (X → Qos) → Qos → List X → Qos → Bool
has_pair pair default rules q = same_qos q default || list_any (λ r. same_qos q (pair r)) rules

-- the least id that no rule is on, if there is one (own choice)
abbrev pub least_free : {X : Type 0} → (X → ℕ) → List X → Option ℕ
least_free id rules = find (λ n. not (list_any (λ r. n == id r) rules)) other_ids

-- ---- kinds
abbrev pub is_gbr : Option Kind → Bool
is_gbr (Some Gbr) = true
is_gbr _ = false

abbrev pub is_non_gbr : Option Kind → Bool
is_non_gbr (Some NonGbr) = true
is_non_gbr _ = false

-- ---- rates: exact sums, in which a rule without rates adds 0
abbrev pub rate_up : Option Rates → ℕ
rate_up None = 0
rate_up (Some rates) = rates.up

abbrev pub rate_down : Option Rates → ℕ
rate_down None = 0
rate_down (Some rates) = rates.down

unfoldable pub sum_up : {X : Type 0} → (X → Option Rates) → List X → ℕ
sum_up rates [] = 0
sum_up rates (r ∷ rules) = rate_up (rates r) + sum_up rates rules

unfoldable pub sum_down : {X : Type 0} → (X → Option Rates) → List X → ℕ
sum_down rates [] = 0
sum_down rates (r ∷ rules) = rate_down (rates r) + sum_down rates rules
