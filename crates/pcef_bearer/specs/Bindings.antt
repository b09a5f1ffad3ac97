-- Which rules are bound to which bearers, and what a bearer guarantees (TS 23.203, clauses 6.1.1.4 and 6.2.2.2). How
-- rules are bound and released, and why one isn't, `BindingSteps` says.
use Rattle.std.specs.Prelude.{ℕ, ◌≡◌, ◌==◌, Bool, false, ◌||◌, List, Option, Some, None, filter, find, if◌then◌else◌}
use Rattle.std.specs.List.{list_any}
use Rattle.std.specs.Option.{option_map}
use Rattle.pcef_rule.specs.declared.qci.Kind.{Kind}
use Rattle.pcef_rule.specs.declared.quantity.BearerId.{BearerId}
use Rattle.pcef_rule.specs.declared.quantity.Qos.{Qos}
use Rattle.pcef_rule.specs.declared.quantity.Rates.{Rates}
use Rattle.pcef_rule.specs.declared.quantity.Sums.{Sums}
use Rattle.pcef_model.specs.Setting.{same_name, same_qos}
use Rattle.pcef_model.specs.Bearers.{default_id, sum_down, sum_up}
use Rattle.pcef_model.specs.Named.{has_name}
use Rattle.pcef_bearer.specs.declared.bearers.Bound.{Bound}

-- what is fixed: the pair of the default bearer, what the guaranteed rates may sum up to, and the kind
-- that is declared for each QCI; and the rules that are bound, in the order in which they were bound
pub record Binding : Type 0 where
  pub default_qos : Qos
  pub capacity : Sums
  pub qcis : List (Option Kind)
  pub bound : List Bound

-- a rule that is bound to the bearer with this id
abbrev pub bound_at : List ℕ → Qos → Option Rates → ℕ → Bound
bound_at name q rates id = record { name = name; qos = q; rates = rates; bearer = record { 0 = id } }

-- ---- the bearer of a rule
abbrev pub is_bound_as : List ℕ → Bound → Bool
is_bound_as name b = has_name (λ c. c.name) name b

abbrev pub bearer_of_rule : List ℕ → List Bound → Option BearerId
bearer_of_rule name bound = option_map (λ b. b.bearer) (find (is_bound_as name) bound)

-- two rules are on one bearer exactly where they have the same pair
abbrev pub Agree : Bound → Bound → Type 0
Agree a b = same_qos a.qos b.qos ≡ (a.bearer.0 == b.bearer.0)

abbrev pub DifferInName : Bound → Bound → Type 0
DifferInName a b = same_name a.name b.name ≡ false

-- ---- what a bearer guarantees
abbrev pub bound_up : List Bound → ℕ
bound_up bound = sum_up (λ b. b.rates) bound

abbrev pub bound_down : List Bound → ℕ
bound_down bound = sum_down (λ b. b.rates) bound

-- the rules on the bearer with this id
abbrev pub rules_on : ℕ → List Bound → List Bound
rules_on id bound = filter (λ b. b.bearer.0 == id) bound

-- the default bearer is always there, and any other where a rule is on it
abbrev pub is_present : ℕ → List Bound → Bool
is_present id bound = (id == default_id) || list_any (λ b. b.bearer.0 == id) bound

-- the sums over the rules on the bearer with this id, if there is one
abbrev pub guaranteed : ℕ → List Bound → Option Sums
guaranteed id bound =
    if is_present id bound then Some (record { up = bound_up (rules_on id bound); down = bound_down (rules_on id bound) }) else None
