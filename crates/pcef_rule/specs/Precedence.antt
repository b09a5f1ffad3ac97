-- Which of two rules goes first (TS 29.212, clause 5.3.11, Precedence; TS 23.203, clause 6.3.1).
use Rattle.std.specs.Prelude.{ℕ, ◌≡◌, ◌≢◌, ◌⊎◌, Bool, true, false, List}
use Rattle.std.specs.Ordering.{nat_cmp, ordering_then, is_lt}
use Rattle.std.specs.Cmp.Lexicographic.{slice_cmp}
use Rattle.std.specs.declared.cmp.Ordering.{Ordering}
use Rattle.pcef_rule.specs.declared.rule.Origin.{Origin}
use Rattle.pcef_rule.specs.declared.rule.Origin.TheVariants.{Dynamic, Predefined}
use Rattle.pcef_rule.specs.declared.rule.Properties.{Properties}

-- what decides which of two rules goes first
pub record Rank : Type 0 where
  pub precedence : ℕ
  pub origin : Origin
  pub name : List ℕ

abbrev pub rank_by : Origin → Properties → Rank
rank_by origin p = record { precedence = p.precedence; origin = origin; name = p.name }

-- a dynamic rule goes before a predefined one (TS 23.203, clause 6.3.1)
abbrev pub origin_place : Origin → ℕ
origin_place Dynamic = 0
origin_place Predefined = 1

-- the lowest precedence value goes first; then the origin decides, then the bytes of the names (own choice)
abbrev pub rank_cmp : Rank → Rank → Ordering
rank_cmp a b =
    ordering_then (nat_cmp a.precedence b.precedence)
    (ordering_then (nat_cmp (origin_place a.origin) (origin_place b.origin)) (slice_cmp nat_cmp a.name b.name))

abbrev pub goes_before : Rank → Rank → Bool
goes_before a b = is_lt (rank_cmp a b)

-- ---- a law
-- one goes before the other, and not the other way round
abbrev pub OneGoesFirst : Rank → Rank → Type 0
OneGoesFirst a b =
    ((goes_before a b ≡ true) × (goes_before b a ≡ false)) ⊎ ((goes_before a b ≡ false) × (goes_before b a ≡ true))

-- of two rules with different names exactly one goes before the other
abbrev pub RulesAreOrdered : Type 0
RulesAreOrdered = (a b : Rank) → a.name ≢ b.name → OneGoesFirst a b
