-- The active rules of a session by name.
use Rattle.std.specs.Prelude.{ℕ, Bool, List}
use Rattle.std.specs.List.{list_any}
use Rattle.pcef_bearer.specs.Bindings.{Binding, is_bound_as}
use Rattle.pcef_model.specs.Named.{has_name, put_by, without_name}
use Rattle.pcef_table.specs.declared.entry.Source.{Source}

-- a name, and the source of its rule
abbrev pub NamedSource : Type 0
NamedSource = List ℕ × Source

-- the rules in the order in which they became active, and how many more fit
pub record RulesByName : Type 0 where
  pub rules : List NamedSource
  pub room : ℕ

-- a rule is kept by this name
abbrev pub is_kept_as : List ℕ → NamedSource → Bool
is_kept_as name e = has_name (λ e. e.0) name e

-- the rules with this one: in the place of the one of its name, or behind all others
abbrev pub put_kept : NamedSource → List NamedSource → List NamedSource
put_kept new rules = put_by (λ e. e.0) new rules

-- the rules without the one of this name
abbrev pub without_kept : List ℕ → List NamedSource → List NamedSource
without_kept name rules = without_name (λ e. e.0) name rules

-- a rule of this name is bound to a bearer
abbrev pub is_still_bound : Binding → NamedSource → Bool
is_still_bound b e = list_any (is_bound_as e.0) b.bound
