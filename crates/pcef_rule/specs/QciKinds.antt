-- The kinds of QCIs (TS 23.203, clause 6.1.7.2).
use Rattle.std.specs.Prelude.{ℕ, ◌==◌, nat_lt, nat_le, Bool, false, ◌&&◌, ◌||◌, List, [], ◌∷◌, Option, Some, None, slice_index_or, if◌then◌else◌}
use Rattle.std.specs.List.{list_any}
use Rattle.pcef_rule.specs.declared.qci.Kind.{Kind}
use Rattle.pcef_rule.specs.declared.qci.Kind.TheVariants.{Gbr, NonGbr}

-- a declaration: a QCI and its kind. QCIs 10 to 254 may be declared (own choice)
abbrev pub is_out_of_range : ℕ → Bool
is_out_of_range n = nat_lt n 10 || nat_lt 254 n

abbrev pub declares_out_of_range : List (ℕ × Kind) → Bool
declares_out_of_range declared = list_any (λ d. is_out_of_range d.0) declared

abbrev pub is_declared : ℕ → List (ℕ × Kind) → Bool
is_declared n declared = list_any (λ d. d.0 == n) declared

-- some QCI stands there twice
abbrev pub declares_twice : List (ℕ × Kind) → Bool
declares_twice [] = false
declares_twice (d ∷ ds) = is_declared d.0 ds || declares_twice ds

-- the kind that is declared for a QCI
abbrev pub declared_kind : List (ℕ × Kind) → ℕ → Option Kind
declared_kind [] n = None
declared_kind (d ∷ ds) n = if d.0 == n then Some d.1 else declared_kind ds n

-- the same, from the kinds of all numbers in their order
abbrev pub declared_at : List (Option Kind) → ℕ → Option Kind
declared_at kinds n = slice_index_or kinds n None

-- 1 to 4 are GBR and 5 to 9 non-GBR (TS 23.203, table 6.1.7); others are as declared
abbrev pub kind_of : List (Option Kind) → ℕ → Option Kind
kind_of kinds n =
    if nat_le 1 n && nat_le n 4 then Some Gbr
    else if nat_le 5 n && nat_le n 9 then Some NonGbr
    else declared_at kinds n
