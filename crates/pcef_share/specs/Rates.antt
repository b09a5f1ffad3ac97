-- The guaranteed rates that a pool has granted to its sessions, in bit/s.
use Rattle.std.specs.Prelude.{ℕ, ◌+◌, ◌-◌, List, [], ◌∷◌}
use Rattle.pcef_rule.specs.declared.quantity.Sums.{Sums}

-- the rates that were granted, and how many shares of them were issued
pub record RateAccount : Type 0 where
  pub granted : Sums
  pub issued : ℕ

abbrev pub no_rates : Sums
no_rates = record { up = 0; down = 0 }

-- rates together, direction by direction
abbrev pub with_rates : Sums → Sums → Sums
with_rates a b = record { up = a.up + b.up; down = a.down + b.down }

-- these rates with those of all of these shares
abbrev pub sum_of_rates : Sums → List Sums → Sums
sum_of_rates rates [] = rates
sum_of_rates rates (s ∷ shares) = sum_of_rates (with_rates rates s) shares

-- what is granted to the other shares
abbrev pub to_others : Sums → Sums → Sums
to_others granted held = record { up = granted.up - held.up; down = granted.down - held.down }

-- what is granted once a share that held some rates has others
abbrev pub granted_with : Sums → Sums → Sums → Sums
granted_with granted held rates = with_rates (to_others granted held) rates
