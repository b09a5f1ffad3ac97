-- When sessions open on a pool (own choice).
use Rattle.std.specs.Prelude.{ℕ, ◌≡◌, ◌||◌, ◌+◌, Bool, List, [], ◌∷◌, ◌++◌, Option, Some, None, length, map, nat_le, nat_lt}
use Rattle.pcef_rule.specs.declared.quantity.Sums.{Sums}
use Rattle.pcef_catalog.specs.declared.listing.Offer.{Offer}
use Rattle.pcef_model.specs.Outcomes.{IsFirstFault}
use Rattle.pcef_model.specs.ProfileModel.{ProfileModel, setting_of}
use Rattle.pcef_model.specs.Refusals.{Conditions, first_of, open_faults}
use Rattle.pcef_share.specs.declared.pool_state.PoolFault.TheVariants as of_pool
use Rattle.pcef_run.specs.declared.pooled_fault.PooledFault.{PooledFault}
use Rattle.pcef_run.specs.declared.pooled_fault.PooledFault.TheVariants as fault
use Rattle.pcef_session.specs.Answers.{IsOpened}
use Rattle.pcef_session.specs.SessionModel.{SessionModel}

-- what sessions are asked for: the profile of each, and the rules that it offers
abbrev pub Asked : Type 0
Asked = ProfileModel × List Offer

-- why the session of a number can't be opened
abbrev pub session_faults : ℕ → Asked → Conditions PooledFault
session_faults n a = map (λ c. (c.0, fault.Session n c.1)) (open_faults (setting_of a.0 a.1))

-- why sessions that are numbered from this number on can't be opened, in their order
abbrev pub list_faults : ℕ → List Asked → Conditions PooledFault
list_faults n [] = []
list_faults n (a ∷ asked) = session_faults n a ++ list_faults (n + 1) asked

abbrev pub is_over_limit : Sums → Bool
is_over_limit capacity = nat_lt 1099511627775 capacity.up || nat_lt 1099511627775 capacity.down

-- why sessions can't be opened on a pool of a capacity
abbrev pub pooled_faults : Sums → List Asked → Conditions PooledFault
pooled_faults capacity asked =
    (nat_le (length asked) 0 || nat_lt 64 (length asked), fault.Sessions) ∷
    (list_faults 0 asked ++ (is_over_limit capacity, fault.Pool of_pool.OutOfRange) ∷ [])

-- they open where there is no fault
abbrev pub OpensOn : Sums → List Asked → Option PooledFault → Type 0
OpensOn capacity asked None = first_of (pooled_faults capacity asked) ≡ None
OpensOn capacity asked (Some f) = IsFirstFault (first_of (pooled_faults capacity asked)) fault.NoMemory f

-- a session for each that is asked for, in their order, with an empty journal
abbrev pub AreOpened : List Asked → List SessionModel → Type 0
AreOpened [] [] = Unit {0}
AreOpened [] (s ∷ sessions) = ⊥
AreOpened (a ∷ asked) [] = ⊥
AreOpened (a ∷ asked) (s ∷ sessions) = IsOpened (setting_of a.0 a.1) s × AreOpened asked sessions
