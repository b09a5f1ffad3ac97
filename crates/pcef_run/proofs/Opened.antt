-- Sessions that are opened on a pool.
use Rattle.std.proofs.Common.{◌≡◌, ◌∙◌, ◌≤◌, ◌<◌, ◌+◌, ℕ, zero, suc, true, false, List, [], ◌∷◌, ◌++◌, length, refl, sym, ap, arith, drop, get_or, inl, inr, map, nat_lt, None, Some}
use Rattle.std.specs.Prelude.{◌||◌, nat_le}
use Rattle.std.proofs.lemmas.Bool.{cases_Bool, le-ltb, lt-leb, ltb-false}
use Rattle.std.proofs.lemmas.List.{drop_more}
use Rattle.pcef_model.specs.declared.answer.OpenFault.{OpenFault}
use Rattle.pcef_model.specs.Generations.{made_by}
use Rattle.pcef_model.specs.Bearers.{sum_down, sum_up}
use Rattle.pcef_model.specs.ProfileModel.{setting_of}
use Rattle.pcef_model.specs.Refusals.{Conditions, first_of, open_faults}
use Rattle.pcef_model.specs.Setting.{Setting}
use Rattle.pcef_session.specs.Answers.{IsOpened}
use Rattle.pcef_session.specs.SessionModel.{SessionModel}
use Rattle.pcef_session.proofs.Refused.{first_after, first_before}
use Rattle.pcef_share.specs.Rates.{no_rates, with_rates}
use Rattle.pcef_rule.specs.declared.quantity.Sums.{Sums}
use Rattle.pcef_share.specs.Pools.{PoolModel, with_rate_share}
use Rattle.pcef_share.specs.declared.pool_state.PoolFault.{PoolFault}
use Rattle.pcef_share.specs.declared.pool_state.PoolFault.TheVariants as of_pool
use Rattle.pcef_run.specs.Granting.{granted_to, rates_of}
use Rattle.pcef_run.specs.Opening.{AreOpened, Asked, is_over_limit, list_faults, pooled_faults}
use Rattle.pcef_run.specs.declared.pooled_fault.PooledFault.{PooledFault}
use Rattle.pcef_run.specs.declared.pooled_fault.PooledFault.TheVariants as fault

-- ---- the first fault
-- the faults of a session go before those of later ones
session_at_fault : (n : ℕ) (cs : Conditions OpenFault) (rest : Conditions PooledFault) (f : OpenFault) → Some f ≡ first_of cs →
    first_of (map (λ c. (c.0, fault.Session n c.1)) cs ++ rest) ≡ Some (fault.Session n f)
session_at_fault n [] rest f is = absurd cc
session_at_fault n (c ∷ cs) rest f is =
    elim (cases_Bool c.0) [
      | inl holds ↦ rw holds (let here : Some f ≡ Some c.1 = rw holds at is in cc)
      | inr fails ↦ rw fails (session_at_fault n cs rest f (rw fails at is))
    ]

session_without_fault : (n : ℕ) (cs : Conditions OpenFault) (rest : Conditions PooledFault) → None ≡ first_of cs →
    first_of (map (λ c. (c.0, fault.Session n c.1)) cs ++ rest) ≡ first_of rest
session_without_fault n [] rest is = refl
session_without_fault n (c ∷ cs) rest is =
    elim (cases_Bool c.0) [
      | inl holds ↦ absurd (let some : None ≡ Some c.1 = rw holds at is in cc)
      | inr fails ↦ rw fails (session_without_fault n cs rest (rw fails at is))
    ]

drop_here : {X : Type 0} (xs : List X) (i : ℕ) (x : X) → i < length xs → x ≡ get_or xs i x → drop i xs ≡ x ∷ drop (i + 1) xs
drop_here xs i x within is = drop_more xs i x within ∙ ap (λ y. y ∷ drop (i + 1) xs) (sym is)

drop_past : {X : Type 0} (xs : List X) (i : ℕ) → length xs ≤ i → drop i xs ≡ []
drop_past [] zero past = refl
drop_past [] (suc i) past = refl
drop_past (x ∷ xs) zero past = absurd (omega (arith, past))
drop_past (x ∷ xs) (suc i) past = drop_past xs i (omega (arith, past))

-- steps of a loop over what is asked for
pub at_fault : (asked : List Asked) (i n : ℕ) (a : Asked) (f : OpenFault) → i < length asked → a ≡ get_or asked i a → Some f ≡ first_of (open_faults (setting_of a.0 a.1)) →
    first_of (list_faults n (drop i asked)) ≡ Some (fault.Session n f)
at_fault asked i n a f within is fails =
    ap (λ xs. first_of (list_faults n xs)) (drop_here asked i a within is) ∙ session_at_fault n (open_faults (setting_of a.0 a.1)) (list_faults (n + 1) (drop (i + 1) asked)) f fails

pub without_fault : (asked : List Asked) (i n : ℕ) (a : Asked) → i < length asked → a ≡ get_or asked i a → None ≡ first_of (open_faults (setting_of a.0 a.1)) →
    first_of (list_faults n (drop i asked)) ≡ first_of (list_faults (n + 1) (drop (i + 1) asked))
without_fault asked i n a within is none =
    ap (λ xs. first_of (list_faults n xs)) (drop_here asked i a within is) ∙ session_without_fault n (open_faults (setting_of a.0 a.1)) (list_faults (n + 1) (drop (i + 1) asked)) none

pub no_fault_left : (asked : List Asked) (i n : ℕ) → length asked ≤ i → None ≡ first_of (list_faults n (drop i asked))
no_fault_left asked i n past = sym (ap (λ xs. first_of (list_faults n xs)) (drop_past asked i past))

-- ---- the sessions
-- one session more
pub opened_more : (asked : List Asked) (ss : List SessionModel) (a : Asked) (s : SessionModel) → AreOpened asked ss → IsOpened (setting_of a.0 a.1) s → AreOpened (asked ++ a ∷ []) (ss ++ s ∷ [])
opened_more [] [] a s are is = (is, tt)
opened_more [] (t ∷ ss) a s are is = absurd are
opened_more (b ∷ asked) [] a s are is = absurd are
opened_more (b ∷ asked) (t ∷ ss) a s are is = (are.0, opened_more asked ss a s are.1 is)

pub as_many : (asked : List Asked) (ss : List SessionModel) → AreOpened asked ss → length ss ≡ length asked
as_many [] [] are = refl
as_many [] (s ∷ ss) are = absurd are
as_many (a ∷ asked) [] are = absurd are
as_many (a ∷ asked) (s ∷ ss) are = ap suc (as_many asked ss are.1)

-- a session has no rates at first
pub no_rates_at_first : (p : Setting) (s : SessionModel) → IsOpened p s → no_rates ≡ rates_of s
unfolding made_by sum_up sum_down
no_rates_at_first p s is = rw is.1 refl

pub nothing_granted : (asked : List Asked) (ss : List SessionModel) → AreOpened asked ss → no_rates ≡ granted_to ss
unfolding granted_to
nothing_granted [] [] are = refl
nothing_granted [] (s ∷ ss) are = absurd are
nothing_granted (a ∷ asked) [] are = absurd are
nothing_granted (a ∷ asked) (s ∷ ss) are =
    ap (λ r. with_rates r no_rates) (no_rates_at_first (setting_of a.0 a.1) s are.0) ∙ ap (with_rates (rates_of s)) (nothing_granted asked ss are.1)

-- and a share of the pool
issued_more : {X : Type 0} (xs : List X) (x : X) → length xs + 1 ≡ length (xs ++ x ∷ [])
issued_more [] x = refl
issued_more (y ∷ xs) x = let rest = issued_more xs x in omega (arith, rest)

pub pool_more : (start v w : PoolModel) (asked : List Asked) (a : Asked) → w ≡ with_rate_share v → v ≡ record start { books = record { granted = no_rates; issued = length asked } } →
    w ≡ record start { books = record { granted = no_rates; issued = length (asked ++ a ∷ []) } }
pool_more start v w asked a more is = more ∙ ap with_rate_share is ∙ rw (issued_more asked a) refl

-- ---- the answer
-- one to sixty-four are asked for
counted : (asked : List Asked) → 0 < length asked → length asked ≤ 64 → (nat_le (length asked) 0 || nat_lt 64 (length asked)) ≡ false
counted asked some few = rw (lt-leb (length asked) 0 some, le-ltb 64 (length asked) few) refl

pub session_told : (capacity : Sums) (asked : List Asked) (f : PooledFault) → 0 < length asked → length asked ≤ 64 → Some f ≡ first_of (list_faults 0 asked) → first_of (pooled_faults capacity asked) ≡ Some f
session_told capacity asked f some few is =
    rw (counted asked some few) (sym (first_before (list_faults 0 asked) ((is_over_limit capacity, fault.Pool of_pool.OutOfRange) ∷ []) f is))

pool_judged : (capacity : Sums) (asked : List Asked) → 0 < length asked → length asked ≤ 64 → None ≡ first_of (list_faults 0 asked) →
    first_of (pooled_faults capacity asked) ≡ first_of ((is_over_limit capacity, fault.Pool of_pool.OutOfRange) ∷ [])
pool_judged capacity asked some few none =
    rw (counted asked some few) (first_after (list_faults 0 asked) ((is_over_limit capacity, fault.Pool of_pool.OutOfRange) ∷ []) none)

within_limit : (capacity : Sums) → (capacity.up ≤ 1099511627775) × (capacity.down ≤ 1099511627775) → is_over_limit capacity ≡ false
within_limit capacity within = rw (le-ltb 1099511627775 capacity.up within.0, le-ltb 1099511627775 capacity.down within.1) refl

beyond_limit : (capacity : Sums) → ((capacity.up ≤ 1099511627775) × (capacity.down ≤ 1099511627775) → ⊥) → is_over_limit capacity ≡ true
beyond_limit capacity beyond =
    elim (cases_Bool (nat_lt 1099511627775 capacity.up)) [
      | inl up ↦ rw up refl
      | inr up ↦ rw up (elim (cases_Bool (nat_lt 1099511627775 capacity.down)) [
        | inl down ↦ down
        | inr down ↦ absurd (beyond (ltb-false 1099511627775 capacity.up up, ltb-false 1099511627775 capacity.down down))
      ])
    ]

pub opens : (capacity : Sums) (asked : List Asked) → 0 < length asked → length asked ≤ 64 → None ≡ first_of (list_faults 0 asked) → (capacity.up ≤ 1099511627775) × (capacity.down ≤ 1099511627775) →
    first_of (pooled_faults capacity asked) ≡ None
opens capacity asked some few none within = pool_judged capacity asked some few none ∙ rw (within_limit capacity within) refl

pub out_of_range : (capacity : Sums) (asked : List Asked) (f : PoolFault) → 0 < length asked → length asked ≤ 64 → None ≡ first_of (list_faults 0 asked) →
    ((capacity.up ≤ 1099511627775) × (capacity.down ≤ 1099511627775) → ⊥) → f ≡ of_pool.OutOfRange → first_of (pooled_faults capacity asked) ≡ Some (fault.Pool f)
out_of_range capacity asked f some few none beyond is = pool_judged capacity asked some few none ∙ rw (beyond_limit capacity beyond, is) refl
