-- What is granted to sessions.
use Rattle.std.proofs.Common.{◌≡◌, ◌∙◌, ◌≢◌, ◌≤◌, ◌<◌, ◌+◌, ◌-◌, ℕ, zero, suc, List, [], ◌∷◌, ◌++◌, length, refl, sym, ap, arith, None, Some, Ok, Err}
use Rattle.std.specs.Prelude.{OnErr, OnOk, Result, slice_get, slice_index_or, slice_set}
use Rattle.pcef_rule.specs.declared.quantity.Sums.{Sums}
use Rattle.pcef_model.specs.Refusals.{first_of, total_now}
use Rattle.pcef_model.specs.Setting.{Setting}
use Rattle.pcef_model.specs.declared.answer.Accepted.{Accepted}
use Rattle.pcef_model.specs.declared.answer.Refusal.{Refusal}
use Rattle.pcef_model.specs.declared.command.Command.{Command}
use Rattle.pcef_session.specs.Answers.{AnswersCommandWithin}
use Rattle.pcef_share.specs.Pools.{IsPart, PoolModel, pool_faults, pool_with, room_beside}
use Rattle.pcef_share.specs.declared.pool_state.PoolFull.{PoolFull}
use Rattle.pcef_session.specs.SessionModel.{SessionModel}
use Rattle.pcef_share.specs.Rates.{granted_with, no_rates}
use Rattle.pcef_run.specs.Granting.{AnswersAt, PooledModel, granted_to, rates_of, settings_of}

-- one session more, at the end
push_up : (ss : List SessionModel) (s : SessionModel) → (granted_to (ss ++ s ∷ [])).up ≡ (granted_to ss).up + (rates_of s).up
unfolding granted_to
push_up [] s = omega arith
push_up (t ∷ ss) s = let rest = push_up ss s in omega (arith, rest)

push_down : (ss : List SessionModel) (s : SessionModel) → (granted_to (ss ++ s ∷ [])).down ≡ (granted_to ss).down + (rates_of s).down
unfolding granted_to
push_down [] s = omega arith
push_down (t ∷ ss) s = let rest = push_down ss s in omega (arith, rest)

sums_same : (a b : Sums) → a.up ≡ b.up → a.down ≡ b.down → a ≡ b
sums_same a b up down = rw (up, down) refl

-- one without rates
pub granted_push : (ss : List SessionModel) (s : SessionModel) (granted : Sums) → granted ≡ granted_to ss → rates_of s ≡ no_rates → granted ≡ granted_to (ss ++ s ∷ [])
granted_push ss s granted is none =
    let up = push_up ss s in
    let down = push_down ss s in
    let no_up : (rates_of s).up ≡ 0 = ap (λ (r : Sums). r.up) none in
    let no_down : (rates_of s).down ≡ 0 = ap (λ (r : Sums). r.down) none in
    sums_same granted (granted_to (ss ++ s ∷ []))
    (omega (arith, up, no_up, ap (λ (r : Sums). r.up) is)) (omega (arith, down, no_down, ap (λ (r : Sums). r.down) is))

-- the session of a number has others
pub set_up : (ss : List SessionModel) (n : ℕ) (s t : SessionModel) → slice_get ss n ≡ Some s → (granted_to (slice_set ss n t)).up + (rates_of s).up ≡ (granted_to ss).up + (rates_of t).up
unfolding granted_to
set_up [] n s t at = absurd cc
set_up (x ∷ ss) zero s t at = let same : x ≡ s = cc in rw same (omega arith)
set_up (x ∷ ss) (suc n) s t at = let rest = set_up ss n s t at in omega (arith, rest)

pub set_down : (ss : List SessionModel) (n : ℕ) (s t : SessionModel) → slice_get ss n ≡ Some s → (granted_to (slice_set ss n t)).down + (rates_of s).down ≡ (granted_to ss).down + (rates_of t).down
unfolding granted_to
set_down [] n s t at = absurd cc
set_down (x ∷ ss) zero s t at = let same : x ≡ s = cc in rw same (omega arith)
set_down (x ∷ ss) (suc n) s t at = let rest = set_down ss n s t at in omega (arith, rest)

-- and so has the pool
pub granted_set : (ss : List SessionModel) (n : ℕ) (s t : SessionModel) (old new : Sums) → slice_get ss n ≡ Some s → old ≡ granted_to ss → (rates_of s).up ≤ old.up → (rates_of s).down ≤ old.down →
    new ≡ granted_with old (rates_of s) (rates_of t) → new ≡ granted_to (slice_set ss n t)
granted_set ss n s t old new at is up down moved =
    let more_up = set_up ss n s t at in
    let more_down = set_down ss n s t at in
    sums_same new (granted_to (slice_set ss n t))
    (omega (arith, more_up, up, ap (λ (r : Sums). r.up) is, ap (λ (r : Sums). r.up) moved))
    (omega (arith, more_down, down, ap (λ (r : Sums). r.down) is, ap (λ (r : Sums). r.down) moved))

-- where the rates stay, so does what is granted
pub granted_stays : (ss : List SessionModel) (n : ℕ) (s t : SessionModel) (old new : Sums) → slice_get ss n ≡ Some s → old ≡ granted_to ss → rates_of t ≡ rates_of s → new ≡ old → new ≡ granted_to (slice_set ss n t)
granted_stays ss n s t old new at is same kept =
    let more_up = set_up ss n s t at in
    let more_down = set_down ss n s t at in
    sums_same new (granted_to (slice_set ss n t))
    (omega (arith, more_up, ap (λ (r : Sums). r.up) is, ap (λ (r : Sums). r.up) kept, ap (λ (r : Sums). r.up) same))
    (omega (arith, more_down, ap (λ (r : Sums). r.down) is, ap (λ (r : Sums). r.down) kept, ap (λ (r : Sums). r.down) same))

-- ---- a session's command
pub room_is : (v w : PoolModel) (h k : Sums) (s : SessionModel) (room : Sums) → room ≡ room_beside w k → w ≡ v → k ≡ h → h ≡ rates_of s → room ≡ room_beside v (rates_of s)
room_is v w h k s room is same k_is h_is = is ∙ ap (λ (x : PoolModel). room_beside x k) same ∙ ap (room_beside v) (k_is ∙ h_is)

pub rates_stay : (s t : SessionModel) → t.setting ≡ s.setting → t.journal ≡ s.journal → rates_of t ≡ rates_of s
rates_stay s t setting journal = ap (λ (q : Setting). total_now q t.journal) setting ∙ ap (total_now s.setting) journal

pub never_full : (v w : PoolModel) (h k held rates : Sums) (e : PoolFull) → w ≡ v → k ≡ h → h ≡ held → first_of (pool_faults v held rates) ≡ None → Some e ≡ first_of (pool_faults w k rates) → ⊥
never_full v w h k held rates e same k_is h_is none some =
    let said : Some e ≡ None = some ∙ ap (λ (x : PoolModel). first_of (pool_faults x k rates)) same ∙ ap (λ r. first_of (pool_faults v r rates)) (k_is ∙ h_is) ∙ none in cc

-- ---- the others
pub set_here : {X : Type 0} (xs : List X) (n : ℕ) (x y : X) → slice_get xs n ≡ Some x → slice_get (slice_set xs n y) n ≡ Some y
set_here [] n x y at = absurd cc
set_here (z ∷ xs) zero x y at = refl
set_here (z ∷ xs) (suc n) x y at = set_here xs n x y at

pub set_there : {X : Type 0} (xs : List X) (n m : ℕ) (y : X) → m ≢ n → slice_get (slice_set xs n y) m ≡ slice_get xs m
set_there [] n m y other = refl
set_there (z ∷ xs) zero zero y other = absurd (other refl)
set_there (z ∷ xs) zero (suc m) y other = refl
set_there (z ∷ xs) (suc n) zero y other = refl
set_there (z ∷ xs) (suc n) (suc m) y other = set_there xs n m y (λ same. other (ap suc same))

-- what is fixed for each stays, where what is fixed for this one does
pub settings_set : (ss : List SessionModel) (n : ℕ) (s t : SessionModel) → slice_get ss n ≡ Some s → t.setting ≡ s.setting → settings_of (slice_set ss n t) ≡ settings_of ss
settings_set [] n s t at same = absurd cc
settings_set (x ∷ ss) zero s t at same = let here : x ≡ s = cc in ap (λ (q : Setting). q ∷ settings_of ss) (same ∙ ap (λ (y : SessionModel). y.setting) (sym here))
settings_set (x ∷ ss) (suc n) s t at same = ap (λ (qs : List Setting). x.setting ∷ qs) (settings_set ss n s t at same)

-- ---- a command of one of them
pub command_granted : (r : Result Accepted Refusal) (ss : List SessionModel) (n : ℕ) (s t : SessionModel) (v w : PoolModel) → slice_get ss n ≡ Some s → v.books.granted ≡ granted_to ss → IsPart (rates_of s) v →
    OnOk r (w ≡ pool_with v (rates_of s) (rates_of t)) → OnErr r (w ≡ v) → OnErr r (rates_of t ≡ rates_of s) → w.books.granted ≡ granted_to (slice_set ss n t)
command_granted (Ok a) ss n s t v w at is part done refused kept =
    granted_set ss n s t v.books.granted w.books.granted at is part.up part.down (ap (λ (x : PoolModel). x.books.granted) done)
command_granted (Err e) ss n s t v w at is part done refused kept =
    granted_stays ss n s t v.books.granted w.books.granted at is kept (ap (λ (x : PoolModel). x.books.granted) refused)

pub answers_at : (n : ℕ) (before after : PooledModel) (command : Command) (result : Result Accepted Refusal) (s t : SessionModel) → slice_get before.sessions n ≡ Some s → slice_get after.sessions n ≡ Some t →
    AnswersCommandWithin s command (Some (room_beside before.pool (rates_of s))) result t → AnswersAt n before command result after
answers_at n before after command result s t at at_after is = rw (at, at_after) is

-- the session of a number
pub stands : {X : Type 0} (xs : List X) (n : ℕ) (x : X) → n < length xs → x ≡ slice_index_or xs n x → slice_get xs n ≡ Some x
stands [] n x within is = absurd (omega (arith, within))
stands (y ∷ xs) zero x within is = ap (λ z. Some z) (sym is)
stands (y ∷ xs) (suc n) x within is = stands xs n x (omega (arith, within)) is
