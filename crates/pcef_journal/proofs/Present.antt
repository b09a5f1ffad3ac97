-- The attached workers, as workers are attached and leave.
use Rattle.std.proofs.Common.{◌≡◌, ◌∙◌, ◌≤◌, ◌<◌, ◌+◌, ◌++◌, ◌==◌, ℕ, suc, zero, List, [], ◌∷◌, Bool, true, false, length, refl, sym, ap, arith, inl, inr, not, set, get_or, filter, if◌then◌else◌, append-nil}
use Rattle.std.specs.List.{list_any}
use Rattle.std.proofs.lemmas.Bool.{cases_Bool, eq-eqb, eqb-true, false_from_ne_true}
use Rattle.std.proofs.lemmas.List.{length-append}
use Rattle.std.proofs.lemmas.List.Elements.{filter-append}
use Rattle.std.proofs.lemmas.List.Folds.{list_any-append}
use Rattle.pcef_journal.specs.declared.lanes.LaneEnd.{LaneEnd}
use Rattle.pcef_journal.specs.Lanes.{just_attached, left, lengthened, present}

-- the numbers at a place: one, or none
abbrev pub number_if : Bool → ℕ → List ℕ
number_if attached worker = if attached then worker ∷ [] else []

-- a number that is another
pub other_number : (m n : ℕ) → (m ≡ n → ⊥) → (m == n) ≡ false
other_number m n differ = false_from_ne_true (m == n) (λ same. absurd (differ (eqb-true m n same)))

pub own_number : (n : ℕ) → (n == n) ≡ true
own_number n = eq-eqb n n refl

-- ---- a worker is attached
pub present_come : (first : ℕ) (ends : List LaneEnd) → present first (ends ++ just_attached ∷ []) ≡ (first + length ends) ∷ present first ends
present_come first [] = ap (λ n. n ∷ []) (omega arith)
present_come first (end ∷ ends) =
    ap (λ ns. ns ++ number_if end.attached first) (present_come (suc first) ends)
    ∙ ap (λ n. n ∷ (present (suc first) ends ++ number_if end.attached first)) (omega arith)

-- ---- numbers below the first, and past the last
one_there : (attached : Bool) (first worker : ℕ) → (first ≡ worker → ⊥) → list_any (λ v. v == worker) (number_if attached first) ≡ false
one_there true first worker differ = rw (other_number first worker differ) refl
one_there false first worker differ = refl

pub none_below : (first : ℕ) (ends : List LaneEnd) (worker : ℕ) → worker < first → list_any (λ v. v == worker) (present first ends) ≡ false
none_below first [] worker below = refl
none_below first (end ∷ ends) worker below =
    list_any-append (λ v. v == worker) (present (suc first) ends) (number_if end.attached first)
    ∙ rw (none_below (suc first) ends worker (omega (arith, below)), one_there end.attached first worker (λ same. omega (arith, below, same))) refl

pub none_past : (first : ℕ) (ends : List LaneEnd) (worker : ℕ) → first + length ends ≤ worker → list_any (λ v. v == worker) (present first ends) ≡ false
none_past first [] worker past = refl
none_past first (end ∷ ends) worker past =
    list_any-append (λ v. v == worker) (present (suc first) ends) (number_if end.attached first)
    ∙ rw (none_past (suc first) ends worker (omega (arith, past)), one_there end.attached first worker (λ same. omega (arith, past, same))) refl

-- ---- a worker leaves
-- a filter keeps what is no such number
pub keeps_others : (worker : ℕ) (ns : List ℕ) → list_any (λ v. v == worker) ns ≡ false → filter (λ v. not (v == worker)) ns ≡ ns
keeps_others worker [] none = refl
keeps_others worker (n ∷ ns) none =
    elim (cases_Bool (n == worker)) [
      | inl same ↦ absurd (let some : true ≡ false = rw same at none in cc)
      | inr differs ↦ let rest : list_any (λ v. v == worker) ns ≡ false = rw differs at none in rw differs (ap (λ ms. n ∷ ms) (keeps_others worker ns rest))
    ]

gone : (attached : Bool) (worker : ℕ) → filter (λ v. not (v == worker)) (number_if attached worker) ≡ []
gone true worker = rw (own_number worker) refl
gone false worker = refl

stays : (attached : Bool) (first worker : ℕ) → (first ≡ worker → ⊥) → filter (λ v. not (v == worker)) (number_if attached first) ≡ number_if attached first
stays attached first worker differ = keeps_others worker (number_if attached first) (one_there attached first worker differ)

pub present_leave : (first : ℕ) (ends : List LaneEnd) (place worker : ℕ) → place < length ends → worker ≡ first + place →
    filter (λ v. not (v == worker)) (present first ends) ≡ present first (set ends place (left (get_or ends place just_attached)))
present_leave first [] place worker within is = absurd (omega (arith, within))
present_leave first (end ∷ ends) zero worker within is =
    let here : worker ≡ first = omega (arith, is) in
    filter-append (λ v. not (v == worker)) (present (suc first) ends) (number_if end.attached first)
    ∙ ap (λ ms. ms ++ filter (λ v. not (v == worker)) (number_if end.attached first)) (keeps_others worker (present (suc first) ends) (none_below (suc first) ends worker (omega (arith, here))))
    ∙ ap (λ ms. present (suc first) ends ++ ms) (ap (λ n. filter (λ v. not (v == worker)) (number_if end.attached n)) (sym here) ∙ gone end.attached worker)
present_leave first (end ∷ ends) (suc place) worker within is =
    filter-append (λ v. not (v == worker)) (present (suc first) ends) (number_if end.attached first)
    ∙ ap (λ ms. ms ++ filter (λ v. not (v == worker)) (number_if end.attached first)) (present_leave (suc first) ends place worker (omega (arith, within)) (omega (arith, is)))
    ∙ ap (λ ms. present (suc first) (set ends place (left (get_or ends place just_attached))) ++ ms) (stays end.attached first worker (λ same. omega (arith, is, same)))

-- ---- a lane grows
pub present_lengthen : (first : ℕ) (ends : List LaneEnd) (place rows generation : ℕ) → place < length ends →
    present first (set ends place (lengthened rows generation (get_or ends place just_attached))) ≡ present first ends
present_lengthen first [] place rows generation within = absurd (omega (arith, within))
present_lengthen first (end ∷ ends) zero rows generation within = refl
present_lengthen first (end ∷ ends) (suc place) rows generation within =
    ap (λ ms. ms ++ number_if end.attached first) (present_lengthen (suc first) ends place rows generation (omega (arith, within)))

-- ---- how many are attached
one_more : (attached : Bool) (ns : List ℕ) (worker : ℕ) (end : LaneEnd) (ends : List LaneEnd) → length ns ≡ length ends →
    length (ns ++ number_if attached worker) ≡ length (if attached then end ∷ ends else ends)
one_more true ns worker end ends same = let both = length-append ns (worker ∷ []) in omega (arith, both, same)
one_more false ns worker end ends same = ap length (append-nil ns) ∙ same

pub present_count : (first : ℕ) (ends : List LaneEnd) → length (present first ends) ≡ length (filter (λ (end : LaneEnd). end.attached) ends)
present_count first [] = refl
present_count first (end ∷ ends) =
    one_more end.attached (present (suc first) ends) first end (filter (λ (e : LaneEnd). e.attached) ends) (present_count (suc first) ends)
