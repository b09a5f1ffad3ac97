-- The counters at a place.
use Rattle.std.proofs.Common.{◌≡◌, ◌≤◌, ◌<◌, ℕ, ◌+◌, Bool, true, false, List, [], ◌∷◌, ◌++◌, length, refl, sym, ap, ◌∙◌, arith, if◌then◌else◌, inl, inr, zero, suc, subst, map, take, drop, set, get_or, append-nil}
use Rattle.std.specs.Prelude.{◌||◌}
use Rattle.std.specs.List.{AllByRecursion, refill}
use Rattle.std.proofs.lemmas.List.{take_all, drop_all, take_more, drop_more, get_or_at, length-map, length-take-le, get_or_default}
use Rattle.std.proofs.lemmas.Bool.{cases_Bool}
use Rattle.std.proofs.lemmas.List.Edits.{map_over_more}
use Rattle.pcef_model.specs.Setting.{same_name}
use Rattle.pcef_usage.specs.declared.usage.KeyState.{KeyState}
use Rattle.pcef_usage.specs.Keys.{has_slot, slot_place, at_place, state_at, AllFit, grant_is_reached, reached_places, ungranted_if_reached}

-- ---- tests
pub or_no : (a b : Bool) → (a || b) ≡ false → (a ≡ false) × (b ≡ false)
or_no true b h = (h, cc)
or_no false b h = (refl, h)

pub or_rest : (a b : Bool) → a ≡ false → (a || b) ≡ true → b ≡ true
or_rest true b e h = cc
or_rest false b e h = h

pub or_more : (a b : Bool) → b ≡ true → (a || b) ≡ true
or_more true b h = refl
or_more false b h = h

refilled : {X : Type 0} (n : ℕ) (xs ws : List X) → n ≡ length xs → length ws ≡ length xs → refill n xs ws ≡ ws
refilled n xs ws m e =
    ap (λ k. refill k xs ws) m ∙
    ap (λ ys. take (length xs) (ws ++ ys)) (drop_all (length ws) xs (omega arith)) ∙ ap (take (length xs)) (append-nil ws) ∙ take_all (length xs) ws (omega arith)

at_place_set : (f : KeyState → KeyState) (xs : List KeyState) (i : ℕ) (d : KeyState) → i < length xs → set xs i (f (get_or xs i d)) ≡ at_place i f xs
at_place_set f [] i d h = absurd (omega arith)
at_place_set f (x ∷ xs) zero d h = refl
at_place_set f (x ∷ xs) (suc i) d h = ap (λ ys. x ∷ ys) (at_place_set f xs i d (omega arith))

pub state_read : (xs : List KeyState) (i : ℕ) (d : KeyState) → i < length xs → get_or xs i d ≡ state_at i xs
state_read [] i d h = absurd (omega arith)
state_read (x ∷ xs) zero d h = refl
state_read (x ∷ xs) (suc i) d h = state_read xs i d (omega arith)

pub all_at_place : (P : KeyState → Type 0) (f : KeyState → KeyState) (xs : List KeyState) (i : ℕ) → AllByRecursion P xs → (P (state_at i xs) → P (f (state_at i xs))) →
    AllByRecursion P (at_place i f xs)
all_at_place P f [] i a h = tt
all_at_place P f (x ∷ xs) zero a h = (h a.0, a.1)
all_at_place P f (x ∷ xs) (suc i) a h = (a.0, all_at_place P f xs i a.1 h)

pub all_state_at : (P : KeyState → Type 0) (xs : List KeyState) (i : ℕ) → i < length xs → AllByRecursion P xs → P (state_at i xs)
all_state_at P [] i h a = absurd (omega arith)
all_state_at P (x ∷ xs) zero h a = a.0
all_state_at P (x ∷ xs) (suc i) h a = all_state_at P xs i (omega arith) a.1

-- what a write at a place leaves
pub written : (f : KeyState → KeyState) (v xs : List KeyState) (i : ℕ) (y d : KeyState) → xs ≡ v → i < length v → y ≡ f (get_or xs i d) → set xs i y ≡ at_place i f v
written f v xs i y d a h g = ap (set xs i) g ∙ ap (λ ys. set ys i (f (get_or ys i d))) a ∙ at_place_set f v i d h

pub read : (v xs ws : List KeyState) (i : ℕ) (d : KeyState) → xs ≡ v → i < length v → ws ≡ xs → get_or ws i d ≡ state_at i v
read v xs ws i d a h e = ap (λ ys. get_or ys i d) (e ∙ a) ∙ state_read v i d h

-- looking for a key
pub found : (k : List ℕ) (xs : List KeyState) (i : ℕ) (d : KeyState) → i < length xs → has_slot k (take i xs) ≡ false → same_name k (get_or xs i d).key ≡ true →
    (has_slot k xs ≡ true) × (i ≡ slot_place k xs)
found k [] i d h n e = absurd (omega arith)
found k (x ∷ xs) zero d h n e = rw e (refl, refl)
found k (x ∷ xs) (suc i) d h n e =
    elim (cases_Bool (same_name k x.key)) [
      | inl f ↦ let g : has_slot k (take (suc i) (x ∷ xs)) ≡ true = rw f refl in cc
      | inr f ↦ let m : has_slot k (take i xs) ≡ false = (or_no (same_name k x.key) (has_slot k (take i xs)) n).1 in
          let r = found k xs i d (omega arith) m e in rw f (r.0, ap suc r.1)
    ]

any_push : (k : List ℕ) (xs : List KeyState) (y : KeyState) → has_slot k xs ≡ false → same_name k y.key ≡ false → has_slot k (xs ++ y ∷ []) ≡ false
any_push k [] y h e = rw e refl
any_push k (x ∷ xs) y h e =
    elim (cases_Bool (same_name k x.key)) [
      | inl f ↦ let g : has_slot k (x ∷ xs) ≡ true = rw f refl in cc
      | inr f ↦ let m : has_slot k xs ≡ false = (or_no (same_name k x.key) (has_slot k xs) h).1 in rw f (any_push k xs y m e)
    ]

pub not_found_more : (k : List ℕ) (xs : List KeyState) (i : ℕ) (d : KeyState) → i < length xs → has_slot k (take i xs) ≡ false → same_name k (get_or xs i d).key ≡ false →
    has_slot k (take (i + 1) xs) ≡ false
not_found_more k xs i d h n e = ap (has_slot k) (take_more xs i d h) ∙ any_push k (take i xs) (get_or xs i d) n e

pub place_below : (k : List ℕ) (xs : List KeyState) → has_slot k xs ≡ true → slot_place k xs < length xs
place_below k [] h = cc
place_below k (x ∷ xs) h =
    elim (cases_Bool (same_name k x.key)) [
      | inl f ↦ rw f (omega arith)
      | inr f ↦ let m : has_slot k xs ≡ true = or_rest (same_name k x.key) (has_slot k xs) f h in let r = place_below k xs m in rw f (omega arith)
    ]

-- a loop that settles each state

pub map_step : {X : Type 0} (f : X → X) (xs ys : List X) (i : ℕ) (y d : X) → i < length xs → length ys ≡ length xs →
    ys ≡ map f (take i xs) ++ drop i xs → y ≡ f (get_or ys i d) → set ys i y ≡ map f (take (i + 1) xs) ++ drop (i + 1) xs
map_step f xs ys i y d h l inv e =
    ap (set ys i) e ∙ map_over_more f xs ys i (get_or ys i d) h inv (get_or_default ys i d (get_or ys i d) (subst (λ n. i < n) (sym l) h))

pub same_at : (f : KeyState → KeyState) (xs ys : List KeyState) (i : ℕ) (d : KeyState) → i < length xs → ys ≡ map f (take i xs) ++ drop i xs → get_or ys i d ≡ get_or xs i d
same_at f xs ys i d h e =
    ap (λ zs. get_or zs i d) (e ∙ ap (λ zs. map f (take i xs) ++ zs) (drop_more xs i d h)) ∙
    get_or_at (map f (take i xs)) (get_or xs i d) (drop (i + 1) xs) d i (length-map (take i xs) f ∙ length-take-le i xs (omega arith))

reached_push : (n : ℕ) (xs : List KeyState) (y : KeyState) → reached_places n (xs ++ y ∷ []) ≡ reached_places n xs ++ (if grant_is_reached y then (n + length xs) ∷ [] else [])
reached_push n [] y =
    elim (cases_Bool (grant_is_reached y)) [
      | inl e ↦ rw e (ap (λ m. m ∷ []) (omega arith))
      | inr e ↦ rw e refl
    ]
reached_push n (x ∷ xs) y =
    let r = reached_push (suc n) xs y in
    let a : suc n + length xs ≡ n + suc (length xs) = omega arith in
    let b : reached_places (suc n) (xs ++ y ∷ []) ≡ reached_places (suc n) xs ++ (if grant_is_reached y then (n + suc (length xs)) ∷ [] else []) =
    r ∙ ap (λ m. reached_places (suc n) xs ++ (if grant_is_reached y then m ∷ [] else [])) a in
    elim (cases_Bool (grant_is_reached x)) [
      | inl e ↦ rw e (ap (λ zs. n ∷ zs) b)
      | inr e ↦ rw e b
    ]

pub reached_step : (xs : List KeyState) (i : ℕ) (d : KeyState) (old new : List ℕ) (b : Bool) → i < length xs → old ≡ reached_places 0 (take i xs) → b ≡ grant_is_reached (get_or xs i d) →
    new ≡ old ++ (if b then i ∷ [] else []) → new ≡ reached_places 0 (take (i + 1) xs)
reached_step xs i d old new b h e f g =
    let l : 0 + length (take i xs) ≡ i = omega (arith, length-take-le i xs (omega arith)) in
    g ∙ ap (λ zs. zs ++ (if b then i ∷ [] else [])) e ∙ ap (λ c. reached_places 0 (take i xs) ++ (if c then i ∷ [] else [])) f ∙
    sym (ap (reached_places 0) (take_more xs i d h) ∙ reached_push 0 (take i xs) (get_or xs i d) ∙
    ap (λ m. reached_places 0 (take i xs) ++ (if grant_is_reached (get_or xs i d) then m ∷ [] else [])) l)

fit_ungranted : (states : List KeyState) → AllFit states → AllFit (map ungranted_if_reached states)
fit_ungranted [] a = tt
fit_ungranted (s ∷ states) a =
    (elim (cases_Bool (grant_is_reached s)) [ inl e ↦ rw e a.0 | inr e ↦ rw e a.0 ], fit_ungranted states a.1)

pub fit_settled : (n : ℕ) (xs ws ys : List KeyState) (i : ℕ) → n ≡ length xs → ws ≡ xs → AllFit xs → length ws ≤ i → length ys ≡ length ws → ys ≡ map ungranted_if_reached (take i ws) ++ drop i ws →
    AllFit (refill n xs ys)
fit_settled n xs ws ys i m e a h l inv =
    subst AllFit (sym (refilled n xs ys m (l ∙ ap length e) ∙ inv ∙ ap (λ zs. map ungranted_if_reached (take i ws) ++ zs) (drop_all i ws h) ∙ append-nil (map ungranted_if_reached (take i ws)) ∙
    ap (map ungranted_if_reached) (take_all i ws h) ∙ ap (map ungranted_if_reached) e)) (fit_ungranted xs a)

pub length-at_place : (f : KeyState → KeyState) (n : ℕ) (states : List KeyState) → length (at_place n f states) ≡ length states
length-at_place f n [] = refl
length-at_place f zero (s ∷ states) = refl
length-at_place f (suc n) (s ∷ states) = ap suc (length-at_place f n states)
