-- How far tokens can be completed, found token by token.
use Rattle.std.proofs.Common.{ℕ, zero, suc, ◌≡◌, ◌<◌, ◌≤◌, Result, Ok, Err, List, [], ◌∷◌, length, take, Option, Some, None, refl, sym, ◌∙◌, arith, inl, inr, ◌⊎◌}
use Rattle.std.specs.Prelude.{slice_get}
use Rattle.pcef_filter.specs.Tokens.{Token}
use Rattle.pcef_filter.specs.Faults.{IsViable, IsLongestViable}
use Rattle.pcef_filter.specs.declared.filter.FilterFault.{FilterFault}

-- `e` is the fault that `rows` has for the place behind the longest front that can be completed
pub record FaultsAt (Right : List Token → Type 0) (rows : List Token → Option Token → FilterFault) (ts : List Token) (e : FilterFault) : Type 0 where
  pub count : ℕ
  pub longest : IsLongestViable Right ts count
  pub is : e ≡ rows (take count ts) (slice_get ts count)

-- one fitting token more in front moves the fault's place by one
pub step : (Right Right' : List Token → Type 0) (rows rows' : List Token → Option Token → FilterFault) (t : Token) (ts : List Token) (e : FilterFault)
    → ((l : List Token) → Right l → Right' (t ∷ l)) → ((l : List Token) → Right' (t ∷ l) → Right l)
    → ((l : List Token) (o : Option Token) → rows l o ≡ rows' (t ∷ l) o)
    → FaultsAt Right rows ts e → FaultsAt Right' rows' (t ∷ ts) e
step Right Right' rows rows' t ts e to from same f =
    let within : f.count ≤ length ts = f.longest.within in
    record {
      count = suc f.count;
      longest = record {
        within = omega arith;
        viable = (f.longest.viable.0, to _ f.longest.viable.1);
        longest = later;
      };
      is = f.is ∙ same (take f.count ts) (slice_get ts f.count);
    }
  where
    later : (m : ℕ) → suc f.count < m → m ≤ length (t ∷ ts) → IsViable Right' (take m (t ∷ ts)) → ⊥
    later zero above below v = absurd (omega arith)
    later (suc m) above below v = f.longest.longest m (omega arith) (omega arith) (v.0, from _ v.1)

-- tokens end where one more must stand
pub stop_empty : (Right : List Token → Type 0) (rows : List Token → Option Token → FilterFault) (e : FilterFault) (some : List Token)
    → Right some → e ≡ rows [] None → FaultsAt Right rows [] e
stop_empty Right rows e some right is = record {
  count = 0;
  longest = record {
    within = omega arith;
    viable = (some, right);
    longest = λ m above below v. absurd (omega arith);
  };
  is = is;
}

-- no right tokens begin with this one
pub stop_token : (Right : List Token → Type 0) (rows : List Token → Option Token → FilterFault) (t : Token) (ts : List Token) (e : FilterFault) (some : List Token)
    → Right some → ((l : List Token) → Right (t ∷ l) → ⊥) → e ≡ rows [] (Some t) → FaultsAt Right rows (t ∷ ts) e
stop_token Right rows t ts e some right none is = record {
  count = 0;
  longest = record {
    within = omega arith;
    viable = (some, right);
    longest = later;
  };
  is = is;
}
  where
    later : (m : ℕ) → 0 < m → m ≤ length (t ∷ ts) → IsViable Right (take m (t ∷ ts)) → ⊥
    later zero above below v = absurd (omega arith)
    later (suc m) above below v = none _ v.1

-- an answer that is no fault
abbrev pub Succeeds : {Y : Type 0} → Result Y FilterFault → Type 0
Succeeds (Ok y) = Unit {0}
Succeeds (Err e) = ⊥

pub fails : {Y : Type 0} (r : Result Y FilterFault) (e : FilterFault) → r ≡ Err e → Succeeds r → ⊥
fails r e h s = rw h at s

pub same_fault : {Y : Type 0} (r : Result Y FilterFault) (d e : FilterFault) → r ≡ Err d → r ≡ Err e → d ≡ e
same_fault r d e h h' = cc

-- One place of the grammar: a token of some class, and then what follows it. If faults of what
-- follows stand at their right place, so do those of the two together.
pub stage : {X Y : Type 0} (read : Token → Option X) (whole : List Token → Result Y FilterFault) (after : X → List Token → Result Y FilterFault)
    (here : FilterFault) (rows : List Token → Option Token → FilterFault)
    → whole [] ≡ Err here
    → ((t : Token) (ts : List Token) (x : X) → read t ≡ Some x → whole (t ∷ ts) ≡ after x ts)
    → ((t : Token) (ts : List Token) → read t ≡ None → whole (t ∷ ts) ≡ Err here)
    → (right : List Token) → Succeeds (whole right)
    → ((o : Option Token) → rows [] o ≡ here)
    → ((t : Token) (ts : List Token) (x : X) (e : FilterFault) → read t ≡ Some x → after x ts ≡ Err e → FaultsAt (λ l. Succeeds (after x l)) (λ l o. rows (t ∷ l) o) ts e)
    → (ts : List Token) (e : FilterFault) → whole ts ≡ Err e → FaultsAt (λ l. Succeeds (whole l)) rows ts e
stage {X = X} read whole after here rows empty some none right succeeds row_here later [] e h =
    stop_empty (λ l. Succeeds (whole l)) rows e right succeeds (sym (same_fault (whole []) here e empty h) ∙ sym (row_here None))
stage {X = X} read whole after here rows empty some none right succeeds row_here later (t ∷ ts) e h = go (read t) refl
  where
    go : (o : Option X) → read t ≡ o → FaultsAt (λ l. Succeeds (whole l)) rows (t ∷ ts) e
    go None is =
        stop_token (λ l. Succeeds (whole l)) rows t ts e right succeeds
        (λ l s. fails (whole (t ∷ l)) here (none t l is) s)
        (sym (same_fault (whole (t ∷ ts)) here e (none t ts is) h) ∙ sym (row_here (Some t)))
    go (Some x) is =
        step (λ l. Succeeds (after x l)) (λ l. Succeeds (whole l)) (λ l o. rows (t ∷ l) o) rows t ts e
        (λ l s. rw (some t l x is) s) (λ l s. rw (some t l x is) at s) (λ l o. refl)
        (later t ts x e is (sym (some t ts x is) ∙ h))

-- two words for the same right tokens
pub alike : (Right Right' : List Token → Type 0) (rows : List Token → Option Token → FilterFault) (ts : List Token) (e : FilterFault)
    → ((l : List Token) → Right l → Right' l) → ((l : List Token) → Right' l → Right l)
    → FaultsAt Right rows ts e → FaultsAt Right' rows ts e
alike Right Right' rows ts e to from f = record {
  count = f.count;
  longest = record {
    within = f.longest.within;
    viable = (f.longest.viable.0, to _ f.longest.viable.1);
    longest = λ m above below v. f.longest.longest m above below (v.0, from _ v.1);
  };
  is = f.is;
}

-- two longest viable fronts are one
pub same_count : (Right : List Token → Type 0) (ts : List Token) (m n : ℕ) → IsLongestViable Right ts m → IsLongestViable Right ts n → m ≡ n
same_count Right ts m n hm hn = go (order m n)
  where
    next : (m n : ℕ) → (m < n) ⊎ ((n < m) ⊎ (m ≡ n)) → (suc m < suc n) ⊎ ((suc n < suc m) ⊎ (suc m ≡ suc n))
    next m n (inl less) = inl (omega arith)
    next m n (inr (inl more)) = inr (inl (omega arith))
    next m n (inr (inr same)) = inr (inr (omega arith))

    order : (m n : ℕ) → (m < n) ⊎ ((n < m) ⊎ (m ≡ n))
    order zero zero = inr (inr refl)
    order zero (suc n) = inl (omega arith)
    order (suc m) zero = inr (inl (omega arith))
    order (suc m) (suc n) = next m n (order m n)

    go : (m < n) ⊎ ((n < m) ⊎ (m ≡ n)) → m ≡ n
    go (inl less) = absurd (hm.longest n less hn.within hn.viable)
    go (inr (inl more)) = absurd (hn.longest m more hm.within hm.viable)
    go (inr (inr same)) = same
