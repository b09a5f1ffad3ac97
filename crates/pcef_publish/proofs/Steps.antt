-- What the two steps keep.
use Rattle.std.proofs.Common.{◌≡◌, inl, ⊎_elim, ℕ, zero, suc, ◌<◌, ◌==◌, Bool, true, false, List, [], ◌∷◌, ◌++◌, length, take, fold, Some, None, slice_get, slice_set, refl, ap, sym, subst, ◌∙◌, arith, append_assoc, length-append}
use Rattle.std.proofs.lemmas.List.{append-nil, take-append-le}
use Rattle.std.proofs.lemmas.Bool.Decides.{nat_tests}
use mathlib.Core.List.{IsPrefix}
use prog.Atomic.{either}
use Rattle.logbook.specs.Pages.{Cell, cell, Nib, keeps, gives, adds, no_nib, may_write, step, Moves}
use Rattle.pcef_publish.proofs.Runs.{prefix_trans, get_snoc}
use Rattle.pcef_publish.specs.declared.rule.Note.{Note}
use Rattle.pcef_publish.specs.private.Chains.{pick, head_of, items_of, IsHome, IsKept, Draws, Adds, Checks}

pub stays_home : (cs : List Cell) (k x r : ℕ) → IsHome cs r → IsHome (slice_set cs k (x, true)) r
stays_home [] k x r h = h
stays_home (c ∷ cs) zero x zero h = refl
stays_home (c ∷ cs) zero x (suc r) h = h
stays_home (c ∷ cs) (suc k) x zero h = h
stays_home (c ∷ cs) (suc k) x (suc r) h = stays_home cs k x r h

pub made_home : (cs : List Cell) (k x : ℕ) → k < length cs → IsHome (slice_set cs k (x, true)) k
made_home [] k x h = absurd (omega arith)
made_home (c ∷ cs) zero x h = refl
made_home (c ∷ cs) (suc k) x h = made_home cs k x (omega arith)

pub still_some : (cs : List Cell) (k : ℕ) (c : Cell) → 0 < length cs → 0 < length (slice_set cs k c)
still_some [] k c h = h
still_some (d ∷ cs) zero c h = omega arith
still_some (d ∷ cs) (suc k) c h = omega arith

pub as_long : (cs : List Cell) (k : ℕ) (c : Cell) → length (slice_set cs k c) ≡ length cs
as_long [] k c = refl
as_long (d ∷ cs) zero c = refl
as_long (d ∷ cs) (suc k) c = ap suc (as_long cs k c)

pub home_before : (cs : List Cell) (c : Cell) (r : ℕ) → IsHome cs r → IsHome (cs ++ c ∷ []) r
home_before [] c r h = absurd cc
home_before (d ∷ cs) c zero h = h
home_before (d ∷ cs) c (suc r) h = home_before cs c r h

pub get_at : {A : Type 0} (xs ys : List A) (x : A) → slice_get (xs ++ x ∷ ys) (length xs) ≡ Some x
get_at [] ys x = refl
get_at (z ∷ xs) ys x = get_at xs ys x

pub take_at : {A : Type 0} (xs ys : List A) → take (length xs) (xs ++ ys) ≡ xs
take_at [] ys = refl
take_at (z ∷ xs) ys = ap (λ w. z ∷ w) (take_at xs ys)

pub get_short : {A : Type 0} (xs : List A) (k : ℕ) (x : A) → slice_get xs k ≡ Some x → k < length xs
get_short [] k x h = absurd cc
get_short (y ∷ xs) zero x h = omega arith
get_short (y ∷ xs) (suc k) x h = let r = get_short xs k x h in omega arith

pub fold_snoc : {A B : Type 0} (f : B → A → B) (b : B) (xs : List A) (x : A)
    → fold f b (xs ++ x ∷ []) ≡ f (fold f b xs) x
fold_snoc f b [] x = refl
fold_snoc f b (y ∷ xs) x = fold_snoc f (f b y) xs x

pub head_snoc : (root : ℕ) (log : List Note) (e : Note) → head_of root (log ++ e ∷ [])
    ≡ pick (e.root == root) e.next (head_of root log)
head_snoc root log e = fold_snoc (λ h e. pick (e.root == root) e.next h) root log e

pub items_snoc : (root : ℕ) (log : List Note) (e : Note) → items_of root (log ++ e ∷ [])
    ≡ pick (e.root == root) (items_of root log ++ e.item ∷ []) (items_of root log)
items_snoc root log e = fold_snoc (λ xs e. pick (e.root == root) (xs ++ e.item ∷ []) xs) [] log e

-- while the chain's head is away, no note of the chain was added
pub alone_step : (cs : List Cell) (root : ℕ) (v : List Note) (e : Note) (more log : List Note)
    → v ++ e ∷ more ≡ log → IsKept cs log → (cell cs (head_of root v)).1 ≡ false
    → (b : Bool) → (e.root == root) ≡ b
    → (head_of root (v ++ e ∷ []) ≡ head_of root v) × (items_of root (v ++ e ∷ []) ≡ items_of root v)
alone_step cs root v e more log is kept away true t =
    let same : e.root ≡ root = grind (arith, nat_tests, t) in
    let at : slice_get log (length v) ≡ Some e =
    subst (λ (l : List Note). slice_get l (length v) ≡ Some e) is (get_at v more e) in
    let front : take (length v) log ≡ v = subst (λ (l : List Note). take (length v) l ≡ v) is
    (take_at v (e ∷ more)) in
    let by : e.by ≡ head_of root v = kept.chained (length v) e at
    ∙ (ap (λ l. head_of e.root l) front ∙ ap (λ (r : ℕ). head_of r v) same) in
    let home : IsHome cs (head_of root v) = subst (λ (k : ℕ). IsHome cs k) by (kept.spent (length v) e at) in
    absurd (cc (home, away))
alone_step cs root v e more log is kept away false t = (
  head_snoc root v e ∙ ap (λ b. pick b e.next (head_of root v)) t,
  items_snoc root v e
      ∙ ap (λ b. pick b (items_of root v ++ e.item ∷ []) (items_of root v)) t,
)

-- then the chain is as it was seen
pub alone : (cs : List Cell) (root : ℕ) (v more log : List Note) → v ++ more ≡ log → IsKept cs log
    → (cell cs (head_of root v)).1 ≡ false
    → (head_of root log ≡ head_of root v) × (items_of root log ≡ items_of root v)
alone cs root v [] log is kept away =
    let e = sym (append-nil v) ∙ is in (ap (λ l. head_of root l) (sym e), ap (λ l. items_of root l) (sym e))
alone cs root v (e ∷ more) log is kept away =
    let one = alone_step cs root v e more log is kept away (e.root == root) refl in
    let rest = alone cs root (v ++ e ∷ []) more log (append_assoc v (e ∷ []) more ∙ is) kept
    (subst (λ (k : ℕ). (cell cs k).1 ≡ false) (sym one.0) away) in
    (rest.0 ∙ one.0, rest.1 ∙ one.1)

abbrev pub shown : List Note → List Note
shown log = []

abbrev pub moved : List Note → List Note → ℕ → Type 0
moved xs ys n = Unit {0}

-- the word changes, and the rule stays
pub kept_set : (cs : List Cell) (log : List Note) (k x : ℕ) → IsKept cs log
    → IsKept (slice_set cs k (x, true)) log
kept_set cs log k x kept = record {
  some = still_some cs k (x, true) kept.some;
  word = stays_home cs k x 0 kept.word;
  spent = λ i e at. stays_home cs k x e.by (kept.spent i e at);
  chained = kept.chained;
}

pub draws_moves : (v : List Note) (a : Note) → Moves IsKept shown moved 0 (v, (no_nib, None))
    (λ n. either (n == 0) 0 n) (Draws (step 0 0 0 a) (v, (no_nib, None)))
draws_moves v a cs log kept pre away =
    let x = either ((cell cs 0).0 == 0) 0 (cell cs 0).0 in
    let set = kept_set cs log 0 x kept in
    let kept' : IsKept (slice_set cs 0 (x, true) ++ (0, false) ∷ []) (log ++ []) =
    rw (append-nil log) (record {
      some = omega (arith, length-append (slice_set cs 0 (x, true)) ((0, false) ∷ []));
      word = home_before (slice_set cs 0 (x, true)) (0, false) 0 set.word;
      spent = λ i e at. home_before (slice_set cs 0 (x, true)) (0, false) e.by (set.spent i e at);
      chained = set.chained;
    }) in
    (kept.some, kept.word, (adds, [], None, tt, kept', inl (refl, refl), refl))

pub adds_moves : (v : List Note) (a : Note) (p : Nib) → p.right ≡ may_write → p.key ≡ a.by → a.by
    ≡ head_of a.root v
    → Moves IsKept shown moved 0 (v, (p, None)) (λ n. either (n == 0) 0 n)
    (Adds (step 0 0 0 a) (v, (p, None)))
adds_moves v a p right key by cs log kept pre away =
    let x = either ((cell cs 0).0 == 0) 0 (cell cs 0).0 in
    let cs' = slice_set cs 0 (x, true) in
    let out = away right in
    let off : (cell cs (head_of a.root v)).1 ≡ false =
    subst (λ (k : ℕ). (cell cs k).1 ≡ false) (key ∙ by) out.1 in
    let same = alone cs a.root v pre.0 log pre.1 kept off in
    let set = kept_set cs' log p.key p.value (kept_set cs log 0 x kept) in
    let here : IsHome (slice_set cs' p.key (p.value, true)) p.key =
    made_home cs' p.key p.value (omega (arith, as_long cs 0 (x, true), out.0)) in
    let kept' : IsKept (slice_set cs' p.key (p.value, true)) (log ++ a ∷ []) = record {
      some = set.some;
      word = set.word;
      spent = λ i e at. ⊎_elim (λ old. set.spent i e old)
          (λ new. subst (λ (n : Note). IsHome (slice_set cs' p.key (p.value, true)) n.by) new.1
          (subst (λ (k : ℕ). IsHome (slice_set cs' p.key (p.value, true)) k) key here))
          (get_snoc log a e i at);
      chained = λ i e at. ⊎_elim
          (λ old. kept.chained i e old ∙ ap (λ l. head_of e.root l)
          (sym (take-append-le i log (a ∷ []) (let s = get_short log i e old in omega arith))))
          (λ new. subst (λ (n : Note). n.by ≡ head_of n.root (take i (log ++ a ∷ []))) new.1
          (by ∙ (sym same.0 ∙ ap (λ l. head_of a.root l)
          (sym (ap (λ (n : ℕ). take n (log ++ a ∷ [])) new.0 ∙ take_at log (a ∷ []))))))
          (get_snoc log a e i at);
    } in
    let own : (a.root == a.root) ≡ true = grind (arith, nat_tests) in
    let items : items_of a.root (log ++ a ∷ []) ≡ items_of a.root v ++ a.item ∷ [] =
    items_snoc a.root log a ∙ (ap (λ b. pick b (items_of a.root log ++ a.item ∷ [])
    (items_of a.root log)) own ∙ ap (λ xs. xs ++ a.item ∷ []) same.1) in
    let head : head_of a.root (log ++ a ∷ []) ≡ a.next = head_snoc a.root log a
    ∙ ap (λ b. pick b a.next (head_of a.root log)) own in
    (kept.some, kept.word, (gives, a ∷ [], None, right, kept', inl (refl, refl), (items, head)))

pub checks_moves : (v : List Note) (a : Note) (p : Nib) → p.right ≡ may_write → p.key ≡ a.by
    → Moves IsKept shown moved 0 (v, (p, None)) (λ n. either (n == 0) 0 n)
    (Checks (step 0 0 0 a) (v, (p, None)))
checks_moves v a p right key cs log kept pre away =
    let x = either ((cell cs 0).0 == 0) 0 (cell cs 0).0 in
    let out = away right in
    let all : log ++ [] ≡ log = append-nil log in
    let kept' : IsKept (slice_set cs 0 (x, true)) (log ++ []) = rw all (kept_set cs log 0 x kept) in
    let tells : (u : List Note) → IsPrefix u v → head_of a.root u ≡ a.by
    → items_of a.root (log ++ []) ≡ items_of a.root u = λ u q h.
    let off : (cell cs (head_of a.root u)).1 ≡ false =
    subst (λ (k : ℕ). (cell cs k).1 ≡ false) (key ∙ sym h) out.1 in
    ap (λ l. items_of a.root l) all ∙ (alone cs a.root u (q.0 ++ pre.0) log
    (sym (append_assoc u q.0 pre.0) ∙ (ap (λ w. w ++ pre.0) q.1 ∙ pre.1)) kept off).1 in
    (kept.some, kept.word, (keeps, [], None, tt, kept', inl (refl, refl), (refl, tells)))

pub empty_kept : (a b : ℕ) → IsKept ((a, true) ∷ (b, true) ∷ []) []
empty_kept a b =
    record { some = omega arith; word = refl; spent = λ k e h. absurd cc; chained = λ k e h. absurd cc }

pub items_one : (root : ℕ) (v : List Note) (e : Note) → (b : Bool) → (e.root == root) ≡ b
    → IsPrefix (items_of root v) (items_of root (v ++ e ∷ []))
items_one root v e true t = (
  e.item ∷ [],
  sym (items_snoc root v e
      ∙ ap (λ b. pick b (items_of root v ++ e.item ∷ []) (items_of root v)) t),
)
items_one root v e false t =
    let same = items_snoc root v e ∙ ap (λ b. pick b (items_of root v ++ e.item ∷ []) (items_of root v)) t in
    ([], append-nil (items_of root v) ∙ sym same)

-- the items of a beginning begin the items
pub items_prefix : (root : ℕ) (v more : List Note) → IsPrefix (items_of root v) (items_of root (v ++ more))
items_prefix root v [] = ([], append-nil (items_of root v) ∙ ap (λ l. items_of root l) (sym (append-nil v)))
items_prefix root v (e ∷ more) =
    let one = items_one root v e (e.root == root) refl in
    let rest = subst (λ (l : List Note). IsPrefix (items_of root (v ++ e ∷ [])) (items_of root l))
    (append_assoc v (e ∷ []) more) (items_prefix root (v ++ e ∷ []) more) in
    prefix_trans (items_of root v) (items_of root (v ++ e ∷ [])) (items_of root (v ++ e ∷ more)) one rest

pub items_begin : (root : ℕ) (v log : List Note) → IsPrefix v log
    → IsPrefix (items_of root v) (items_of root log)
items_begin root v log p = subst (λ (l : List Note). IsPrefix (items_of root v) (items_of root l))
    p.1 (items_prefix root v p.0)
