-- What workers hand in, one after the other.
use Rattle.std.proofs.Common.{◌≡◌, ◌≢◌, ◌∙◌, ◌⊎◌, ◌<◌, ◌+◌, ℕ, ◌==◌, List, [], ◌∷◌, ◌++◌, All, length, drop, filter, map, get_or, refl, ap, sym, subst, arith, inl, inr}
use Rattle.std.specs.Prelude.{OnOk, Result, Ok, Err}
use mathlib.Core.List.{IsPrefix}
use Rattle.std.proofs.lemmas.Bool.Decides.{eqb_tells}
use Rattle.std.proofs.lemmas.List.{get_or_append_left, length-map, take-append-drop}
use Rattle.std.proofs.lemmas.List.Elements.{All-get_or, All-push}
use Rattle.std.proofs.lemmas.List.Sums.{sum_by_push}
use Rattle.std.proofs.Math.Seq.{get_or-append_seam}
use Rattle.pcef_packet.specs.declared.header.Header.{Header}
use Rattle.pcef_lock.specs.HandedIn.{HandedIn}
use Rattle.pcef_gateway.specs.Arriving.{headers_for}
use Rattle.pcef_gateway.specs.Sending.{HandInArrivals, HandInTheirs, row_count}
use Rattle.pcef_gateway.specs.Serving.{HandsIn, item_header}
use Rattle.pcef_gateway.specs.declared.arrivals.Arrival.{Arrival}
use Rattle.pcef_gateway.proofs.Splitting.{sums_up}

pub length_more : {X : Type 0} (xs : List X) (x : X) → length (xs ++ x ∷ []) ≡ length xs + 1
length_more [] x = refl
length_more (y ∷ xs) x = omega (arith, length_more xs x)

-- what holds of each and of one more holds of each where it was kept
pub all_kept : {X : Type 0} {E : Type 0} (P : X → Type 0) (r : Result (Unit {0}) E) (old new : List X) (one : X) → OnOk r (new ≡ old ++ one ∷ []) → P one → All P old → OnOk r (All P new)
all_kept P (Ok done) old new one put holds all = subst (All P) (sym put) (All-push P old one all holds)
all_kept P (Err e) old new one put holds all = tt

last_or_before : {X : Type 0} (xs : List X) (x d : X) (w : ℕ) → w < length (xs ++ x ∷ [])
    → ((w < length xs) × (get_or (xs ++ x ∷ []) w d ≡ get_or xs w d)) ⊎ ((w ≡ length xs) × (get_or (xs ++ x ∷ []) w d ≡ x))
last_or_before xs x d w within = elim (eqb_tells w (length xs)) [
  | inl p ↦ inr (p.1, ap (λ n. get_or (xs ++ x ∷ []) n d) p.1 ∙ get_or-append_seam xs x [] d)
  | inr p ↦
      let other : w ≢ length xs = p.1 in
      let less : w < length xs = omega (arith, within, length_more xs x, other) in
      inl (less, get_or_append_left xs (x ∷ []) d w less)
]

pub none_yet : HandInTheirs [] 0 []
none_yet = record {
  many = refl;
  numbered = λ w h within. absurd (omega (arith, within));
  first = λ w h within. absurd (omega (arith, within));
  whole = refl;
}

-- one more worker hands in
pub one_more : (sent : List (List Header)) (dropped : ℕ) (handed : List HandedIn) (s : List Header) (more : ℕ) (h : HandedIn) → HandInTheirs sent dropped handed
    → h.worker ≡ length sent → HandsIn s more h → HandInTheirs (sent ++ s ∷ []) (dropped + more) (handed ++ h ∷ [])
one_more sent dropped handed s more h so_far own is = record {
  many = omega (arith, length_more sent s, length_more handed h, so_far.many);
  numbered = λ w d within. elim (last_or_before handed h d w within) [
    | inl p ↦ ap (λ (x : HandedIn). x.worker) p.1 ∙ so_far.numbered w d p.0
    | inr p ↦ ap (λ (x : HandedIn). x.worker) p.1 ∙ own ∙ sym so_far.many ∙ sym p.0
  ];
  first = λ w d within. elim (last_or_before handed h d w within) [
    | inl p ↦
        let there : w < length sent = omega (arith, p.0, so_far.many) in
        let before : IsPrefix (map item_header (get_or (handed ++ h ∷ []) w d).items) (get_or sent w []) =
        subst (λ (x : HandedIn). IsPrefix (map item_header x.items) (get_or sent w [])) (sym p.1) (so_far.first w d p.0) in
        subst (λ xs. IsPrefix (map item_header (get_or (handed ++ h ∷ []) w d).items) xs) (sym (get_or_append_left sent (s ∷ []) [] w there)) before
    | inr p ↦
        let here : get_or (sent ++ s ∷ []) w [] ≡ s = ap (λ n. get_or (sent ++ s ∷ []) n []) (p.0 ∙ so_far.many) ∙ get_or-append_seam sent s [] [] in
        let begins : IsPrefix (map item_header h.items) s = (drop (length h.items) s, ap (λ xs. xs ++ drop (length h.items) s) is.first ∙ take-append-drop (length h.items) s) in
        let last : IsPrefix (map item_header (get_or (handed ++ h ∷ []) w d).items) s = subst (λ (x : HandedIn). IsPrefix (map item_header x.items) s) (sym p.1) begins in
        subst (λ xs. IsPrefix (map item_header (get_or (handed ++ h ∷ []) w d).items) xs) (sym here) last
  ];
  whole = omega (arith, sum_by_push length sent s, sum_by_push row_count handed h, so_far.whole, is.whole);
}

-- where it was added
pub one_added : {E : Type 0} (r : Result (Unit {0}) E) (sent : List (List Header)) (dropped new_dropped : ℕ) (handed new : List HandedIn) (s : List Header) (more : ℕ) (h : HandedIn)
    → OnOk r (new ≡ handed ++ h ∷ []) → OnOk r (new_dropped ≡ dropped + more) → HandInTheirs sent dropped handed → h.worker ≡ length sent → HandsIn s more h
    → OnOk r (HandInTheirs (sent ++ s ∷ []) new_dropped new)
one_added (Ok done) sent dropped new_dropped handed new s more h put counted so_far own is =
    subst (λ (xs : List HandedIn). HandInTheirs (sent ++ s ∷ []) new_dropped xs) (sym put)
    (subst (λ n. HandInTheirs (sent ++ s ∷ []) n (handed ++ h ∷ [])) (sym counted) (one_more sent dropped handed s more h so_far own is))
one_added (Err e) sent dropped new_dropped handed new s more h put counted so_far own is = tt

-- the packets that a worker was sent are those that arrived for it
pub of_arrivals : (first sent : List (List Header)) (arrivals : List Arrival) (dropped : ℕ) (handed : List HandedIn) → All (λ s. s ≡ []) first → length sent ≡ length first
    → ((w : ℕ) → w < length first → get_or sent w [] ≡ get_or first w [] ++ headers_for w arrivals) → All (λ a. a.worker < length first) arrivals
    → HandInTheirs sent dropped handed → HandInArrivals (length first) arrivals dropped handed
of_arrivals first sent arrivals dropped handed empty many each known is =
    let Empty : List Header → Type 0 = λ s. s ≡ [] in
    let own : (w : ℕ) → w < length first → get_or sent w [] ≡ headers_for w arrivals =
    λ w within. each w within ∙ ap (λ xs. xs ++ headers_for w arrivals) (All-get_or Empty first w [] within empty) in
    let counts : (w : ℕ) → w < length sent → length (get_or sent w []) ≡ length (filter (λ (a : Arrival). a.worker == w) arrivals) =
    λ w within. ap length (own w (omega (arith, within, many))) ∙ length-map (filter (λ (a : Arrival). a.worker == w) arrivals) (λ (a : Arrival). a.header) in
    let lower : All (λ (a : Arrival). a.worker < length sent) arrivals = subst (λ n. All (λ (a : Arrival). a.worker < n) arrivals) (sym many) known in
    record {
      many = is.many ∙ many;
      numbered = is.numbered;
      first = λ w d within. subst (λ xs. IsPrefix (map item_header (get_or handed w d).items) xs) (own w (omega (arith, within, many, is.many))) (is.first w d within);
      whole = sym (sums_up (λ (a : Arrival). a.worker) length arrivals sent [] counts lower) ∙ is.whole;
    }
