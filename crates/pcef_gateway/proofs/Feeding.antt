-- Packets that are sent to their workers.
use Rattle.std.proofs.Common.{◌≡◌, ◌≢◌, ◌∙◌, ◌<◌, ◌+◌, ℕ, ◌==◌, List, [], ◌∷◌, ◌++◌, length, filter, map, set, take, get_or, get_or-set_same, get_or-set_other, length-set, append-nil, append_assoc, refl, ap, sym, arith, inl, inr}
use Rattle.std.proofs.lemmas.Bool.{eq-eqb, ne_eqb}
use Rattle.std.proofs.lemmas.Bool.Decides.{eqb_tells}
use Rattle.std.proofs.lemmas.List.{map-append, take_more}
use Rattle.std.proofs.lemmas.List.Elements.{filter-append}
use Rattle.pcef_packet.specs.declared.header.Header.{Header}
use Rattle.pcef_gateway.specs.Arriving.{headers_for}
use Rattle.pcef_gateway.specs.declared.arrivals.Arrival.{Arrival}

pub headers_append : (w : ℕ) (xs ys : List Arrival) → headers_for w (xs ++ ys) ≡ headers_for w xs ++ headers_for w ys
headers_append w xs ys =
    let own : Arrival → _ = λ a. a.worker == w in
    ap (map (λ (a : Arrival). a.header)) (filter-append own xs ys) ∙ map-append (λ (a : Arrival). a.header) (filter own xs) (filter own ys)

own_header : (w : ℕ) (a : Arrival) → a.worker ≡ w → headers_for w (a ∷ []) ≡ a.header ∷ []
own_header w a is = rw (eq-eqb a.worker w is) refl

other_header : (w : ℕ) (a : Arrival) → a.worker ≢ w → headers_for w (a ∷ []) ≡ []
other_header w a other = rw (ne_eqb a.worker w other) refl

-- one packet more goes to its worker
pub fed : (first lines : List (List Header)) (all : List Arrival) (i k : ℕ) (a : Arrival) (new : List Header) → i < length all → a ≡ get_or all i a → k ≡ a.worker
    → new ≡ get_or lines k [] ++ a.header ∷ [] → k < length lines
    → ((w : ℕ) → w < length lines → get_or lines w [] ≡ get_or first w [] ++ headers_for w (take i all))
    → (w : ℕ) → w < length (set lines k new) → get_or (set lines k new) w [] ≡ get_or first w [] ++ headers_for w (take (i + 1) all)
fed first lines all i k a new short is own put inside so_far w below =
    let before = get_or first w [] ++ headers_for w (take i all) in
    let more : headers_for w (take (i + 1) all) ≡ headers_for w (take i all) ++ headers_for w (a ∷ []) =
    ap (headers_for w) (take_more all i a short ∙ ap (λ (x : Arrival). take i all ++ x ∷ []) (sym is)) ∙ headers_append w (take i all) (a ∷ []) in
    let within : w < length lines = omega (arith, below, length-set lines k new) in
    let whole : before ++ headers_for w (a ∷ []) ≡ get_or first w [] ++ headers_for w (take (i + 1) all) =
    append_assoc (get_or first w []) (headers_for w (take i all)) (headers_for w (a ∷ [])) ∙ ap (λ xs. get_or first w [] ++ xs) (sym more) in
    elim (eqb_tells a.worker w) [
      | inl p ↦
          let here : k ≡ w = own ∙ p.1 in
          let at : get_or (set lines k new) w [] ≡ get_or (set lines k new) k [] = ap (λ n. get_or (set lines k new) n []) (sym here) in
          let had : get_or lines k [] ≡ before = ap (λ n. get_or lines n []) here ∙ so_far w within in
          at ∙ get_or-set_same lines k new [] inside ∙ put ∙ ap (λ xs. xs ++ a.header ∷ []) had ∙ ap (λ xs. before ++ xs) (sym (own_header w a p.1)) ∙ whole
      | inr p ↦
          let away : w ≢ k = λ (e : w ≡ k). p.1 (sym (e ∙ own)) in
          get_or-set_other lines k w new [] away ∙ so_far w within ∙ sym (append-nil before) ∙ ap (λ xs. before ++ xs) (sym (other_header w a p.1)) ∙ whole
    ]

-- the first of the packets that are left go to their workers
pub led : (first lines new : List (List Header)) (all left front back : List Arrival) → left ≡ front ++ back → length new ≡ length lines
    → ((w : ℕ) → w < length lines → get_or lines w [] ++ headers_for w left ≡ get_or first w [] ++ headers_for w all)
    → ((w : ℕ) → w < length lines → get_or new w [] ≡ get_or lines w [] ++ headers_for w front)
    → (w : ℕ) → w < length new → get_or new w [] ++ headers_for w back ≡ get_or first w [] ++ headers_for w all
led first lines new all left front back split many so_far sent w below =
    let within : w < length lines = omega (arith, below, many) in
    ap (λ xs. xs ++ headers_for w back) (sent w within) ∙ append_assoc (get_or lines w []) (headers_for w front) (headers_for w back)
    ∙ ap (λ xs. get_or lines w [] ++ xs) (sym (headers_append w front back) ∙ ap (headers_for w) (sym split)) ∙ so_far w within
