-- How many bounds are at or below an address.
use Rattle.std.proofs.Common.{◌≡◌, ◌<◌, ◌≤◌, ◌+◌, ◌-◌, ◌/◌, ◌∙◌, ℕ, zero, suc, List, ap, get_or, length, nat_le, nat_lt, refl, sym, arith, inl, inr}
use Rattle.std.proofs.lemmas.Bool.{cases_Bool, cond_both, le-leb, le-ltb, leb-true, lt-leb, lt-ltb, ltb-true}
use Rattle.pcef_index.specs.private.Bounds.{bound_cell, search}

-- what is found lies between the places
pub search_least : (cuts : ℕ) (bounds : List ℕ) (address from to : ℕ) → from ≤ search cuts bounds address from to
unfolding search
search_least zero bounds address from to = omega arith
search_least (suc cuts) bounds address from to =
    let middle : ℕ = from + (to - from) / 2 in
    let right = search_least cuts bounds address (middle + 1) to in
    let left = search_least cuts bounds address from middle in
    elim (cases_Bool (nat_lt from to)) [
      | inl some ↦
          rw some
          (cond_both (nat_le (get_or bounds middle 0) address) (search cuts bounds address (middle + 1) to) (search cuts bounds address from middle) (λ (n : ℕ). from ≤ n)
          (λ _. omega (arith, right)) (λ _. left))
      | inr shut ↦ rw shut (omega arith)
    ]

pub search_most : (cuts : ℕ) (bounds : List ℕ) (address from to : ℕ) → from ≤ to → search cuts bounds address from to ≤ to
unfolding search
search_most zero bounds address from to order = order
search_most (suc cuts) bounds address from to order =
    let middle : ℕ = from + (to - from) / 2 in
    elim (cases_Bool (nat_lt from to)) [
      | inl some ↦
          (let less = ltb-true from to some in
          let right = search_most cuts bounds address (middle + 1) to (omega (arith, less)) in
          let left = search_most cuts bounds address from middle (omega (arith, less)) in
          rw some
          (cond_both (nat_le (get_or bounds middle 0) address) (search cuts bounds address (middle + 1) to) (search cuts bounds address from middle) (λ (n : ℕ). n ≤ to)
          (λ _. right) (λ _. omega (arith, left, less))))
      | inr shut ↦ rw shut order
    ]

-- a higher address is found no earlier
pub search_grows : (cuts : ℕ) (bounds : List ℕ) (a b from to : ℕ) → a ≤ b → from ≤ to → search cuts bounds a from to ≤ search cuts bounds b from to
unfolding search
search_grows zero bounds a b from to less order = omega arith
search_grows (suc cuts) bounds a b from to less order =
    let middle : ℕ = from + (to - from) / 2 in
    let bound = get_or bounds middle 0 in
    elim (cases_Bool (nat_lt from to)) [
      | inl some ↦
          (let less_than = ltb-true from to some in
          let right = search_grows cuts bounds a b (middle + 1) to less (omega (arith, less_than)) in
          let left = search_grows cuts bounds a b from middle less (omega (arith, less_than)) in
          let most = search_most cuts bounds a from middle (omega (arith, less_than)) in
          let least = search_least cuts bounds b (middle + 1) to in
          elim (cases_Bool (nat_le bound a)) [
            | inl below ↦ (let at_a = leb-true bound a below in rw (some, below, le-leb bound b (omega (arith, at_a, less))) right)
            | inr above ↦
                rw (some, above)
                (cond_both (nat_le bound b) (search cuts bounds b (middle + 1) to) (search cuts bounds b from middle) (λ (n : ℕ). search cuts bounds a from middle ≤ n)
                (λ _. omega (arith, most, least)) (λ _. left))
          ])
      | inr shut ↦ rw shut (omega arith)
    ]

pub bound_grows : (bounds : List ℕ) (a b : ℕ) → a ≤ b → bound_cell bounds a ≤ bound_cell bounds b
unfolding bound_cell
bound_grows bounds a b less = search_grows (length bounds) bounds a b 0 (length bounds) less (omega arith)

pub bound_within : (bounds : List ℕ) (address : ℕ) → bound_cell bounds address ≤ length bounds
unfolding bound_cell
bound_within bounds address = search_most (length bounds) bounds address 0 (length bounds) (omega arith)

-- the steps of a search
pub search_shut : (cuts : ℕ) (bounds : List ℕ) (address from to : ℕ) → to ≤ from → search cuts bounds address from to ≡ from
unfolding search
search_shut zero bounds address from to shut = refl
search_shut (suc cuts) bounds address from to shut = rw (le-ltb from to shut) refl

search_right : (cuts : ℕ) (bounds : List ℕ) (address from to : ℕ) → from < to → get_or bounds (from + (to - from) / 2) 0 ≤ address
    → search (suc cuts) bounds address from to ≡ search cuts bounds address (from + (to - from) / 2 + 1) to
unfolding search
search_right cuts bounds address from to some below =
    rw (lt-ltb from to some, le-leb (get_or bounds (from + (to - from) / 2) 0) address below) refl

search_left : (cuts : ℕ) (bounds : List ℕ) (address from to : ℕ) → from < to → address < get_or bounds (from + (to - from) / 2) 0
    → search (suc cuts) bounds address from to ≡ search cuts bounds address from (from + (to - from) / 2)
unfolding search
search_left cuts bounds address from to some above =
    rw (lt-ltb from to some, lt-leb (get_or bounds (from + (to - from) / 2) 0) address above) refl

pub cut_right : (cuts : ℕ) (bounds : List ℕ) (address from to found : ℕ) → from < to → to - from ≤ cuts → get_or bounds (from + (to - from) / 2) 0 ≤ address
    → search cuts bounds address from to ≡ found → search (cuts - 1) bounds address (from + (to - from) / 2 + 1) to ≡ found
cut_right cuts bounds address from to found some enough below is =
    let fewer : suc (cuts - 1) ≡ cuts = omega (arith, enough, some) in
    sym (search_right (cuts - 1) bounds address from to some below) ∙ ap (λ (n : ℕ). search n bounds address from to) fewer ∙ is

pub cut_left : (cuts : ℕ) (bounds : List ℕ) (address from to found : ℕ) → from < to → to - from ≤ cuts → address < get_or bounds (from + (to - from) / 2) 0
    → search cuts bounds address from to ≡ found → search (cuts - 1) bounds address from (from + (to - from) / 2) ≡ found
cut_left cuts bounds address from to found some enough above is =
    let fewer : suc (cuts - 1) ≡ cuts = omega (arith, enough, some) in
    sym (search_left (cuts - 1) bounds address from to some above) ∙ ap (λ (n : ℕ). search n bounds address from to) fewer ∙ is

pub whole_search : (bounds : List ℕ) (address : ℕ) → search (length bounds) bounds address 0 (length bounds) ≡ bound_cell bounds address
unfolding bound_cell
whole_search bounds address = refl
