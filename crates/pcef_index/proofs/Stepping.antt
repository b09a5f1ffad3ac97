-- How many steps are at or below a port.
use Rattle.std.proofs.Common.{◌≡◌, ◌<◌, ◌≤◌, ◌+◌, ◌-◌, ◌/◌, ◌^◌, ◌++◌, ◌⊎◌, ◌&&◌, ℕ, suc, true, false, List, [], ◌∷◌, length, take, drop, nat_le, nat_lt, refl, sym, subst, arith, inl, inr}
use Rattle.std.proofs.lemmas.Bool.{and_parts, cases_Bool, cases_lt, cond_both, le-leb, leb-true, ltb-false, or_cases}
use Rattle.std.proofs.lemmas.List.{length-take}
use Rattle.pcef_filter.specs.declared.filter.PortRange.{PortRange}
use Rattle.pcef_filter.specs.Matching.{in_ranges}
use Rattle.pcef_index.specs.declared.steps.Steps.{Steps}
use Rattle.pcef_index.proofs.Bounding.{search_grows, search_most}
use Rattle.pcef_index.specs.private.Bounds.{search}
use Rattle.pcef_index.specs.private.Rows.{step_cell}
use Rattle.pcef_index.specs.private.Starts.{ArePlaced, cell_at, cell_of, count_on, count_up, start}

pub count_le : (port : ℕ) (steps : List ℕ) → count_up port steps ≤ length steps
count_le port [] = omega arith
count_le port (step ∷ steps) =
    let rest = count_le port steps in
    cond_both (nat_le step port) (1 + count_up port steps) 0 (λ (n : ℕ). n ≤ suc (length steps)) (λ _. omega (arith, rest)) (λ _. omega arith)

-- a step at or below a port is at or below each higher one
pub count_grows : (a b : ℕ) (steps : List ℕ) → a ≤ b → count_up a steps ≤ count_up b steps
count_grows a b [] less = omega arith
count_grows a b (step ∷ steps) less =
    let rest = count_grows a b steps less in
    elim (cases_Bool (nat_le step a)) [
      | inl below ↦ (let at_a = leb-true step a below in rw (below, le-leb step b (omega (arith, at_a))) (omega (arith, rest)))
      | inr above ↦ rw above (omega arith)
    ]

on_le : (port : ℕ) (steps : List ℕ) → count_on port steps ≤ length steps
on_le port steps =
    let halves = search_most (length steps) steps port 0 (length steps) (omega arith) in
    let plain = count_le port steps in
    cond_both (nat_lt 16 (length steps)) (search (length steps) steps port 0 (length steps)) (count_up port steps) (λ (n : ℕ). n ≤ length steps) (λ _. halves) (λ _. plain)

on_grows : (a b : ℕ) (steps : List ℕ) → a ≤ b → count_on a steps ≤ count_on b steps
on_grows a b steps less =
    elim (cases_Bool (nat_lt 16 (length steps))) [
      | inl many ↦ rw many (search_grows (length steps) steps a b 0 (length steps) less (omega arith))
      | inr few ↦ rw few (count_grows a b steps less)
    ]

-- the cells of ports of a high octet lie before the steps of the next
pub cell_at_le : {starts ports : List ℕ} → ArePlaced starts ports → (octet port : ℕ) → octet < 256 → cell_at starts ports octet port ≤ start starts (octet + 1)
cell_at_le {starts} {ports} placed octet port small =
    let from = start starts octet in
    let to = start starts (octet + 1) in
    let order = placed.ordered octet (octet + 1) (omega arith) (omega arith) in
    let most = on_le port (take (to - from) (drop from ports)) in
    let few = length-take (to - from) (drop from ports) in
    omega (arith, order, most, few)

placed_grows : {starts ports : List ℕ} → ArePlaced starts ports → (a b : ℕ) → a ≤ b → b < 2 ^ 16 → cell_at starts ports (a / 256) a ≤ cell_at starts ports (b / 256) b
placed_grows {starts} {ports} placed a b less small =
    elim (cases_lt (a / 256) (b / 256)) [
      | inl lower ↦
          (let one = cell_at_le placed (a / 256) a (omega arith) in
          let next = placed.ordered (a / 256 + 1) (b / 256) (omega (arith, lower)) (omega arith) in
          omega (arith, one, next))
      | inr not_lower ↦
          (let same : a / 256 ≡ b / 256 = omega (arith, not_lower, less) in
          let from = start starts (b / 256) in
          let more = on_grows a b (take (start starts (b / 256 + 1) - from) (drop from ports)) less in
          subst (λ (h : ℕ). cell_at starts ports h a ≤ cell_at starts ports (b / 256) b) (sym same) (omega (arith, more)))
    ]

-- ports stand in the order of their cells
pub cell_grows : (steps : Steps) (a b : ℕ) → a ≤ b → b < 2 ^ 16 → step_cell steps a ≤ step_cell steps b
unfolding cell_of
cell_grows steps a b less small =
    elim (cases_Bool (nat_lt (length steps.starts.items) 257)) [
      | inl few ↦ rw few (count_grows a b steps.ports.items less)
      | inr many ↦ rw many (placed_grows (steps.placed (ltb-false (length steps.starts.items) 257 many)) a b less small)
    ]

-- a port that is in some ranges and one more is in these or in that one
pub in_more : (ranges : List PortRange) (r : PortRange) (port : ℕ) → in_ranges (ranges ++ r ∷ []) port ≡ true
    → (in_ranges ranges port ≡ true) ⊎ ((r.first ≤ port) × (port ≤ r.last))
in_more [] r port is =
    elim (or_cases (nat_le r.first port && nat_le port r.last) false is) [
      | inl here ↦ (let both = and_parts (nat_le r.first port) (nat_le port r.last) here in inr (leb-true r.first port both.0, leb-true port r.last both.1))
      | inr none ↦ absurd (cc)
    ]
in_more (s ∷ ss) r port is =
    elim (cases_Bool (nat_le s.first port && nat_le port s.last)) [
      | inl here ↦ inl (rw here refl)
      | inr not_here ↦ elim (in_more ss r port (rw not_here at is)) [
        | inl before ↦ inl (rw (not_here, before) refl)
        | inr last ↦ inr last
      ]
    ]
