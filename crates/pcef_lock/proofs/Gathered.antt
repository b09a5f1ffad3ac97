-- What all shares add up to, slot by slot.
use Rattle.std.proofs.Common.{◌≡◌, ◌∙◌, ◌+◌, ◌<◌, ◌==◌, ℕ, zero, suc, if◌then◌else◌, List, [], ◌∷◌, Option, None, Some, refl, sym, arith, rules, length, map, get_or, sum_by, count_by, is_some, cond, add-zero}
use Rattle.std.proofs.lemmas.List.Sums.{sum_by-cons}
use Rattle.pcef_rule.specs.declared.quantity.Slot.{Slot}
use Rattle.pcef_share.specs.Amounts.{added, command_ledger, plus, row_ledger, sums, zeros}
use Rattle.pcef_session.specs.declared.batch.Item.{Item}
use Rattle.pcef_handover.specs.Counting.{with_item, with_items, with_slots}
use Rattle.pcef_lock.specs.Gathering.{gathered, row_octets, octets_for}
use Rattle.pcef_lock.specs.HandedIn.{HandedIn}
use Rattle.pcef_handover.proofs.Ledgers.{get_plus, length_plus, plus_other}

-- ---- shares, one after the other
get_added : (xs ys : List ℕ) (k : ℕ) → k < length xs → get_or (added xs ys) k 0 ≡ get_or xs k 0 + get_or ys k 0
get_added [] ys k within = absurd (omega (arith, within))
get_added (x ∷ xs) [] k within = omega arith
get_added (x ∷ xs) (y ∷ ys) zero within = refl
get_added (x ∷ xs) (y ∷ ys) (suc k) within = get_added xs ys k (omega (arith, within))

length_added : (xs ys : List ℕ) → length (added xs ys) ≡ length xs
length_added [] ys = refl
length_added (x ∷ xs) [] = refl
length_added (x ∷ xs) (y ∷ ys) = omega (arith, length_added xs ys)

-- what a share has of a ledger, if there is one
abbrev part_of : ℕ → Option (List ℕ) → ℕ
part_of k None = 0
part_of k (Some s) = get_or s k 0

get_sums : (at : List ℕ) (xs : List (Option (List ℕ))) (k : ℕ) → k < length at → get_or (sums at xs) k 0 ≡ get_or at k 0 + sum_by (part_of k) xs
get_sums at [] k within = omega arith
get_sums at (None ∷ xs) k within =
    let more : sum_by (part_of k) (None ∷ xs) ≡ 0 + sum_by (part_of k) xs = sum_by-cons (part_of k) None xs in
    omega (arith, more, get_sums at xs k within)
get_sums at (Some s ∷ xs) k within =
    let more : sum_by (part_of k) (Some s ∷ xs) ≡ get_or s k 0 + sum_by (part_of k) xs = sum_by-cons (part_of k) (Some s) xs in
    omega (arith, more, get_sums (added at s) xs k (omega (arith, within, length_added at s)), get_added at s k within)

-- ---- rows, one after the other
length_slots : (t : List ℕ) (own : List Slot) (octets : ℕ) → length (with_slots t own octets) ≡ length t
length_slots t [] octets = refl
length_slots t (slot ∷ own) octets = length_slots (plus t slot.0 octets) own octets ∙ length_plus t slot.0 octets

get_slots : (t : List ℕ) (own : List Slot) (octets k : ℕ) → k < length t
    → get_or (with_slots t own octets) k 0 ≡ get_or t k 0 + sum_by (λ (s : Slot). if k == s.0 then octets else 0) own
get_slots t [] octets k within = sym (add-zero _)
get_slots t (slot ∷ own) octets k within =
    let more : sum_by (λ (s : Slot). if k == s.0 then octets else 0) (slot ∷ own) ≡ (if k == slot.0 then octets else 0) + sum_by (λ (s : Slot). if k == s.0 then octets else 0) own =
    sum_by-cons (λ (s : Slot). if k == s.0 then octets else 0) slot own in
    omega (arith, more, get_slots (plus t slot.0 octets) own octets k (omega (arith, within, length_plus t slot.0 octets)), get_plus t slot.0 octets k within)

get_item : (t : List ℕ) (i : Item) (k : ℕ) → k < 8 → length t ≡ 10 → get_or (with_item t i) k 0 ≡ get_or t k 0 + row_octets k i
get_item t i k below ten =
    plus_other (with_slots t i.slots.items i.row.header.octets) row_ledger 1 k (λ (e : k ≡ 8). absurd (omega (arith, below, e)))
    ∙ get_slots t i.slots.items i.row.header.octets k (omega (arith, below, ten))

length_item : (t : List ℕ) (i : Item) → length (with_item t i) ≡ length t
length_item t i = length_plus (with_slots t i.slots.items i.row.header.octets) row_ledger 1 ∙ length_slots t i.slots.items i.row.header.octets

get_items : (t : List ℕ) (items : List Item) (k : ℕ) → k < 8 → length t ≡ 10 → get_or (with_items t items) k 0 ≡ get_or t k 0 + octets_for k items
unfolding with_items
get_items t [] k below ten = sym (add-zero _)
get_items t (i ∷ items) k below ten =
    let more : octets_for k (i ∷ items) ≡ row_octets k i + octets_for k items = sum_by-cons (row_octets k) i items in
    omega (arith, more, get_items (with_item t i) items k below (length_item t i ∙ ten), get_item t i k below ten)

get_zeros : (k : ℕ) → get_or zeros k 0 ≡ 0
get_zeros k = search rules

-- ---- all that is handed in
abbrev pub share_of : HandedIn → Option (List ℕ)
share_of h = Some (with_items zeros h.items)

gathered_parts : (handed : List HandedIn) (k : ℕ) → k < 8 → sum_by (part_of k) (map share_of handed) ≡ gathered k handed
gathered_parts [] k below = refl
gathered_parts (h ∷ handed) k below =
    let more : sum_by (part_of k) (map share_of (h ∷ handed)) ≡ get_or (with_items zeros h.items) k 0 + sum_by (part_of k) (map share_of handed) =
    sum_by-cons (part_of k) (share_of h) (map share_of handed) in
    let lists : gathered k (h ∷ handed) ≡ octets_for k h.items + gathered k handed = sum_by-cons (λ (h : HandedIn). octets_for k h.items) h handed in
    omega (arith, more, lists, get_items zeros h.items k below refl, get_zeros k, gathered_parts handed k below)

-- with the desk's share, in which no slot has anything
pub gathered_all : (handed : List HandedIn) (commands k : ℕ) → k < 8 → get_or (sums zeros (Some (plus zeros command_ledger commands) ∷ map share_of handed)) k 0 ≡ gathered k handed
gathered_all handed commands k below =
    let desk : get_or (plus zeros command_ledger commands) k 0 ≡ 0 = plus_other zeros command_ledger commands k (λ (e : k ≡ 9). absurd (omega (arith, below, e))) ∙ get_zeros k in
    let split : sum_by (part_of k) (Some (plus zeros command_ledger commands) ∷ map share_of handed) ≡ get_or (plus zeros command_ledger commands) k 0 + sum_by (part_of k) (map share_of handed) =
    sum_by-cons (part_of k) (Some (plus zeros command_ledger commands)) (map share_of handed) in
    omega (
      arith,
      desk,
      split,
      get_zeros k,
      gathered_parts handed k below,
      get_sums zeros (Some (plus zeros command_ledger commands) ∷ map share_of handed) k (omega (arith, below)),
    )

all_there : (handed : List HandedIn) → count_by is_some (map share_of handed) ≡ length handed
all_there [] = refl
all_there (h ∷ handed) =
    let more : count_by is_some (map share_of (h ∷ handed)) ≡ 1 + count_by is_some (map share_of handed) =
    sum_by-cons (λ o. cond (is_some o) 1 0) (share_of h) (map share_of handed) in
    omega (arith, more, all_there handed)

-- how many shares are handed in
pub shares_there : (handed : List HandedIn) (desk : List ℕ) → count_by is_some (Some desk ∷ map share_of handed) ≡ 1 + length handed
shares_there handed desk =
    let more : count_by is_some (Some desk ∷ map share_of handed) ≡ 1 + count_by is_some (map share_of handed) =
    sum_by-cons (λ o. cond (is_some o) 1 0) (Some desk) (map share_of handed) in
    omega (arith, more, all_there handed)
