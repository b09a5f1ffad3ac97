-- Loops over items.
use Rattle.std.proofs.Common.{◌≡◌, ◌≢◌, ◌∙◌, ◌≤◌, ◌<◌, ◌+◌, ◌^◌, ◌==◌, ℕ, Bool, true, false, List, ◌∷◌, length, refl, sym, ap, subst, arith, drop, get_or, ◌&&◌}
use Rattle.std.specs.Prelude.{◌||◌, slice_index}
use Rattle.std.proofs.lemmas.Bool.{eq-eqb}
use Rattle.std.proofs.lemmas.List.{drop_all, drop_more}
use Rattle.pcef_base.proofs.Tests.{contrary}
use Rattle.pcef_rule.specs.declared.quantity.Slot.{Slot}
use Rattle.pcef_model.specs.Slots.{AreSlotsBelow, is_one_of}
use Rattle.pcef_usage.proofs.Places.{or_more}
use Rattle.pcef_session.specs.declared.batch.Item.{Item}
use Rattle.pcef_share.specs.Amounts.{Account, plus}
use Rattle.pcef_handover.specs.Counting.{with_item, with_items, with_slots}
use Rattle.pcef_handover.specs.Lanes.{continues, is_next}
use Rattle.pcef_handover.proofs.Ledgers.{plus_other}

pub split_here : (items : List Item) (i : ℕ) (item : Item) → i < length items → item ≡ get_or items i item → drop i items ≡ item ∷ drop (i + 1) items
split_here items i item within is = drop_more items i item within ∙ ap (λ (x : Item). x ∷ drop (i + 1) items) (sym is)

-- ---- rows that continue their lane
pub continued_here : (items : List Item) (i : ℕ) (item : Item) (w seq g : ℕ) (all : Bool) → i < length items → item ≡ get_or items i item → all ≡ continues w seq g (drop i items) →
    all ≡ (is_next w seq g item.row && continues w (seq + 1) item.row.generation (drop (i + 1) items))
unfolding continues
continued_here items i item w seq g all within is before = before ∙ ap (continues w seq g) (split_here items i item within is)

pub continued_step : (items : List Item) (i : ℕ) (item : Item) (w seq g : ℕ) (all : Bool) → i < length items → item ≡ get_or items i item → is_next w seq g item.row ≡ true →
    all ≡ continues w seq g (drop i items) → all ≡ continues w (seq + 1) item.row.generation (drop (i + 1) items)
continued_step items i item w seq g all within is next before =
    continued_here items i item w seq g all within is before ∙ ap (λ b. b && continues w (seq + 1) item.row.generation (drop (i + 1) items)) next

pub continued_not : (items : List Item) (i : ℕ) (item : Item) (w seq g : ℕ) (all : Bool) → i < length items → item ≡ get_or items i item → is_next w seq g item.row ≡ false →
    all ≡ continues w seq g (drop i items) → all ≡ false
continued_not items i item w seq g all within is next before =
    continued_here items i item w seq g all within is before ∙ ap (λ b. b && continues w (seq + 1) item.row.generation (drop (i + 1) items)) next

pub continued_end : (items : List Item) (i w seq g : ℕ) (all : Bool) → length items ≤ i → all ≡ continues w seq g (drop i items) → all ≡ true
unfolding continues
continued_end items i w seq g all past before = before ∙ ap (continues w seq g) (drop_all i items past)

-- ---- items that are counted
pub counted_step : (items : List Item) (i : ℕ) (item : Item) (t u all : List ℕ) → i < length items → item ≡ get_or items i item → u ≡ with_item t item → with_items t (drop i items) ≡ all →
    with_items u (drop (i + 1) items) ≡ all
unfolding with_items
counted_step items i item t u all within is new before =
    ap (λ x. with_items x (drop (i + 1) items)) new ∙ sym (ap (with_items t) (split_here items i item within is)) ∙ before

pub counted_end : (items : List Item) (i : ℕ) (t all : List ℕ) → length items ≤ i → with_items t (drop i items) ≡ all → t ≡ all
unfolding with_items
counted_end items i t all past before = sym (ap (with_items t) (drop_all i items past)) ∙ before

-- ---- octets that are counted for slots
pub slots_here : (own : List Slot) (i : ℕ) (d : Slot) → i < length own → AreSlotsBelow 8 (drop i own) → AreSlotsBelow 8 (get_or own i d ∷ drop (i + 1) own)
slots_here own i d within low = subst (AreSlotsBelow 8) (drop_more own i d within) low

pub slots_step : (own : List Slot) (i : ℕ) (d : Slot) (o : ℕ) (t u all : List ℕ) → i < length own → u ≡ plus t (get_or own i d).0 o → with_slots t (drop i own) o ≡ all →
    with_slots u (drop (i + 1) own) o ≡ all
slots_step own i d o t u all within new before =
    ap (λ x. with_slots x (drop (i + 1) own) o) new ∙ sym (ap (λ xs. with_slots t xs o) (drop_more own i d within)) ∙ before

pub slots_end : (own : List Slot) (i o : ℕ) (t all : List ℕ) → length own ≤ i → with_slots t (drop i own) o ≡ all → t ≡ all
slots_end own i o t all past before = sym (ap (λ xs. with_slots t xs o) (drop_all i own past)) ∙ before

-- the totals of these slots can take `o` octets more
abbrev pub TakeMore : List Slot → ℕ → List ℕ → Type 0
TakeMore own o t = (n : ℕ) → n < 8 → is_one_of n own ≡ true → slice_index t n + o < 2 ^ 64

pub takes_here : (own : List Slot) (i : ℕ) (d : Slot) (o : ℕ) (t : List ℕ) → i < length own → AreSlotsBelow 8 (drop i own) → TakeMore (drop i own) o t → slice_index t (get_or own i d).0 + o < 2 ^ 64
takes_here own i d o t within low takes =
    let slot : Slot = get_or own i d in
    let same : (slot.0 == slot.0) ≡ true = eq-eqb slot.0 slot.0 refl in
    let there : is_one_of slot.0 (drop i own) ≡ true = ap (is_one_of slot.0) (drop_more own i d within) ∙ ap (λ b. b || is_one_of slot.0 (drop (i + 1) own)) same in
    takes slot.0 (slots_here own i d within low).0 there

pub takes_later : (own : List Slot) (i : ℕ) (d : Slot) (o : ℕ) (t u : List ℕ) → i < length own → AreSlotsBelow 8 (drop i own) → u ≡ plus t (get_or own i d).0 o → TakeMore (drop i own) o t →
    TakeMore (drop (i + 1) own) o u
takes_later own i d o t u within low new takes = λ n less one_of.
    let slot : Slot = get_or own i d in
    let rest : List Slot = drop (i + 1) own in
    let none : is_one_of slot.0 rest ≡ false = (slots_here own i d within low).1 in
    let differ : n ≢ slot.0 = λ (e : n ≡ slot.0). contrary (is_one_of n rest) one_of (ap (λ m. is_one_of m rest) e ∙ none) in
    let there : is_one_of n (drop i own) ≡ true = ap (is_one_of n) (drop_more own i d within) ∙ or_more (n == slot.0) (is_one_of n rest) one_of in
    let same : slice_index u n ≡ slice_index t n = ap (λ x. slice_index x n) new ∙ plus_other t slot.0 o n differ in
    omega (arith, same, takes n less there)

pub account_is : (b : Account) (t : List ℕ) (n : ℕ) → b.totals ≡ t → b.issued ≡ n → b ≡ record { totals = t; issued = n }
account_is b t n totals issued = rw (← totals, ← issued) refl
