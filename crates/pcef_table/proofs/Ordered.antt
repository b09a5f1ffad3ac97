-- Entries in precedence order.
use Rattle.std.proofs.Common.{◌≡◌, ◌≢◌, ◌<◌, ◌≤◌, ◌+◌, ◌∙◌, List, [], ◌∷◌, ◌++◌, length, filter, map, Bool, true, false, IsTrue, All, AllPairs, ap, arith, inl, inr, length-append, not, refl, sym}
use Rattle.std.specs.Ordering.{is_lt, ordering_reverse}
use Rattle.std.specs.declared.cmp.Ordering.{Ordering}
use Rattle.std.specs.declared.cmp.Ordering.TheVariants.{Less, Equal, Greater}
use Rattle.std.proofs.lemmas.Bool.{cases_Bool, cond_both}
use Rattle.std.proofs.lemmas.List.Elements.{All-nil, All-append, All-cons, All-filter, All-head, All-map, All-tail, All-weaker, filter_passes}
use Rattle.std.proofs.lemmas.List.Kept.{AllPairs-cons, AllPairs-filter}
use Rattle.pcef_rule.proofs.OrderOfRules.{rank_total}
use Rattle.pcef_rule.specs.Precedence.{Rank, goes_before, rank_cmp}
use Rattle.pcef_rule.specs.declared.quantity.Slot.{Slot}
use Rattle.pcef_table.specs.declared.entry.TableEntry.{TableEntry}
use Rattle.pcef_table.specs.declared.entry.Source.{Source}
use Rattle.pcef_catalog.specs.declared.listing.Offer.{Offer}
use Rattle.pcef_table.specs.Sources.{IsKnown, source_is_named, name_of, source_rank}
use Rattle.pcef_table.specs.Tables.{AreNamedApart, GoesBefore, IsTable, has_other_name, goes_ahead, is_behind, is_slot, most_entries, placed, with_counting, without_entry}
use Rattle.std.proofs.lemmas.Slice.Eq.{bytes_eq-Decides}
use Rattle.pcef_base.proofs.Tests.{contrary}
use Rattle.pcef_base.proofs.Keeping.{filter_length, filters_apart}
use Rattle.pcef_base.proofs.Foremost.{ordered_head, ordered_tail}

-- an order that tests as less is less
less_if : (o : Ordering) → is_lt o ≡ true → o ≡ Less
less_if Less e = refl
less_if Equal e = absurd cc
less_if Greater e = absurd cc

-- what goes before x goes before all that x goes before
goes_before_later : (a x b : Rank) → goes_before a x ≡ true → goes_before x b ≡ true → goes_before a b ≡ true
goes_before_later a x b below above =
    ap is_lt (rank_total.trans a x b (less_if (rank_cmp a x) below) (less_if (rank_cmp x b) above))

-- two lists in order, where each of the first goes before x and x before each of the second
ordered_around : {X : Type 0} (R : X → X → Type 0) → ((a x b : X) → R a x → R x b → R a b) → (front : List X) (x : X) (back : List X) → AllPairs R front → All (λ a. R a x) front → AllPairs R back → All (R x) back → AllPairs R (front ++ x ∷ back)
ordered_around R chain [] x back front_ordered below back_ordered above = AllPairs-cons R x back above back_ordered
ordered_around R chain (a ∷ front) x back front_ordered below back_ordered above =
    let a_below = All-head (λ b. R b x) a front below in
    AllPairs-cons R a (front ++ x ∷ back)
    (All-append (R a) front (x ∷ back) (ordered_head R a front front_ordered)
    (All-cons (R a) x back a_below (All-weaker (R x) (R a) (λ b above_x. chain a x b a_below above_x) back above)))
    (ordered_around R chain front x back (ordered_tail R a front front_ordered) (All-tail (λ b. R b x) a front below) back_ordered above)

-- ---- names
-- an entry that has another name than x is named apart from it
other_is_apart : (offers : List Offer) (x e : TableEntry) → has_other_name offers (name_of offers x.source) e ≡ true → AreNamedApart offers x e
other_is_apart offers x e other same =
    contrary (source_is_named offers (name_of offers x.source) e.source) ((bytes_eq-Decides (name_of offers e.source) (name_of offers x.source)).1 (sym same)) (not_true (source_is_named offers (name_of offers x.source) e.source) other)
  where
    not_true : (b : Bool) → not b ≡ true → b ≡ false
    not_true true e = absurd cc
    not_true false e = refl

-- what stands between each of some elements and x, and between each of them and each of a list
one_more_apart : {X : Type 0} (R : X → X → Type 0) (x : X) (l ys : List X) → All (λ a. R a x) ys → All (λ a. All (R a) l) ys → All (λ a. All (R a) (x ∷ l)) ys
one_more_apart R x l [] first others = All-nil (λ a. All (R a) (x ∷ l))
one_more_apart R x l (y ∷ ys) first others =
    All-cons (λ a. All (R a) (x ∷ l)) y ys
    (All-cons (R y) x l (All-head (λ a. R a x) y ys first) (All-head (λ a. All (R a) l) y ys others))
    (one_more_apart R x l ys (All-tail (λ a. R a x) y ys first) (All-tail (λ a. All (R a) l) y ys others))

-- where no element passes both filters, what stands between any two of a list stands between what they keep
kept_apart : {X : Type 0} (R : X → X → Type 0) → ((a b : X) → R a b → R b a) → (p q : X → Bool) → ((x : X) → p x ≡ true → q x ≡ false) → (xs : List X) → AllPairs R xs → All (λ a. All (R a) (filter q xs)) (filter p xs)
kept_apart R turned p q apart [] pairs = All-nil (λ a. All (R a) [])
kept_apart R turned p q apart (x ∷ xs) pairs =
    let head : All (R x) xs = ordered_head R x xs pairs in
    let rest : All (λ a. All (R a) (filter q xs)) (filter p xs) = kept_apart R turned p q apart xs (ordered_tail R x xs pairs) in
    elim (cases_Bool (p x)) [
      | inl passes ↦ rw (passes, apart x passes) (All-cons (λ a. All (R a) (filter q xs)) x (filter p xs) (All-filter q (R x) xs head) rest)
      | inr fails ↦
          rw fails (cond_both (q x) (x ∷ filter q xs) (filter q xs) (λ l. All (λ a. All (R a) l) (filter p xs))
          (λ _. one_more_apart R x (filter q xs) (filter p xs) (All-filter p (λ a. R a x) xs (All-weaker (R x) (λ a. R a x) (turned x) xs head)) rest)
          (λ _. rest))
    ]

-- what stands between any two of each of two lists, and between each of the first and each of the second
pairs_around : {X : Type 0} (R : X → X → Type 0) (front back : List X) → AllPairs R front → AllPairs R back → All (λ a. All (R a) back) front → AllPairs R (front ++ back)
pairs_around R [] back front_pairs back_pairs between = back_pairs
pairs_around R (a ∷ front) back front_pairs back_pairs between =
    AllPairs-cons R a (front ++ back)
    (All-append (R a) front back (ordered_head R a front front_pairs) (All-head (λ b. All (R b) back) a front between))
    (pairs_around R front back (ordered_tail R a front front_pairs) back_pairs (All-tail (λ b. All (R b) back) a front between))

-- some entries of a table are a table
pub part_is_table : (offers : List Offer) (test : TableEntry → Bool) (entries : List TableEntry) → IsTable offers entries → IsTable offers (filter test entries)
part_is_table offers test entries table = record {
  known = All-filter test (λ e. IsKnown offers e.source) entries table.known;
  ordered = AllPairs-filter (GoesBefore offers) test entries table.ordered;
  names = AllPairs-filter (AreNamedApart offers) test entries table.names;
}

-- what goes before x doesn't go behind it
pub apart : (a x : Rank) → goes_before a x ≡ true → goes_before x a ≡ false
apart a x before = ap is_lt (rank_total.antisymm x a ∙ ap ordering_reverse (less_if (rank_cmp a x) before))

-- an entry in its place among those of other names leaves the names apart
placed_names : (offers : List Offer) (x : TableEntry) (others : List TableEntry) → All (AreNamedApart offers x) others → AllPairs (AreNamedApart offers) others →
    AllPairs (AreNamedApart offers) (filter (goes_ahead offers x) others ++ x ∷ filter (is_behind offers x) others)
placed_names offers x others other pairs =
    let front = filter (goes_ahead offers x) others in
    let back = filter (is_behind offers x) others in
    pairs_around (AreNamedApart offers) front (x ∷ back)
    (AllPairs-filter (AreNamedApart offers) (goes_ahead offers x) others pairs)
    (AllPairs-cons (AreNamedApart offers) x back (All-filter (is_behind offers x) (AreNamedApart offers x) others other) (AllPairs-filter (AreNamedApart offers) (is_behind offers x) others pairs))
    (one_more_apart (AreNamedApart offers) x back front
    (All-filter (goes_ahead offers x) (λ a. AreNamedApart offers a x) others (All-weaker (AreNamedApart offers x) (λ a. AreNamedApart offers a x) (λ a differs same. differs (sym same)) others other))
    (kept_apart (AreNamedApart offers) (λ a b differs same. differs (sym same)) (goes_ahead offers x) (is_behind offers x) (λ e. apart (source_rank offers e.source) (source_rank offers x.source)) others pairs))

-- a table with an entry in its place is a table
pub placed_is_table : (offers : List Offer) (x : TableEntry) (entries : List TableEntry) → IsKnown offers x.source → IsTable offers entries → IsTable offers (placed offers x entries)
placed_is_table offers x entries x_known table =
    let others = without_entry offers (name_of offers x.source) entries in
    let rest : IsTable offers others = part_is_table offers (has_other_name offers (name_of offers x.source)) entries table in
    let front = filter (goes_ahead offers x) others in
    let back = filter (is_behind offers x) others in
    record {
      known = All-append (λ e. IsKnown offers e.source) front (x ∷ back)
          (All-filter (goes_ahead offers x) (λ e. IsKnown offers e.source) others rest.known)
          (All-cons (λ e. IsKnown offers e.source) x back x_known (All-filter (is_behind offers x) (λ e. IsKnown offers e.source) others rest.known));
      ordered = ordered_around (GoesBefore offers)
          (λ a y b. goes_before_later (source_rank offers a.source) (source_rank offers y.source) (source_rank offers b.source))
          front x back
          (AllPairs-filter (GoesBefore offers) (goes_ahead offers x) others rest.ordered) (filter_passes (goes_ahead offers x) others)
          (AllPairs-filter (GoesBefore offers) (is_behind offers x) others rest.ordered) (filter_passes (is_behind offers x) others);
      names = placed_names offers x others (All-weaker (λ e. has_other_name offers (name_of offers x.source) e ≡ true) (AreNamedApart offers x) (other_is_apart offers x) others (filter_passes (has_other_name offers (name_of offers x.source)) entries)) rest.names;
    }

-- what holds of an entry's rule still holds where its slot is counted or not
counted_keeps : (P : Source → Type 0) (slot : Slot) (on : Bool) (e : TableEntry) → P e.source → P (with_counting slot on e).source
counted_keeps P slot on e holds = cond_both (is_slot slot e.slot) (record e { counted = on }) e (λ y. P y.source) (λ _. holds) (λ _. holds)

-- a change of each element that keeps how two stand to each other leaves a list in order
ordered_after : {X : Type 0} (R : X → X → Type 0) (f : X → X) → ((a b : X) → R a b → R (f a) (f b)) → (xs : List X) → AllPairs R xs → AllPairs R (map f xs)
ordered_after R f keeps [] ordered = ordered
ordered_after R f keeps (x ∷ xs) ordered =
    AllPairs-cons R (f x) (map f xs)
    (All-map (R (f x)) f xs (All-weaker (R x) (λ y. R (f x) (f y)) (keeps x) xs (ordered_head R x xs ordered)))
    (ordered_after R f keeps xs (ordered_tail R x xs ordered))

-- a table where a slot is counted or not is a table
pub counting_is_table : (offers : List Offer) (slot : Slot) (on : Bool) (entries : List TableEntry) → IsTable offers entries → IsTable offers (map (with_counting slot on) entries)
counting_is_table offers slot on entries table = record {
  known = All-map (λ e. IsKnown offers e.source) (with_counting slot on) entries
      (All-weaker (λ e. IsKnown offers e.source) (λ e. IsKnown offers (with_counting slot on e).source) (counted_keeps (IsKnown offers) slot on) entries table.known);
  ordered = ordered_after (GoesBefore offers) (with_counting slot on)
      (λ a b before. counted_keeps (λ s. IsTrue (goes_before (source_rank offers s) (source_rank offers (with_counting slot on b).source))) slot on a
      (counted_keeps (λ s. IsTrue (goes_before (source_rank offers a.source) (source_rank offers s))) slot on b before))
      entries table.ordered;
  names = ordered_after (AreNamedApart offers) (with_counting slot on)
      (λ a b apart. counted_keeps (λ s. name_of offers s ≢ name_of offers (with_counting slot on b).source) slot on a
      (counted_keeps (λ s. name_of offers a.source ≢ name_of offers s) slot on b apart))
      entries table.names;
}

-- an entry in its place makes a table longer by one at most
pub placed_length : (offers : List Offer) (x : TableEntry) (entries : List TableEntry) → length (placed offers x entries) ≤ length entries + 1
placed_length offers x entries =
    let others = without_entry offers (name_of offers x.source) entries in
    let front = filter (goes_ahead offers x) others in
    let back = filter (is_behind offers x) others in
    let sides : length front + length back ≤ length others =
    filters_apart (goes_ahead offers x) (is_behind offers x) (λ e. apart (source_rank offers e.source) (source_rank offers x.source)) others in
    let fewer : length others ≤ length entries = filter_length (has_other_name offers (name_of offers x.source)) entries in
    let all : length (placed offers x entries) ≡ length front + length (x ∷ back) = length-append front (x ∷ back) in
    omega arith

-- a table that isn't full has room for an entry
pub has_room : (offers : List Offer) (x : TableEntry) (entries : List TableEntry) → length entries < most_entries → length (placed offers x entries) ≤ most_entries
has_room offers x entries more =
    let longer = placed_length offers x entries in
    omega arith

-- an empty list is a table
pub empty_is_table : (offers : List Offer) (entries : List TableEntry) → entries ≡ [] → IsTable offers entries
empty_is_table offers entries empty = rw empty (record {
  known = All-nil (λ e. IsKnown offers e.source);
  ordered = λ i j d below within. absurd (omega arith);
  names = λ i j d below within. absurd (omega arith);
})
