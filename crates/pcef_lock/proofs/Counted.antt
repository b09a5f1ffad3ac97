-- The books of a session stay right as its journal grows.
use Rattle.std.proofs.Common.{◌≡◌, ◌≢◌, ◌∙◌, ◌≤◌, ◌<◌, ◌+◌, ◌*◌, ◌^◌, ℕ, suc, Bool, false, List, [], ◌∷◌, ◌++◌, length, map, refl, sym, ap, subst, arith, inl, inr, Some, None, if◌then◌else◌}
use Rattle.std.specs.Prelude.{Option, slice_get, slice_index}
use Rattle.std.specs.Option.{option_map_or}
use Rattle.std.proofs.lemmas.Bool.{cases_lt}
use Rattle.std.proofs.lemmas.List.Elements.{All-head, All-tail}
use Rattle.pcef_rule.specs.declared.quantity.Slot.{Slot}
use Rattle.pcef_model.specs.declared.command.Command.{Command}
use Rattle.pcef_model.specs.declared.entry.Entry.TheVariants as entry
use Rattle.pcef_model.specs.declared.row.Row.{Row}
use Rattle.pcef_model.specs.Setting.{Setting}
use Rattle.pcef_model.specs.Generations.{made_by, oldest, slots_of}
use Rattle.pcef_model.specs.Entries.{Journal, commands, rows}
use Rattle.pcef_model.specs.Journals.{counted, counts, counts_in, octets_of, slots, tables}
use Rattle.pcef_model.specs.Reports.{after_command, after_flush, thresholds, with_rows}
use Rattle.pcef_model.proofs.Growth.{counted_after_command, counted_after_row}
use Rattle.pcef_model.proofs.AfterEvents.{tables_after, tables_after_rows}
use Rattle.pcef_usage.proofs.Slots.{stranger_counted}
use Rattle.pcef_session.specs.declared.batch.Item.{Item}
use Rattle.pcef_model.specs.Slots.{AreSlotsBelow, CountsFor, is_one_of}
use Rattle.pcef_model.proofs.SlotsOf.{slot_is, slots_below, slots_once}
use Rattle.pcef_session.specs.Following.{HasItsSlots, HasSmallRows, row_of}
use Rattle.pcef_model.specs.Lawful.{Lawful}
use Rattle.pcef_session.proofs.CommandAgrees.{commands_after, commands_told}
use Rattle.pcef_model.proofs.Exactness.{lawful_exact}
use Rattle.pcef_model.proofs.JournalExtends.{rows_after_command, rows_after_flush, tables_after_flush}
use Rattle.pcef_model.proofs.SlotPlaces.{Grows}
use Rattle.pcef_model.proofs.SlotsLater.{below_more}
use Rattle.pcef_share.specs.Amounts.{plus}
use Rattle.pcef_handover.specs.Counting.{AreCounted, slot_total, with_item, with_items, with_slots}
use Rattle.pcef_handover.proofs.Ledgers.{length_plus, plus_other, plus_same}
use Rattle.pcef_handover.proofs.Slots.{length_slots, past_slots, slots_keep, slots_raised, slots_within}
use Rattle.pcef_lock.proofs.Places.{get_left, get_past, past_among, past_none}

-- ---- what the definitions look at
pub counted_same : (p : Setting) (j k : Journal) (key : List ℕ) → tables k ≡ tables j → rows k ≡ rows j → counted p k key ≡ counted p j key
counted_same p j k key same rows_are =
    ap (λ (cs : List Command). octets_of (λ r. counts_in p (made_by p (oldest r.generation cs)) key r.header) (rows k)) same ∙ ap (octets_of (counts p j key)) rows_are

-- slots that grow keep their totals, and new ones have none
total_grown : (p : Setting) (j k : Journal) (n : ℕ) → Grows (slots p j) (slots p k) → ((key : List ℕ) → counted p k key ≡ counted p j key) →
    slot_total p k n ≡ slot_total p j n
total_grown p j k n grows same =
    elim (cases_lt n (length (slots p j))) [
      | inl inside ↦
          let at : slice_get (slots p k) n ≡ slice_get (slots p j) n = ap (λ ks. slice_get ks n) grows.1 ∙ get_left (slots p j) grows.0 n inside in
          ap (λ o. option_map_or (counted p k) o 0) at ∙ each (slice_get (slots p j) n)
      | inr past ↦
          let none : slice_get (slots p j) n ≡ None = get_past (slots p j) n past in
          rw none (fresh past (slice_get (slots p k) n) refl)
    ]
  where
    each : (o : Option (List ℕ)) → option_map_or (counted p k) o 0 ≡ option_map_or (counted p j) o 0
    each None = refl
    each (Some key) = same key

    fresh : length (slots p j) ≤ n → (o : Option (List ℕ)) → slice_get (slots p k) n ≡ o → option_map_or (counted p k) o 0 ≡ 0
    fresh past None is = refl
    fresh past (Some key) is = same key ∙ stranger_counted p j key (past_among (slots p j) (slots p k) n key grows (slots_once p (tables k)) past is)

-- ---- events that count nothing
pub counted_later : (p : Setting) (j k : Journal) (t : List ℕ) → Grows (slots p j) (slots p k) → ((key : List ℕ) → counted p k key ≡ counted p j key) → rows k ≡ rows j →
    length (commands k) ≡ length (commands j) → AreCounted p j t → AreCounted p k t
counted_later p j k t grows same rows_are commands_are is = record {
  ten = is.ten;
  slots_are = λ n low. is.slots_are n low ∙ sym (total_grown p j k n grows same);
  rows_are = is.rows_are ∙ sym (ap length rows_are);
  commands_are = is.commands_are ∙ sym commands_are;
  within = λ n low. subst (λ m. slice_index t n ≤ 4294967295 * m) (sym (ap length rows_are)) (is.within n low);
}

pub counted_kept : (p : Setting) (j k : Journal) (t : List ℕ) → tables k ≡ tables j → rows k ≡ rows j → commands k ≡ commands j → AreCounted p j t → AreCounted p k t
counted_kept p j k t tables_are rows_are commands_are is =
    counted_later p j k t ([], ap (slots_of p) tables_are ∙ sym (append_nil (slots p j))) (λ key. counted_same p j k key tables_are rows_are) rows_are (ap length commands_are) is
  where
    append_nil : (xs : List (List ℕ)) → xs ++ [] ≡ xs
    append_nil [] = refl
    append_nil (x ∷ xs) = ap (λ ys. x ∷ ys) (append_nil xs)

-- ---- a command
-- one more in the book of commands
counted_more : (p : Setting) (j k : Journal) (t : List ℕ) → length (commands k) ≡ suc (length (commands j)) → ((n : ℕ) → n < 8 → slot_total p k n ≡ slot_total p j n) → rows k ≡ rows j →
    AreCounted p j t → AreCounted p k (plus t 9 1)
counted_more p j k t more totals rows_are is =
    let at : (n : ℕ) → n < 9 → slice_index (plus t 9 1) n ≡ slice_index t n = λ n low. plus_other t 9 1 n (λ (e : n ≡ 9). absurd (omega (arith, low, e))) in
    let nine : slice_index (plus t 9 1) 9 ≡ slice_index t 9 + 1 = plus_same t 9 1 (omega (arith, is.ten)) in
    record {
      ten = length_plus t 9 1 ∙ is.ten;
      slots_are = λ n low. at n (omega (arith, low)) ∙ is.slots_are n low ∙ sym (totals n low);
      rows_are = at 8 (omega arith) ∙ is.rows_are ∙ sym (ap length rows_are);
      commands_are = omega (arith, nine, is.commands_are, more);
      within = λ n low. subst (λ m. slice_index (plus t 9 1) n ≤ 4294967295 * m) (sym (ap length rows_are)) (subst (λ x. x ≤ 4294967295 * length (rows j)) (sym (at n (omega (arith, low)))) (is.within n low));
    }

pub counted_command : (p : Setting) (j : Journal) (c : Command) (t : List ℕ) → Lawful p j → Grows (slots p j) (slots p (after_command p j c)) → AreCounted p j t →
    AreCounted p (after_command p j c) (plus t 9 1)
counted_command p j c t lawful grows is =
    let k : Journal = after_command p j c in
    let same : (key : List ℕ) → counted p k key ≡ counted p j key = λ key.
    counted_same p (entry.Command c ∷ j) k key (tables_after p j c) (rows_after_command p j c) ∙ counted_after_command p j key c (lawful_exact p j lawful).known in
    counted_more p j k t (ap length (commands_after p j c)) (λ n low. total_grown p j k n grows same) (rows_after_command p j c) is

-- ---- a row
-- what a row adds to the key of a slot
row_adds : (p : Setting) (j : Journal) (r : Row) (own : List Slot) (n : ℕ) → CountsFor p j r own → (t : List ℕ) → n < length t → slice_index t n ≡ slot_total p j n →
    slice_index (with_slots t own r.header.octets) n ≡ slot_total p (entry.Row r ∷ j) n
row_adds p j r own n counts_for t inside is = from (slice_get (slots p j) n) refl
  where
    test : List ℕ → Bool
    test = λ key. counts p j key r

    within : AreSlotsBelow (length (slots p j)) own
    within = slots_below (slots p j) test own counts_for

    raised : slice_index (with_slots t own r.header.octets) n ≡ slice_index t n + (if is_one_of n own then r.header.octets else 0)
    raised = slots_raised (length (slots p j)) t own r.header.octets n within inside

    from : (o : Option (List ℕ)) → slice_get (slots p j) n ≡ o → slice_index (with_slots t own r.header.octets) n ≡ option_map_or (counted p (entry.Row r ∷ j)) o 0
    from None at =
        let none : (if is_one_of n own then r.header.octets else 0) ≡ 0 =
        ap (λ (b : Bool). if b then r.header.octets else 0) (past_slots (length (slots p j)) n own within (past_none (slots p j) n at)) in
        let total : slot_total p j n ≡ 0 = ap (λ o. option_map_or (counted p j) o 0) at in
        omega (arith, raised, none, is, total)
    from (Some key) at =
        let counting : counts p j key r ≡ is_one_of n own = sym (slot_is (slots p j) test own n counts_for ∙ ap (λ o. option_map_or test o false) at) in
        let total : slot_total p j n ≡ counted p j key = ap (λ o. option_map_or (counted p j) o 0) at in
        let more : counted p (entry.Row r ∷ j) key ≡ (if is_one_of n own then r.header.octets else 0) + counted p j key =
        counted_after_row p j key r ∙ ap (λ (x : Bool). (if x then r.header.octets else 0) + counted p j key) counting in
        omega (arith, raised, is, total, more)

pub counted_row : (p : Setting) (j : Journal) (i : Item) (t : List ℕ) → length (slots p j) ≤ 8 → CountsFor p j i.row i.slots.items → i.row.header.octets < 2 ^ 32 → AreCounted p j t →
    AreCounted p (entry.Row i.row ∷ j) (with_item t i)
counted_row p j i t few counts_for small is =
    let own : List Slot = i.slots.items in
    let o : ℕ = i.row.header.octets in
    let u : List ℕ = with_slots t own o in
    let low_slots : AreSlotsBelow 8 own = below_more (length (slots p j)) 8 own few (slots_below (slots p j) (λ key. counts p j key i.row) own counts_for) in
    let many : length u ≡ 10 = length_slots t own o ∙ is.ten in
    let at : (n : ℕ) → n ≢ 8 → slice_index (plus u 8 1) n ≡ slice_index u n = λ n differ. plus_other u 8 1 n differ in
    let eight : slice_index (plus u 8 1) 8 ≡ slice_index u 8 + 1 = plus_same u 8 1 (omega (arith, many)) in
    record {
      ten = length_plus u 8 1 ∙ many;
      slots_are = λ n low. at n (λ (e : n ≡ 8). absurd (omega (arith, low, e))) ∙ row_adds p j i.row own n counts_for t (omega (arith, low, is.ten)) (is.slots_are n low);
      rows_are = omega (arith, eight, slots_keep t own o 8 low_slots (omega arith), is.rows_are);
      commands_are = at 9 (λ (e : 9 ≡ 8). absurd (omega (arith, e))) ∙ slots_keep t own o 9 low_slots (omega arith) ∙ is.commands_are;
      within = λ n low.
          let same : slice_index (plus u 8 1) n ≡ slice_index u n = at n (λ (e : n ≡ 8). absurd (omega (arith, low, e))) in
          let more : slice_index u n ≤ slice_index t n + 4294967295 = slots_within 8 t own o n low_slots (omega (arith, low, is.ten)) small in
          omega (arith, same, more, is.within n low);
    }

pub counted_rows : (p : Setting) (items : List Item) (j : Journal) (t : List ℕ) → length (slots p j) ≤ 8 → HasItsSlots p j items → HasSmallRows items → AreCounted p j t →
    AreCounted p (with_rows (map row_of items) j) (with_items t items)
unfolding with_rows with_items
counted_rows p [] j t few has small is = is
counted_rows p (i ∷ items) j t few has small is =
    let P : Item → Type 0 = λ x. CountsFor p j x.row x.slots.items in
    let Q : Item → Type 0 = λ x. x.row.header.octets < 2 ^ 32 in
    let here : P i = All-head P i items has in
    counted_rows p items (entry.Row i.row ∷ j) (with_item t i) few (All-tail P i items has) (All-tail Q i items small)
    (counted_row p j i t few here (All-head Q i items small) is)

commands_flushed : (p : Setting) (j : Journal) (rs : List Row) → commands (after_flush p j rs) ≡ commands (with_rows rs j)
unfolding with_rows
commands_flushed p j [] = refl
commands_flushed p j (r ∷ rs) = commands_told p (thresholds p (with_rows (r ∷ rs) j)) (with_rows (r ∷ rs) j)

-- rows that are handed over
pub counted_flush : (p : Setting) (j : Journal) (items : List Item) (t : List ℕ) → length (slots p j) ≤ 8 → HasItsSlots p j items → HasSmallRows items → AreCounted p j t →
    AreCounted p (after_flush p j (map row_of items)) (with_items t items)
counted_flush p j items t few has small is =
    let rs : List Row = map row_of items in
    counted_kept p (with_rows rs j) (after_flush p j rs) (with_items t items) (tables_after_flush p j rs ∙ sym (tables_after_rows rs j))
    (rows_after_flush p j rs) (commands_flushed p j rs) (counted_rows p items j t few has small is)
