-- The ends of lanes, as a journal grows.
use Rattle.std.proofs.Common.{◌≡◌, ◌∙◌, ◌≤◌, ◌<◌, ◌+◌, ◌++◌, ◌==◌, ◌||◌, ℕ, suc, zero, List, [], ◌∷◌, true, false, length, refl, sym, ap, arith, inl, inr, set, get_or, Some}
use Rattle.std.specs.Prelude.{All, MatchOption, filter, nat_lt, not, slice_get}
use Rattle.std.specs.Option.{option_map_or}
use Rattle.std.specs.List.{list_any}
use Rattle.std.proofs.lemmas.Bool.{cases_Bool, eq-eqb, eqb-true, ltb-false, ltb-true}
use Rattle.std.proofs.lemmas.List.Elements.{All-head, All-tail}
use Rattle.std.proofs.lemmas.Option.{slice_get_past}
use Rattle.pcef_base.proofs.Tests.{contrary}
use Rattle.pcef_model.specs.declared.entry.Entry.TheVariants as entry
use Rattle.pcef_model.specs.declared.row.Row.{Row}
use Rattle.pcef_model.specs.Entries.{Journal, lane}
use Rattle.pcef_model.specs.Journals.{attach_count, attached, lane_len}
use Rattle.pcef_model.specs.Lawful.{newest_generation}
use Rattle.pcef_model.specs.Refusals.{is_attached}
use Rattle.pcef_model.specs.Reports.{with_rows}
use Rattle.pcef_model.proofs.Lanes.{lane_len_with, lane_other}
use Rattle.pcef_journal.specs.declared.lanes.LaneEnd.{LaneEnd}
use Rattle.pcef_journal.specs.Lanes.{LanesAgree, just_attached, end_of, ends_from, lane_end, last_generation, left, lengthened, present}
use Rattle.pcef_journal.proofs.Present.{none_past, other_number, own_number, present_come, present_count, present_leave, present_lengthen}

-- ---- the ends from one worker on
pub ends_length : (j : Journal) (first n : ℕ) → length (ends_from j first n) ≡ n
ends_length j first zero = refl
ends_length j first (suc n) = ap suc (ends_length j (suc first) n)

pub ends_at : (j : Journal) (first n place : ℕ) (other : LaneEnd) → place < n → get_or (ends_from j first n) place other ≡ lane_end j (first + place)
ends_at j first zero place other within = absurd (omega (arith, within))
ends_at j first (suc n) zero other within = ap (lane_end j) (omega arith)
ends_at j first (suc n) (suc place) other within =
    ends_at j (suc first) n place other (omega (arith, within)) ∙ ap (lane_end j) (omega arith)

pub ends_same : (j k : Journal) (first n : ℕ) → ((w : ℕ) → w < first + n → lane_end k w ≡ lane_end j w) → ends_from k first n ≡ ends_from j first n
ends_same j k first zero same = refl
ends_same j k first (suc n) same =
    ap (λ end. end ∷ ends_from k (suc first) n) (same first (omega arith))
    ∙ ap (λ ends. lane_end j first ∷ ends) (ends_same j k (suc first) n (λ w within. same w (omega (arith, within))))

pub ends_more : (j : Journal) (first n : ℕ) → ends_from j first n ++ lane_end j (first + n) ∷ [] ≡ ends_from j first (suc n)
ends_more j first zero = ap (λ w. lane_end j w ∷ []) (omega arith)
ends_more j first (suc n) =
    ap (λ ends. lane_end j first ∷ ends) (ap (λ w. ends_from j (suc first) n ++ lane_end j w ∷ []) (omega arith) ∙ ends_more j (suc first) n)

-- one end changes
pub ends_set : (j k : Journal) (first n place : ℕ) (end : LaneEnd) → place < n → end ≡ lane_end k (first + place) →
    ((w : ℕ) → (w ≡ first + place → ⊥) → lane_end k w ≡ lane_end j w) → set (ends_from j first n) place end ≡ ends_from k first n
ends_set j k first zero place end within is same = absurd (omega (arith, within))
ends_set j k first (suc n) zero end within is same =
    ap (λ e. e ∷ ends_from j (suc first) n) (is ∙ ap (lane_end k) (omega arith)) ∙ ap (λ ends. lane_end k first ∷ ends) (sym (later (suc first) n (omega arith)))
  where
    later : (from m : ℕ) → first < from → ends_from k from m ≡ ends_from j from m
    later from zero past = refl
    later from (suc m) past =
        ap (λ e. e ∷ ends_from k (suc from) m) (same from (λ here. omega (arith, past, here)))
        ∙ ap (λ ends. lane_end j from ∷ ends) (later (suc from) m (omega (arith, past)))
ends_set j k first (suc n) (suc place) end within is same =
    ap (λ e. e ∷ set (ends_from j (suc first) n) place end) (sym (same first (λ here. omega (arith, here))))
    ∙ ap (λ ends. lane_end k first ∷ ends)
    (ends_set j k (suc first) n place end (omega (arith, within)) (is ∙ ap (lane_end k) (omega arith)) (λ w differ. same w (λ here. differ (omega (arith, here)))))

-- ---- one end
abbrev end_by : List Row → List ℕ → ℕ → LaneEnd
end_by rows numbers worker = record {
  rows = length rows;
  newest_generation = newest_generation rows;
  attached = list_any (λ w. w == worker) numbers;
}

end_same : (j k : Journal) (worker : ℕ) → attached k ≡ attached j → lane k worker ≡ lane j worker → lane_end k worker ≡ lane_end j worker
end_same j k worker numbers rows =
    ap (λ ns. end_by (lane k worker) ns worker) numbers ∙ ap (λ rs. end_by rs (attached j) worker) rows

-- ---- agreement
pub lanes_first : LanesAgree [] []
unfolding attach_count attached
lanes_first = record { ends_are = refl; attached_are = refl }

-- where no worker is attached and no row is added
pub lanes_same : (j k : Journal) (lanes : List LaneEnd) → attach_count k ≡ attach_count j → attached k ≡ attached j → ((w : ℕ) → lane k w ≡ lane j w) →
    LanesAgree j lanes → LanesAgree k lanes
lanes_same j k lanes count numbers rows agree = record {
  ends_are = agree.ends_are ∙ sym (ap (ends_from k 0) count ∙ ends_same j k 0 (attach_count j) (λ w within. end_same j k w numbers (rows w)));
  attached_are = numbers ∙ agree.attached_are;
}

pub lanes_count : (j : Journal) (lanes : List LaneEnd) → LanesAgree j lanes → length lanes ≡ attach_count j
lanes_count j lanes agree = ap length agree.ends_are ∙ ends_length j 0 (attach_count j)

-- a worker is attached
come_other : (j : Journal) (n w : ℕ) → w < n → lane_end (entry.Attach n ∷ j) w ≡ lane_end j w
unfolding attached
come_other j n w below = ap (λ b. record { rows = length (lane j w); newest_generation = newest_generation (lane j w); attached = b || is_attached j w })
    (other_number n w (λ same. omega (arith, below, same)))

come_new : (j : Journal) (n : ℕ) → lane j n ≡ [] → lane_end (entry.Attach n ∷ j) n ≡ just_attached
unfolding attached
come_new j n none =
    ap (λ rs. end_by rs (n ∷ attached j) n) none ∙ ap (λ b. record { rows = 0; newest_generation = 0; attached = b || is_attached j n }) (own_number n)

pub lanes_come : (j : Journal) (n : ℕ) (lanes : List LaneEnd) → n ≡ attach_count j → lane j n ≡ [] → LanesAgree j lanes → LanesAgree (entry.Attach n ∷ j) (lanes ++ just_attached ∷ [])
unfolding attach_count attached
lanes_come j n lanes is none agree =
    let many = lanes_count j lanes agree in
    let next : n ≡ 0 + length lanes = omega (arith, is, many) in
    let own : n ≡ 0 + n = omega arith in
    let more : suc n ≡ attach_count j + 1 = omega (arith, is) in
    record {
      ends_are =
          ap (λ ends. ends ++ just_attached ∷ []) (agree.ends_are ∙ ap (ends_from j 0) (sym is) ∙ sym (ends_same j (entry.Attach n ∷ j) 0 n (λ w within. come_other j n w (omega (arith, within)))))
          ∙ ap (λ end. ends_from (entry.Attach n ∷ j) 0 n ++ end ∷ []) (sym (come_new j n none) ∙ ap (lane_end (entry.Attach n ∷ j)) own)
          ∙ ends_more (entry.Attach n ∷ j) 0 n ∙ ap (ends_from (entry.Attach n ∷ j) 0) more;
      attached_are = ap (λ ns. n ∷ ns) agree.attached_are ∙ ap (λ m. m ∷ present 0 lanes) next ∙ sym (present_come 0 lanes);
    }

-- a worker leaves
pub leave_other : (j : Journal) (n w : ℕ) (ns : List ℕ) → (w ≡ n → ⊥) → list_any (λ v. v == w) (filter (λ v. not (v == n)) ns) ≡ list_any (λ v. v == w) ns
leave_other j n w [] differ = refl
leave_other j n w (m ∷ ns) differ =
    elim (cases_Bool (m == n)) [
      | inl same ↦
          let is : m ≡ n = eqb-true m n same in
          rw (same, other_number m w (λ here. differ (sym here ∙ is))) (leave_other j n w ns differ)
      | inr other ↦ rw other (ap (λ b. (m == w) || b) (leave_other j n w ns differ))
    ]

leave_own : (n : ℕ) (ns : List ℕ) → list_any (λ v. v == n) (filter (λ v. not (v == n)) ns) ≡ false
leave_own n [] = refl
leave_own n (m ∷ ns) =
    elim (cases_Bool (m == n)) [
      | inl same ↦ rw same (leave_own n ns)
      | inr other ↦ rw (other, other) (leave_own n ns)
    ]

pub lanes_leave : (j : Journal) (n : ℕ) (lanes : List LaneEnd) → n < length lanes → LanesAgree j lanes →
    LanesAgree (entry.Leave n ∷ j) (set lanes n (left (get_or lanes n just_attached)))
unfolding attach_count attached
lanes_leave j n lanes within agree =
    let count = lanes_count j lanes agree in
    let there : n < attach_count j = omega (arith, within, count) in
    let end : get_or lanes n just_attached ≡ lane_end j n =
    ap (λ ends. get_or ends n just_attached) agree.ends_are ∙ ends_at j 0 (attach_count j) n just_attached there ∙ ap (lane_end j) (omega arith) in
    record {
      ends_are =
          ap (λ ends. set ends n (left (get_or lanes n just_attached))) agree.ends_are
          ∙ ends_set j (entry.Leave n ∷ j) 0 (attach_count j) n (left (get_or lanes n just_attached)) there
          (ap left end ∙ ap (λ b. record { rows = length (lane j n); newest_generation = newest_generation (lane j n); attached = b }) (sym (leave_own n (attached j)))
          ∙ ap (lane_end (entry.Leave n ∷ j)) (omega arith))
          (λ w differ. ap (λ b. record { rows = length (lane j w); newest_generation = newest_generation (lane j w); attached = b })
          (leave_other j n w (attached j) (λ same. differ (omega (arith, same)))));
      attached_are =
          ap (filter (λ v. not (v == n))) agree.attached_are ∙ present_leave 0 lanes n n within (omega arith);
    }

-- ---- rows
newest_with : (n : ℕ) (rs : List Row) (j : Journal) → All (λ r. r.worker ≡ n) rs →
    newest_generation (lane (with_rows rs j) n) ≡ last_generation (newest_generation (lane j n)) rs
unfolding with_rows
newest_with n [] j own = refl
newest_with n (r ∷ rs) j own =
    let P : Row → Type 0 = λ x. x.worker ≡ n in
    let mine : (r.worker == n) ≡ true = eq-eqb r.worker n (All-head P r rs own) in
    let one : newest_generation (lane (entry.Row r ∷ j) n) ≡ r.generation = rw mine refl in
    newest_with n rs (entry.Row r ∷ j) (All-tail P r rs own) ∙ ap (λ g. last_generation g rs) one

pub count_with : (rs : List Row) (j : Journal) → attach_count (with_rows rs j) ≡ attach_count j
unfolding with_rows attach_count
count_with [] j = refl
count_with (r ∷ rs) j = count_with rs (entry.Row r ∷ j)

pub attached_with : (rs : List Row) (j : Journal) → attached (with_rows rs j) ≡ attached j
unfolding with_rows attached
attached_with [] j = refl
attached_with (r ∷ rs) j = attached_with rs (entry.Row r ∷ j)

-- a worker's rows lengthen its lane and no other
pub lanes_rows : (j : Journal) (n : ℕ) (rs : List Row) (lanes : List LaneEnd) → n < length lanes → All (λ r. r.worker ≡ n) rs → LanesAgree j lanes →
    LanesAgree (with_rows rs j)
    (set lanes n (lengthened (length rs) (last_generation (get_or lanes n just_attached).newest_generation rs) (get_or lanes n just_attached)))
lanes_rows j n rs lanes within own agree =
    let k : Journal = with_rows rs j in
    let count = lanes_count j lanes agree in
    let there : n < attach_count j = omega (arith, within, count) in
    let end : get_or lanes n just_attached ≡ lane_end j n =
    ap (λ ends. get_or ends n just_attached) agree.ends_are ∙ ends_at j 0 (attach_count j) n just_attached there ∙ ap (lane_end j) (omega arith) in
    let grown : LaneEnd → LaneEnd = λ e. lengthened (length rs) (last_generation e.newest_generation rs) e in
    let more : length (lane j n) + length rs ≡ length (lane k n) = let all = lane_len_with n rs j own in omega (arith, all) in
    let after : grown (lane_end j n) ≡ lane_end k n =
    ap (λ m. record { rows = m; newest_generation = last_generation (newest_generation (lane j n)) rs; attached = is_attached j n }) more
    ∙ ap (λ g. record { rows = length (lane k n); newest_generation = g; attached = is_attached j n }) (sym (newest_with n rs j own))
    ∙ ap (λ ns. end_by (lane k n) ns n) (sym (attached_with rs j)) in
    record {
      ends_are =
          ap (λ ends. set ends n (grown (get_or lanes n just_attached))) agree.ends_are
          ∙ ends_set j k 0 (attach_count j) n (grown (get_or lanes n just_attached)) there (ap grown end ∙ after ∙ ap (lane_end k) (omega arith))
          (λ w differ. end_same j k w (attached_with rs j) (lane_other w n rs j (other_number n w (λ same. differ (omega (arith, same)))) own))
          ∙ ap (ends_from k 0) (sym (count_with rs j));
      attached_are =
          attached_with rs j ∙ agree.attached_are
          ∙ sym (present_lengthen 0 lanes n (length rs) (last_generation (get_or lanes n just_attached).newest_generation rs) within);
    }

-- ---- what the ends hold
slice_get_at : (es : List LaneEnd) (place : ℕ) (other : LaneEnd) → place < length es → slice_get es place ≡ Some (get_or es place other)
slice_get_at [] place other within = absurd (omega (arith, within))
slice_get_at (e ∷ es) zero other within = refl
slice_get_at (e ∷ es) (suc place) other within = slice_get_at es place other (omega (arith, within))

-- whether a worker is attached
pub attached_is : (j : Journal) (lanes : List LaneEnd) (worker : ℕ) → LanesAgree j lanes →
    is_attached j worker ≡ option_map_or (λ (end : LaneEnd). end.attached) (end_of lanes worker) false
attached_is j lanes worker agree =
    elim (cases_Bool (nat_lt worker (length lanes))) [
      | inl is ↦
          let within : worker < length lanes = ltb-true worker (length lanes) is in
          let count = lanes_count j lanes agree in
          let end : get_or lanes worker just_attached ≡ lane_end j worker =
          ap (λ ends. get_or ends worker just_attached) agree.ends_are ∙ ends_at j 0 (attach_count j) worker just_attached (omega (arith, within, count)) ∙ ap (lane_end j) (omega arith) in
          sym (ap (λ o. option_map_or (λ (e : LaneEnd). e.attached) o false) (slice_get_at lanes worker just_attached within ∙ ap (λ (e : LaneEnd). Some e) end))
      | inr isnt ↦
          let past : length lanes ≤ worker = ltb-false worker (length lanes) isnt in
          ap (list_any (λ w. w == worker)) agree.attached_are ∙ none_past 0 lanes worker (omega (arith, past))
          ∙ sym (ap (λ o. option_map_or (λ (e : LaneEnd). e.attached) o false) (slice_get_past lanes worker past))
    ]

-- an attached worker was attached at some time
pub attached_came : (j : Journal) (lanes : List LaneEnd) (worker : ℕ) → LanesAgree j lanes → is_attached j worker ≡ true → worker < length lanes
attached_came j lanes worker agree is =
    elim (cases_Bool (nat_lt worker (length lanes))) [
      | inl within ↦ ltb-true worker (length lanes) within
      | inr isnt ↦
          contrary (is_attached j worker) is
          (ap (list_any (λ w. w == worker)) agree.attached_are ∙ none_past 0 lanes worker (let past = ltb-false worker (length lanes) isnt in omega (arith, past)))
    ]

-- how many workers are attached
pub attached_len : (j : Journal) (lanes : List LaneEnd) → LanesAgree j lanes → length (attached j) ≡ length (filter (λ (end : LaneEnd). end.attached) lanes)
attached_len j lanes agree = ap length agree.attached_are ∙ present_count 0 lanes

-- where the lane of a worker that was attached ends
pub end_is : (j : Journal) (lanes : List LaneEnd) (worker : ℕ) → LanesAgree j lanes → worker < length lanes → get_or lanes worker just_attached ≡ lane_end j worker
end_is j lanes worker agree within =
    let count = lanes_count j lanes agree in
    ap (λ ends. get_or ends worker just_attached) agree.ends_are ∙ ends_at j 0 (attach_count j) worker just_attached (omega (arith, within, count)) ∙ ap (lane_end j) (omega arith)

-- the end of a worker's lane, where the worker was ever attached
pub end_found : (j : Journal) (lanes : List LaneEnd) (worker : ℕ) → LanesAgree j lanes →
    MatchOption (end_of lanes worker) (attach_count j ≤ worker) (λ end. (worker < attach_count j) × (end ≡ lane_end j worker))
end_found j lanes worker agree =
    let count = lanes_count j lanes agree in
    elim (cases_Bool (nat_lt worker (length lanes))) [
      | inl is ↦
          let within : worker < length lanes = ltb-true worker (length lanes) is in
          let there : end_of lanes worker ≡ Some (lane_end j worker) =
          slice_get_at lanes worker just_attached within ∙ ap (λ (e : LaneEnd). Some e) (end_is j lanes worker agree within) in
          rw there (omega (arith, within, count), refl)
      | inr isnt ↦
          let past : length lanes ≤ worker = ltb-false worker (length lanes) isnt in
          rw (slice_get_past lanes worker past) (omega (arith, past, count))
    ]

-- how many rows a worker has, where a lane that isn't there is empty
pub rows_is : (j : Journal) (lanes : List LaneEnd) (worker : ℕ) → LanesAgree j lanes → (attach_count j ≤ worker → lane j worker ≡ []) →
    option_map_or (λ (end : LaneEnd). end.rows) (end_of lanes worker) 0 ≡ lane_len j worker
rows_is j lanes worker agree absent =
    let count = lanes_count j lanes agree in
    elim (cases_Bool (nat_lt worker (length lanes))) [
      | inl is ↦
          let within : worker < length lanes = ltb-true worker (length lanes) is in
          ap (λ o. option_map_or (λ (e : LaneEnd). e.rows) o 0) (slice_get_at lanes worker just_attached within ∙ ap (λ (e : LaneEnd). Some e) (end_is j lanes worker agree within))
      | inr isnt ↦
          let past : length lanes ≤ worker = ltb-false worker (length lanes) isnt in
          ap (λ o. option_map_or (λ (e : LaneEnd). e.rows) o 0) (slice_get_past lanes worker past) ∙ sym (ap length (absent (omega (arith, past, count))))
    ]
