-- Rows that are handed over under the lock.
use Rattle.std.proofs.Common.{◌≡◌, ◌∙◌, ◌≤◌, ◌<◌, ◌+◌, ◌*◌, ◌^◌, ℕ, true, List, [], ◌∷◌, All, length, map, refl, sym, ap, subst, arith, None}
use Rattle.std.specs.Prelude.{slice_index}
use Rattle.std.proofs.lemmas.List.{length-map}
use Rattle.std.proofs.lemmas.List.Elements.{All-weaker}
use mathlib.Core.List.{IsPrefix}
use Rattle.pcef_table.specs.Tables.{TableValue}
use Rattle.pcef_model.specs.declared.entry.Entry.TheVariants as entry
use Rattle.pcef_model.specs.declared.row.Row.{Row}
use Rattle.pcef_model.specs.Entries.{Journal, rows}
use Rattle.pcef_model.specs.Journals.{attach_count, counts, lane_len, slots}
use Rattle.pcef_model.specs.Lawful.{BatchFollows}
use Rattle.pcef_model.specs.Refusals.{first_of, flush_refusals}
use Rattle.pcef_model.specs.Reports.{after_flush, after_leave, with_rows}
use Rattle.pcef_model.specs.Setting.{Setting}
use Rattle.pcef_model.specs.Slots.{AreSlotsBelow, CountsFor}
use Rattle.pcef_model.proofs.SlotsOf.{slots_below}
use Rattle.pcef_model.proofs.SlotsLater.{below_more}
use Rattle.pcef_model.proofs.Lanes.{lane_few}
use Rattle.pcef_model.proofs.JournalExtends.{attach_count_after_flush, flushed_fits, rows_after_flush, tables_after_flush}
use Rattle.pcef_session.specs.declared.batch.Item.{Item}
use Rattle.pcef_session.specs.Following.{HasItsSlots, HasSmallRows, row_of}
use Rattle.pcef_session.specs.SessionModel.{SessionModel}
use Rattle.pcef_share.specs.Amounts.{Account}
use Rattle.pcef_handover.specs.Counting.{AreCounted, with_items}
use Rattle.pcef_lock.specs.Judging.{AllJudged}
use Rattle.pcef_handover.specs.Lanes.{continues_lane}
use Rattle.pcef_lock.specs.Published.{ArePublished}
use Rattle.pcef_lock.specs.private.Soundness.{IsSound}
use Rattle.pcef_lock.proofs.Continued.{batch_follows}
use Rattle.pcef_lock.proofs.Counted.{counted_flush, counted_kept}
use Rattle.pcef_lock.proofs.Judged.{all_right, right_slots}
use Rattle.pcef_lock.proofs.Keeps.{locked, own_sound, sound_after}
use Rattle.pcef_lock.proofs.Publications.{published_same}

-- the rows of a lane, and `n` more, fit 64 bits
pub end_fits : (p : Setting) (first : ℕ) (s : SessionModel) (ts : List TableValue) (b : Account) (places free worker m n : ℕ) → IsSound p first (locked s ts b places) free → m ≡ lane_len s.journal worker → n ≤ 32 → m + n < 2 ^ 64
end_fits p first s ts b places free worker m n is m_is small = omega (arith, m_is, lane_few worker (rows s.journal), is.few_rows, is.most_rows, small)

-- ---- what a flush asks for
pub record IsHandedWell (s : SessionModel) (worker : ℕ) (items : List Item) : Type 0 where
  pub has : HasItsSlots s.setting s.journal items
  pub follows : BatchFollows s.setting s.journal worker (map row_of items)

pub handed_well : (p : Setting) (first : ℕ) (s : SessionModel) (ts seen : List TableValue) (b : Account) (places free worker : ℕ) (items : List Item) → IsSound p first (locked s ts b places) free →
    continues_lane s.journal worker items ≡ true → IsPrefix seen ts → AllJudged p first seen items → IsHandedWell s worker items
handed_well p first s ts seen b places free worker items is goes_on begins all =
    let q : Setting = s.setting in
    let j : Journal = s.journal in
    let published : ArePublished q j first ts = (own_sound p first s ts b places free is).kept.published in
    let own : AllJudged q first seen items = subst (λ (x : Setting). AllJudged x first seen items) (sym is.kept.setting_is) all in
    let right = all_right q j first ts seen items published begins own in
    record { has = right_slots q j items right; follows = batch_follows q j worker items right goes_on }

pub all_low : (p : Setting) (j : Journal) (items : List Item) → length (slots p j) ≤ 8 → HasItsSlots p j items → All (λ (i : Item). AreSlotsBelow 8 i.slots.items) items
all_low p j items few has =
    All-weaker (λ (i : Item). CountsFor p j i.row i.slots.items) (λ (i : Item). AreSlotsBelow 8 i.slots.items)
    (λ i own. below_more (length (slots p j)) 8 i.slots.items few (slots_below (slots p j) (λ key. counts p j key i.row) i.slots.items own)) items has

-- what is added to the books fits them
rows_fit : (p : Setting) (first : ℕ) (s : SessionModel) (ts : List TableValue) (b : Account) (places free worker : ℕ) (items : List Item) → IsSound p first (locked s ts b places) free →
    first_of (flush_refusals s.setting s.journal worker (length (map row_of items))) ≡ None → length (rows s.journal) + length items ≤ 4294967295
rows_fit p first s ts b places free worker items is accepted =
    let fits : length (rows s.journal) + length (map row_of items) ≤ s.setting.rows = (flushed_fits s.setting worker (length (map row_of items)) s.journal accepted).1 in
    omega (arith, fits, length-map items row_of, is.most_rows, ap (λ (q : Setting). q.rows) is.kept.setting_is)

pub octets_fit : (p : Setting) (first : ℕ) (s : SessionModel) (ts : List TableValue) (b : Account) (places free worker : ℕ) (items : List Item) (n : ℕ) → IsSound p first (locked s ts b places) free →
    first_of (flush_refusals s.setting s.journal worker (length (map row_of items))) ≡ None → n < 8 → slice_index b.totals n + 4294967295 * length items < 2 ^ 64
octets_fit p first s ts b places free worker items n is accepted low =
    omega (arith, rows_fit p first s ts b places free worker items is accepted, is.kept.counted.within n low)

-- ---- what always holds, after rows were taken over
rows_with : (rs : List Row) (j : Journal) → length (rows (with_rows rs j)) ≡ length rs + length (rows j)
unfolding with_rows
rows_with [] j = omega arith
rows_with (r ∷ rs) j = let more = rows_with rs (entry.Row r ∷ j) in omega (arith, more)

own_taken : (first : ℕ) (s t : SessionModel) (ts : List TableValue) (b c : Account) (places free worker : ℕ) (items : List Item) → length (slots s.setting s.journal) ≤ 8 → HasItsSlots s.setting s.journal items → HasSmallRows items →
    first_of (flush_refusals s.setting s.journal worker (length (map row_of items))) ≡ None → t.journal ≡ after_flush s.setting s.journal (map row_of items) → t.setting ≡ s.setting →
    c ≡ record b { totals = with_items b.totals items } → IsSound s.setting first (locked s ts b places) free → IsSound s.setting first (locked t ts c places) free
own_taken first s t ts b c places free worker items few has small accepted journal setting books is =
    let p : Setting = s.setting in
    let j : Journal = s.journal in
    let rs : List Row = map row_of items in
    let k : Journal = after_flush p j rs in
    let count : length (rows k) ≡ length rs + length (rows j) = ap length (rows_after_flush p j rs) ∙ rows_with rs j in
    let fits : length (rows j) + length rs ≤ p.rows = (flushed_fits p worker (length rs) j accepted).1 in
    let few_rows : length (rows k) ≤ p.rows = omega (arith, count, fits) in
    let issued : c.issued ≡ b.issued = ap (λ (x : Account). x.issued) books in
    let totals : AreCounted p k c.totals = subst (AreCounted p k) (sym (ap (λ (x : Account). x.totals) books)) (counted_flush p j items b.totals few has small is.kept.counted) in
    sound_after p first s t ts ts b c places free free setting
    (subst (λ x. ArePublished p x first ts) (sym journal) (published_same p j k first ts (tables_after_flush p j rs) is.kept.published))
    (subst (λ x. AreCounted p x c.totals) (sym journal) totals)
    (issued ∙ is.issued_is ∙ ap (λ n. n + 1) (sym (attach_count_after_flush p j rs)) ∙ ap (λ x. attach_count x + 1) (sym journal))
    (omega (arith, issued, is.free_are)) (subst (λ x. length (rows x) ≤ p.rows) (sym journal) few_rows) is

pub sound_taken : (p : Setting) (first : ℕ) (s t : SessionModel) (ts : List TableValue) (b c : Account) (places free worker : ℕ) (items : List Item) → length (slots s.setting s.journal) ≤ 8 → HasItsSlots s.setting s.journal items → HasSmallRows items →
    first_of (flush_refusals s.setting s.journal worker (length (map row_of items))) ≡ None → t.journal ≡ after_flush s.setting s.journal (map row_of items) → t.setting ≡ s.setting →
    c ≡ record b { totals = with_items b.totals items } → IsSound p first (locked s ts b places) free → IsSound p first (locked t ts c places) free
sound_taken p first s t ts b c places free worker items few has small accepted journal setting books is =
    subst (λ q. IsSound q first (locked t ts c places) free) is.kept.setting_is
    (own_taken first s t ts b c places free worker items few has small accepted journal setting books (own_sound p first s ts b places free is))

-- and after a worker left
pub sound_left : (p : Setting) (first : ℕ) (s t : SessionModel) (ts : List TableValue) (b : Account) (places free worker : ℕ) → t.journal ≡ after_leave worker s.journal → t.setting ≡ s.setting →
    IsSound p first (locked s ts b places) free → IsSound p first (locked t ts b places) free
unfolding attach_count
sound_left p first s t ts b places free worker journal setting is =
    let k : Journal = after_leave worker s.journal in
    sound_after p first s t ts ts b b places free free setting
    (subst (λ x. ArePublished p x first ts) (sym journal) (published_same p s.journal k first ts refl is.kept.published))
    (subst (λ x. AreCounted p x b.totals) (sym journal) (counted_kept p s.journal k b.totals refl refl refl is.kept.counted))
    (is.issued_is ∙ ap (λ x. attach_count x + 1) (sym journal)) is.free_are (subst (λ x. length (rows x) ≤ p.rows) (sym journal) is.few_rows) is
