-- What always holds of a worker stays as the journal grows, and as the worker works.
use Rattle.pcef_journal.proofs.LaneEnds.{leave_other}
use Rattle.std.proofs.Common.{◌≡◌, ◌∙◌, ◌≤◌, ◌+◌, ℕ, true, false, ◌==◌, List, [], ◌∷◌, ◌++◌, All, length, filter, map, refl, sym, ap, subst, arith, None}
use Rattle.std.specs.Prelude.{◌||◌, slice_index_or}
use Rattle.std.specs.List.{list_any}
use Rattle.std.proofs.lemmas.Bool.{eq-eqb}
use Rattle.std.proofs.lemmas.List.{length-map, map-append}
use Rattle.std.proofs.lemmas.List.Elements.{All-cons, All-nil, All-push}
use Rattle.pcef_packet.specs.declared.header.Header.{Header}
use Rattle.pcef_model.specs.declared.verdict.Verdict.{Verdict}
use Rattle.pcef_model.specs.declared.entry.Entry.TheVariants as entry
use Rattle.pcef_model.specs.declared.row.Row.{Row}
use Rattle.pcef_model.specs.Setting.{Setting}
use Rattle.pcef_model.specs.Generations.{made_by, oldest}
use Rattle.pcef_model.specs.Entries.{Journal, lane, rows}
use Rattle.pcef_model.specs.Journals.{at, attach_count, attached, gen, verdict_at, lane_len, tables}
use Rattle.pcef_model.specs.Reports.{after_attach, after_flush, after_leave, with_rows}
use Rattle.pcef_model.proofs.AfterEvents.{tables_after_rows}
use Rattle.pcef_session.specs.declared.batch.Item.{Item}
use Rattle.pcef_world.specs.declared.worker.WorldWorker.{WorldWorker}
use Rattle.pcef_model.specs.Slots.{CountsFor}
use Rattle.pcef_session.specs.Following.{HasItsSlots, row_of}
use Rattle.pcef_model.specs.Lawful.{BatchFollows, RowFollows, RowsFollow, newest_generation}
use Rattle.pcef_model.specs.Refusals.{first_of, flush_refusals, is_attached}
use Rattle.pcef_session.specs.Shown.{Shows}
use Rattle.pcef_world.specs.Workers.{IsJudged, Waits, held_by, with_item}
use Rattle.pcef_model.proofs.Lanes.{lane_few, lane_len_with, lane_other, lane_with, with_rows_push}
use Rattle.pcef_model.proofs.JournalExtends.{JournalExtends, attached_after_flush, flushed_fits, extends_same, rows_after_flush, tables_after_flush}
use Rattle.pcef_model.proofs.RowsLater.{batch_empty, batch_later, batch_push}
use Rattle.pcef_session.proofs.ShownLater.{shows_later, shows_same}
use Rattle.pcef_session.proofs.ShownSlots.{shown_slots_of}
use Rattle.pcef_model.proofs.Decisive.{made_once}
use Rattle.pcef_session.proofs.ShownVerdicts.{shown_judges}
use Rattle.pcef_model.proofs.SlotsLater.{counts_later}

-- ---- the slots of rows that wait
-- rows that may come are of generations that were made
rows_known : (p : Setting) (j : Journal) (items : List Item) → RowsFollow p j (map row_of items) → All (λ i. i.row.generation ≤ gen j) items
unfolding RowsFollow
rows_known p j [] follow = All-nil (λ (i : Item). i.row.generation ≤ gen j)
rows_known p j (i ∷ items) follow =
    All-cons (λ (i : Item). i.row.generation ≤ gen j) i items follow.0.known (rows_known p _ items follow.1)

-- items keep their slots
slots_later : (p : Setting) (j k : Journal) (items : List Item) → JournalExtends p j k → All (λ i. i.row.generation ≤ gen j) items → HasItsSlots p j items → HasItsSlots p k items
slots_later p j k items extends known has = λ m d inside.
    let i : Item = slice_index_or items m d in
    counts_later p j k i.row i.slots.items (extends.at_is i.row.generation (known m d inside)) extends.grows (has m d inside)

-- ---- as the journal grows
-- a worker whose lane is as it was
pub waits_later : (p : Setting) (j k : Journal) (n : ℕ) (w : WorldWorker) → JournalExtends p j k → lane k n ≡ lane j n → is_attached k n ≡ is_attached j n → Waits p j n w → Waits p k n w
waits_later p j k n w extends lane_is attached_is waits = record {
  number_is = waits.number_is;
  known = omega (arith, waits.known, extends.gen_more);
  shows = shows_later p j k (held_by w).number (held_by w) (extends.at_is (held_by w).number waits.known) extends.grows waits.shows;
  follow = batch_later p n j k (map row_of w.waiting) (record { lane_is = lane_is; gen_more = extends.gen_more; at_is = extends.at_is }) waits.follow;
  slots = slots_later p j k w.waiting extends (rows_known p j w.waiting waits.follow.follow) waits.slots;
  attached = attached_is ∙ waits.attached;
  few = omega (arith, waits.few, ap length lane_is);
  not_older = subst (λ rs. newest_generation rs ≤ (held_by w).number) (sym (lane_with n (map row_of w.waiting) j k lane_is)) waits.not_older;
}

-- ---- a worker that is attached
-- its lane is empty, and nothing waits
pub waits_new : (p : Setting) (j k : Journal) (w : WorldWorker) → lane j (attach_count j) ≡ [] → k ≡ after_attach j → Shows p j (gen j) (held_by w) → w.number ≡ attach_count j →
    w.waiting ≡ [] → Waits p k (attach_count j) w
unfolding with_rows attached
waits_new p j k w new is shows number_is none =
    rw is (record {
      number_is = number_is;
      known = omega (arith, shows.number_is);
      shows = subst (λ m. Shows p (after_attach j) m (held_by w)) (sym shows.number_is) (shows_same p j (after_attach j) (gen j) (held_by w) refl shows);
      follow = rw none (batch_empty p (attach_count j) (after_attach j));
      slots = rw none (All-nil (λ (i : Item). CountsFor p (after_attach j) i.row i.slots.items));
      attached = ap (λ b. b || is_attached j (attach_count j)) (eq-eqb (attach_count j) (attach_count j) refl);
      few = omega (arith, ap length new);
      not_older = rw (none, new) (omega arith);
    })

-- ---- a packet that is taken
-- a row is made of its fields
row_of_fields : (r : Row) (worker seq generation : ℕ) (header : Header) (verdict : Verdict) → r.worker ≡ worker → r.seq ≡ seq → r.generation ≡ generation → r.header ≡ header → r.verdict ≡ verdict →
    r ≡ record { worker = worker; seq = seq; generation = generation; header = header; verdict = verdict }
row_of_fields r worker seq generation header verdict a b c d e = rw (← a, ← b, ← c, ← d, ← e) refl

-- the verdict is that of the generation that the worker holds
pub verdict_taken : (p : Setting) (j : Journal) (n : ℕ) (w : WorldWorker) (header : Header) (i : Item) → Waits p j n w → IsJudged p.catalog p.ue header (lane_len j n) w i →
    i.row.verdict ≡ verdict_at p (at p j (held_by w).number) header
verdict_taken p j n w header i waits made =
    shown_judges p j (held_by w).number (held_by w) header i.row.verdict waits.shows (made_once p (oldest (held_by w).number (tables j))) made.verdict_is

-- the row that waits then
pub row_made : (p : Setting) (j : Journal) (n : ℕ) (w : WorldWorker) (header : Header) (i : Item) → Waits p j n w → IsJudged p.catalog p.ue header (lane_len j n) w i →
    i.row ≡ record { worker = n; seq = lane_len j n + length (map row_of w.waiting); generation = (held_by w).number; header = header; verdict = verdict_at p (at p j (held_by w).number) header }
row_made p j n w header i waits made =
    row_of_fields i.row n (lane_len j n + length (map row_of w.waiting)) (held_by w).number header (verdict_at p (at p j (held_by w).number) header)
    (made.worker_is ∙ waits.number_is) (omega (arith, made.seq_is, length-map w.waiting row_of)) made.generation_is made.header_is (verdict_taken p j n w header i waits made)

-- it may come after those that wait
taken_follows : (p : Setting) (j : Journal) (n : ℕ) (w : WorldWorker) (header : Header) (r : Row) → Waits p j n w →
    r ≡ record { worker = n; seq = lane_len j n + length (map row_of w.waiting); generation = (held_by w).number; header = header; verdict = verdict_at p (at p j (held_by w).number) header } →
    RowFollows p (with_rows (map row_of w.waiting) j) r
taken_follows p j n w header r waits is =
    let rs : List Row = map row_of w.waiting in
    let same : tables (with_rows rs j) ≡ tables j = tables_after_rows rs j in
    rw is (record {
      in_lane = omega (arith, lane_len_with n rs j waits.follow.own);
      not_older = waits.not_older;
      known = omega (arith, waits.known, ap length same);
      verdict = ap (λ cs. verdict_at p (made_by p (oldest (held_by w).number cs)) header) (sym same);
    })

-- one more item waits
pub waits_take : (p : Setting) (j : Journal) (n : ℕ) (w : WorldWorker) (header : Header) (i : Item) → Waits p j n w → IsJudged p.catalog p.ue header (lane_len j n) w i → Waits p j n (with_item i w)
waits_take p j n w header i waits made =
    let rs : List Row = map row_of w.waiting in
    let all : map row_of (w.waiting ++ i ∷ []) ≡ rs ++ i.row ∷ [] = map-append row_of w.waiting (i ∷ []) in
    let own : i.row.worker ≡ n = made.worker_is ∙ waits.number_is in
    let mine : (i.row.worker == n) ≡ true = eq-eqb i.row.worker n own in
    let longer : with_rows (map row_of (w.waiting ++ i ∷ [])) j ≡ entry.Row i.row ∷ with_rows rs j = ap (λ xs. with_rows xs j) all ∙ with_rows_push rs i.row j in
    let follows = taken_follows p j n w header i.row waits (row_made p j n w header i waits made) in
    let counting : CountsFor p j i.row i.slots.items =
    rw (made.generation_is, made.header_is, made.slots_are)
    (shown_slots_of p j (held_by w).number (held_by w) header i.row.verdict waits.shows (made_once p (oldest (held_by w).number (tables j))) (verdict_taken p j n w header i waits made)) in
    record {
      number_is = waits.number_is;
      known = waits.known;
      shows = waits.shows;
      follow = subst (BatchFollows p j n) (sym all) (batch_push p n j rs i.row waits.follow own follows);
      slots = All-push (λ (x : Item). CountsFor p j x.row x.slots.items) w.waiting i waits.slots counting;
      attached = waits.attached;
      few = waits.few;
      not_older = rw (longer, mine) (omega (arith, made.generation_is));
    }

-- ---- the newest generation is taken
-- its rows go on waiting
pub waits_refresh : (p : Setting) (j : Journal) (n : ℕ) (w new : WorldWorker) → Waits p j n w → Shows p j (gen j) (held_by new) → new.number ≡ w.number → new.waiting ≡ w.waiting → Waits p j n new
waits_refresh p j n w new waits shows number_is waiting_is = record {
  number_is = number_is ∙ waits.number_is;
  known = omega (arith, shows.number_is);
  shows = subst (λ m. Shows p j m (held_by new)) (sym shows.number_is) shows;
  follow = rw waiting_is waits.follow;
  slots = rw waiting_is waits.slots;
  attached = waits.attached;
  few = waits.few;
  not_older = rw waiting_is (omega (arith, waits.not_older, waits.known, shows.number_is));
}

-- ---- rows that are taken over
-- those of the worker itself
pub waits_flushed : (p : Setting) (j k : Journal) (n : ℕ) (w : WorldWorker) → Waits p j n w → first_of (flush_refusals p j n (length (map row_of w.waiting))) ≡ None →
    k ≡ after_flush p j (map row_of w.waiting) → Waits p k n (record w { waiting = [] })
unfolding with_rows
waits_flushed p j k n w waits accepted is =
    let rs : List Row = map row_of w.waiting in
    let lane_is : lane k n ≡ lane (with_rows rs j) n = ap (filter (λ (r : Row). r.worker == n)) (ap rows is ∙ rows_after_flush p j rs) in
    let same : tables k ≡ tables j = ap tables is ∙ tables_after_flush p j rs in
    let longer : lane_len k n ≡ length rs + lane_len j n = ap length lane_is ∙ lane_len_with n rs j waits.follow.own in
    let fits : length (rows j) + length rs ≤ p.rows = (flushed_fits p n (length rs) j accepted).1 in
    record {
      number_is = waits.number_is;
      known = omega (arith, waits.known, ap length same);
      shows = shows_same p j k (held_by w).number (held_by w) same waits.shows;
      follow = batch_empty p n k;
      slots = All-nil (λ (i : Item). CountsFor p k i.row i.slots.items);
      attached = ap (λ ns. list_any (λ v. v == n) ns) (ap attached is ∙ attached_after_flush p j rs) ∙ waits.attached;
      few = omega (arith, longer, fits, lane_few n (rows j));
      not_older = subst (λ xs. newest_generation xs ≤ (held_by w).number) (sym lane_is) waits.not_older;
    }

-- and those of another
pub waits_beside : (p : Setting) (j k : Journal) (n m : ℕ) (rs : List Row) (w : WorldWorker) → Waits p j n w → (m == n) ≡ false → All (λ r. r.worker ≡ m) rs → k ≡ after_flush p j rs →
    Waits p k n w
waits_beside p j k n m rs w waits differ own is =
    let lane_is : lane k n ≡ lane j n = ap (filter (λ (r : Row). r.worker == n)) (ap rows is ∙ rows_after_flush p j rs) ∙ lane_other n m rs j differ own in
    let same : tables k ≡ tables j = ap tables is ∙ tables_after_flush p j rs in
    waits_later p j k n w (extends_same p j k same) lane_is (ap (λ ns. list_any (λ v. v == n) ns) (ap attached is ∙ attached_after_flush p j rs)) waits

-- ---- another worker leaves
pub waits_left : (p : Setting) (j : Journal) (n m : ℕ) (w : WorldWorker) → (n ≡ m → ⊥) → Waits p j n w → Waits p (after_leave m j) n w
unfolding attached
waits_left p j n m w differ waits =
    waits_later p j (after_leave m j) n w (extends_same p j (after_leave m j) refl) refl (leave_other j m n (attached j) differ) waits
