-- Workers that are attached and leave, and the room that each leaving has.
use Rattle.std.proofs.Common.{Bool}
use Rattle.std.proofs.Common.{◌≡◌, ◌∙◌, ◌≤◌, ◌<◌, ◌+◌, ℕ, List, [], ◌∷◌, length, refl, sym, ap, arith, inl, inr, Ok, Err, Some, None, true, false}
use Rattle.std.specs.Result.{is_err}
use Rattle.std.specs.Prelude.{All, OnOk, Option, Result, filter, nat_le, nat_lt, ◌||◌, ◌==◌, if◌then◌else◌}
use Rattle.std.specs.List.{list_any}
use Rattle.std.proofs.lemmas.Bool.{le-leb, le-ltb, leb-false, lt-leb, lt-ltb}
use Rattle.pcef_model.specs.declared.entry.Entry.TheVariants as entry
use Rattle.pcef_model.specs.declared.row.Row.{Row}
use Rattle.pcef_model.specs.declared.answer.AttachFault.{AttachFault}
use Rattle.pcef_model.specs.declared.answer.AttachFault.TheVariants as attach
use Rattle.pcef_model.specs.declared.answer.FlushRefusal.{FlushRefusal}
use Rattle.pcef_model.specs.declared.answer.FlushRefusal.TheVariants as flush
use Rattle.pcef_model.specs.declared.answer.Refusal.TheVariants as refusal
use Rattle.pcef_model.specs.declared.command.Command.{Command}
use Rattle.pcef_model.specs.declared.command.Command.TheVariants.{Terminate}
use Rattle.pcef_model.specs.Setting.{Setting}
use Rattle.pcef_model.specs.Entries.{Journal, commands, rows}
use Rattle.pcef_model.specs.Journals.{attach_count, attached, lane_len}
use Rattle.pcef_model.specs.Outcomes.{AttachStep, FinishStep, FlushStep, FlushAnswer, attach_outcome, finish_outcome, finish_outcome_by, flush_outcome, flush_outcome_by, flush_answer}
use Rattle.pcef_model.specs.Refusals.{attach_faults, first_of, flush_refusals, is_attached, own_refusals, was_closed, was_terminated}
use Rattle.pcef_model.specs.Reports.{after_command, after_flush, after_leave, with_rows}
use Rattle.pcef_model.proofs.Acceptance.{condition_none}
use Rattle.pcef_model.proofs.JournalExtends.{attach_count_after_command, attach_count_after_flush, attached_after_command, attached_after_flush, flushed_once, rows_after_command, rows_after_flush}
use Rattle.pcef_journal.specs.declared.lanes.LaneEnd.{LaneEnd}
use Rattle.pcef_journal.specs.Lanes.{LanesAgree}
use Rattle.pcef_journal.proofs.LaneEnds.{attached_with, count_with, lanes_rows, lanes_same}
use Rattle.pcef_session.specs.private.TakenRows.{with_lane}

-- ---- rows
pub commands_with : (j : Journal) (rs : List Row) → commands (with_rows rs j) ≡ commands j
unfolding with_rows
commands_with j [] = refl
commands_with j (r ∷ rs) = commands_with (entry.Row r ∷ j) rs

-- ---- attaching
pub attach_full : (j : Journal) → 16 ≤ attach_count j → Some attach.NoPlace ≡ first_of (attach_faults j)
attach_full j full = rw (le-leb 16 (attach_count j) full) refl

pub attach_ended : (j : Journal) → attach_count j < 16 → (was_closed j || was_terminated j) ≡ true → Some attach.Closed ≡ first_of (attach_faults j)
attach_ended j few ended = rw (lt-leb 16 (attach_count j) few, ended) refl

pub attach_accepted : (j : Journal) → attach_count j < 16 → (was_closed j || was_terminated j) ≡ false → None ≡ first_of (attach_faults j)
attach_accepted j few living = rw (lt-leb 16 (attach_count j) few, living) refl

pub attach_few : (j : Journal) → first_of (attach_faults j) ≡ None → attach_count j < 16
attach_few j accepted = leb-false 16 (attach_count j) (condition_none (nat_le 16 (attach_count j)) attach.NoPlace ((was_closed j || was_terminated j, attach.Closed) ∷ []) accepted).0

pub attach_refused : (j : Journal) (f : AttachFault) → first_of (attach_faults j) ≡ Some f → AttachStep j (Err f) j
unfolding attach_outcome
attach_refused j f is = inl (rw is (refl, refl))

pub attach_next : (j new : Journal) (n : ℕ) → n ≡ attach_count j → first_of (attach_faults j) ≡ None → new ≡ entry.Attach n ∷ j → AttachStep j (Ok n) new
unfolding attach_outcome
attach_next j new n count accepted is =
    inl (rw accepted (ap (λ m. Ok m) count, is ∙ ap (λ m. entry.Attach m ∷ j) count))

pub attach_lacks : (j : Journal) → first_of (attach_faults j) ≡ None → AttachStep j (Err attach.NoMemory) j
attach_lacks j accepted = inr (accepted, (refl, refl))

-- what a call that went well promises
pub ok_of : {T E P : Type 0} (r : Result T E) → OnOk r P → false ≡ is_err r → P
ok_of (Ok x) holds fine = holds
ok_of (Err e) holds fine = absurd cc

-- ---- flushing
pub flush_refused : (p : Setting) (j : Journal) (worker : ℕ) (rs : List Row) (r : FlushRefusal) → Some r ≡ first_of (flush_refusals p j worker (length rs)) → FlushStep p worker rs j (Err r) j
unfolding flush_outcome
flush_refused p j worker rs r is = inl (rw (← is) (refl, refl))

pub flush_taken : (p : Setting) (j new : Journal) (worker : ℕ) (rs : List Row) (v : FlushAnswer) → None ≡ first_of (flush_refusals p j worker (length rs)) →
    new ≡ after_flush p j rs → v ≡ flush_answer rs j new → FlushStep p worker rs j (Ok v) new
unfolding flush_outcome
flush_taken p j new worker rs v is after told_is = inl (rw (← is) (ap (λ w. Ok w) (told_is ∙ ap (flush_answer rs j) after), after))

pub flush_lacks : (p : Setting) (j : Journal) (worker : ℕ) (rs : List Row) → None ≡ first_of (flush_refusals p j worker (length rs)) → FlushStep p worker rs j (Err flush.NoMemory) j
flush_lacks p j worker rs accepted = inr (sym accepted, (refl, refl))

pub refused_unattached : (p : Setting) (j : Journal) (worker count : ℕ) → is_attached j worker ≡ false → Some flush.NotAttached ≡ first_of (flush_refusals p j worker count)
refused_unattached p j worker count is = rw is refl

pub refused_full : (p : Setting) (j : Journal) (worker count : ℕ) → is_attached j worker ≡ true → nat_lt p.rows (length (rows j) + count) ≡ true → Some flush.RowsFull ≡ first_of (flush_refusals p j worker count)
refused_full p j worker count is full = rw (is, full) refl

pub refused_by_none : (p : Setting) (j : Journal) (worker count : ℕ) → is_attached j worker ≡ true → nat_lt p.rows (length (rows j) + count) ≡ false → None ≡ first_of (flush_refusals p j worker count)
refused_by_none p j worker count is fits = rw (is, fits) refl

-- the answer to rows that were taken over
flushed_value : (p : Setting) (worker : ℕ) (rs : List Row) (j k : Journal) (v : FlushAnswer) → FlushStep p worker rs j (Ok v) k → v ≡ flush_answer rs j (after_flush p j rs)
unfolding flush_outcome
flushed_value p worker rs j k v (inr none) = absurd (let e = none.1.0 in cc)
flushed_value p worker rs j k v (inl done) = from (first_of (flush_refusals p j worker (length rs))) done.0
  where
    from : (o : Option FlushRefusal) → Ok v ≡ (flush_outcome_by p j rs o).0 → v ≡ flush_answer rs j (after_flush p j rs)
    from (Some f) is = absurd cc
    from None is = cc

-- ---- finishing
pub finish_refused : (p : Setting) (j k : Journal) (worker : ℕ) (rs : List Row) (r : FlushRefusal) → FlushStep p worker rs j (Err r) k → FinishStep p worker rs j (Err r) k
unfolding flush_outcome finish_outcome
finish_refused p j k worker rs r (inr none) = inr (none.0, (let e = none.1.0 in cc, none.1.1))
finish_refused p j k worker rs r (inl done) = from (first_of (flush_refusals p j worker (length rs))) refl done
  where
    from : (o : Option FlushRefusal) → first_of (flush_refusals p j worker (length rs)) ≡ o → (Err r ≡ (flush_outcome_by p j rs o).0) × (k ≡ (flush_outcome_by p j rs o).1) → FinishStep p worker rs j (Err r) k
    from (Some f) is given = inl (rw is (let e = given.0 in cc, given.1))
    from None is given = absurd (let e = given.0 in cc)

pub finish_done : (p : Setting) (j k new : Journal) (worker : ℕ) (rs : List Row) (v : FlushAnswer) (n : ℕ) → FlushStep p worker rs j (Ok v) k → n ≡ lane_len k worker → new ≡ after_leave worker k →
    FinishStep p worker rs j (Ok (v, n)) new
unfolding finish_outcome
finish_done p j k new worker rs v n flushes count is =
    let once = flushed_once p worker rs j k v flushes in
    let value : v ≡ flush_answer rs j (after_flush p j rs) = flushed_value p worker rs j k v flushes in
    inl (rw once.0 (
      ap (λ (t : FlushAnswer). Ok (t, n)) value ∙ ap (λ (m : ℕ). Ok (flush_answer rs j (after_flush p j rs), m)) (count ∙ ap (λ l. lane_len l worker) once.1),
      is ∙ ap (after_leave worker) once.1,
    ))

-- rows that were refused changed nothing
pub finished_not : (p : Setting) (j k : Journal) (worker : ℕ) (rs : List Row) (r : FlushRefusal) → FinishStep p worker rs j (Err r) k → k ≡ j
unfolding finish_outcome
finished_not p j k worker rs r (inr none) = none.1.1
finished_not p j k worker rs r (inl done) = from (first_of (flush_refusals p j worker (length rs))) done
  where
    from : (o : Option FlushRefusal) → (Err r ≡ (finish_outcome_by p j worker rs o).0) × (k ≡ (finish_outcome_by p j worker rs o).1) → k ≡ j
    from (Some f) is = is.1
    from None is = absurd (let e = is.0 in cc)

-- and rows that weren't stand in the journal that the worker left
pub finished_once : (p : Setting) (j k : Journal) (worker : ℕ) (rs : List Row) (v : FlushAnswer × ℕ) → FinishStep p worker rs j (Ok v) k →
    (first_of (flush_refusals p j worker (length rs)) ≡ None) × (k ≡ after_leave worker (after_flush p j rs))
unfolding finish_outcome
finished_once p j k worker rs v (inr none) = absurd (let e = none.1.0 in cc)
finished_once p j k worker rs v (inl done) = from (first_of (flush_refusals p j worker (length rs))) done
  where
    from : (o : Option FlushRefusal) → (Ok v ≡ (finish_outcome_by p j worker rs o).0) × (k ≡ (finish_outcome_by p j worker rs o).1) → (o ≡ None) × (k ≡ after_leave worker (after_flush p j rs))
    from (Some f) is = absurd (let e = is.0 in cc)
    from None is = (refl, is.1)

-- an attached worker was never refused
pub attached_accepted : (p : Setting) (j : Journal) (worker count : ℕ) → None ≡ first_of (flush_refusals p j worker count) → is_attached j worker ≡ true
attached_accepted p j worker count accepted = from (is_attached j worker) refl
  where
    from : (b : Bool) → is_attached j worker ≡ b → b ≡ true
    from true is = refl
    from false is = absurd (let some : None ≡ Some flush.NotAttached = rw is at accepted in cc)

-- a worker whose rows were taken over is attached
pub flushed_attached : (p : Setting) (worker : ℕ) (rs : List Row) (j k : Journal) (v : FlushAnswer) → FlushStep p worker rs j (Ok v) k → is_attached k worker ≡ true
flushed_attached p worker rs j k v flushes =
    let once = flushed_once p worker rs j k v flushes in
    ap (list_any (λ w. w == worker)) (ap attached once.1 ∙ attached_after_flush p j rs) ∙ attached_accepted p j worker (length rs) (sym once.0)

-- ---- the ends of lanes after an event

pub lanes_commanded : (p : Setting) (j : Journal) (c : Command) (lanes : List LaneEnd) → LanesAgree j lanes → LanesAgree (after_command p j c) lanes
lanes_commanded p j c lanes agree =
    lanes_same j (after_command p j c) lanes (attach_count_after_command p j c) (attached_after_command p j c)
    (λ w. ap (filter (λ r. r.worker == w)) (rows_after_command p j c)) agree

pub lanes_flushed : (p : Setting) (j : Journal) (worker : ℕ) (rs : List Row) (lanes : List LaneEnd) → worker < length lanes → All (λ r. r.worker ≡ worker) rs → LanesAgree j lanes →
    LanesAgree (after_flush p j rs) (with_lane worker rs lanes)
lanes_flushed p j worker [] lanes came own agree = agree
lanes_flushed p j worker (r ∷ rs) lanes came own agree =
    let k : Journal = with_rows (r ∷ rs) j in
    lanes_same k (after_flush p j (r ∷ rs)) (with_lane worker (r ∷ rs) lanes)
    (attach_count_after_flush p j (r ∷ rs) ∙ sym (count_with (r ∷ rs) j)) (attached_after_flush p j (r ∷ rs) ∙ sym (attached_with (r ∷ rs) j))
    (λ w. ap (filter (λ x. x.worker == w)) (rows_after_flush p j (r ∷ rs))) (lanes_rows j worker (r ∷ rs) lanes came own agree)

-- ---- terminating
pub terminate_refused : (p : Setting) (j : Journal) (n : ℕ) → n ≡ length (attached j) → 0 < n → Some (refusal.WorkersAttached n) ≡ first_of (own_refusals p j Terminate)
terminate_refused p j n is some =
    ap (λ m. Some (refusal.WorkersAttached m)) is
    ∙ sym (ap (λ b. if b then Some (refusal.WorkersAttached (length (attached j))) else None) (lt-ltb 0 (length (attached j)) (omega (arith, is, some))))

pub terminate_free : (p : Setting) (j : Journal) (n : ℕ) → n ≡ length (attached j) → n ≤ 0 → None ≡ first_of (own_refusals p j Terminate)
terminate_free p j n is none =
    sym (ap (λ b. if b then Some (refusal.WorkersAttached (length (attached j))) else None) (le-ltb 0 (length (attached j)) (omega (arith, is, none))))
