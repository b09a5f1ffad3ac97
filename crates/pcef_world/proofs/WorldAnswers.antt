-- What the steps of a session and its workers answer, as callers see them.
use Rattle.std.proofs.Common.{◌≡◌, ◌∙◌, ◌≤◌, ◌<◌, ℕ, true, false, List, [], ◌∷◌, ◌++◌, length, map, refl, sym, ap, subst, arith, inl, inr, Some, None, Ok, Err}
use Rattle.std.specs.Prelude.{◌≢◌, Option, Result, IfErr, IfOk, nat_le, slice_get, slice_set}
use Rattle.std.specs.Option.{option_map}
use Rattle.std.specs.Result.{result_map_both}
use Rattle.std.specs.declared.alloc.AllocError.{AllocError}
use Rattle.std.proofs.lemmas.Bool.{cases_lt, false≢true, le-leb, lt-leb}
use Rattle.std.proofs.lemmas.List.{length-map, map-append}
use Rattle.std.proofs.lemmas.Option.{slice_get_past}
use Rattle.pcef_packet.specs.declared.header.Addr.{Addr}
use Rattle.pcef_packet.specs.declared.header.Header.{Header}
use Rattle.pcef_catalog.specs.declared.listing.Offer.{Offer}
use Rattle.pcef_model.specs.Setting.{Setting}
use Rattle.pcef_model.specs.Entries.{Journal}
use Rattle.pcef_model.specs.Journals.{gen, lane_len}
use Rattle.pcef_model.specs.Reports.{after_leave}
use Rattle.pcef_model.specs.Outcomes.{AttachStep, CommandStep, FinishStep, FlushStep, Outcome, FlushAnswer, attach_outcome, finish_outcome, flush_outcome, finish_answer_of, flush_answer_of}
use Rattle.pcef_model.specs.declared.answer.Accepted.{Accepted}
use Rattle.pcef_model.specs.declared.answer.AttachFault.{AttachFault}
use Rattle.pcef_model.specs.declared.answer.AttachFault.TheVariants as attach
use Rattle.pcef_model.specs.declared.answer.FlushRefusal.{FlushRefusal}
use Rattle.pcef_model.specs.declared.answer.FlushRefusal.TheVariants as flush
use Rattle.pcef_model.specs.declared.answer.Refusal.{Refusal}
use Rattle.pcef_model.specs.declared.answer.Refusal.TheVariants as refusal
use Rattle.pcef_model.specs.declared.answer.Verdicts.{Verdicts}
use Rattle.pcef_model.specs.declared.command.Command.{Command}
use Rattle.pcef_model.specs.declared.step.Step.{Step}
use Rattle.pcef_model.specs.declared.step.Step.TheVariants as of
use Rattle.pcef_session.specs.declared.batch.Item.{Item}
use Rattle.pcef_session.specs.SessionModel.{SessionModel}
use Rattle.pcef_session.specs.Following.{row_of}
use Rattle.pcef_world.specs.declared.answer.StepAnswer.{StepAnswer}
use Rattle.pcef_world.specs.declared.answer.StepAnswer.TheVariants as answer
use Rattle.pcef_world.specs.declared.worker.WorldWorker.{WorldWorker}
use Rattle.pcef_world.specs.private.Places.{AbandonsAt, FinishesAt, FlushesAt, RefreshesAt, TakesAt, after_coming, after_finishing, attach_step_answer, finish_step_answer, flush_step_answer}
use Rattle.pcef_world.specs.private.Soundness.{IsSoundWith}
use Rattle.pcef_world.specs.Workers.{IsJudged, Waits, after_flushing, held_by, with_item, seen}
use Rattle.pcef_world.specs.Steps.{Lacks, Plays, Reply, Standing, abandon_reply, attach_step, finished, handed_over, is_error, is_refusal, reply_of, row_taken, standing_of, step_outcome, take_reply, take_step, with_generation, with_none, with_place, with_row}
use Rattle.pcef_model.proofs.JournalExtends.{attached_not, flushed_not}
use Rattle.pcef_session.proofs.Leaving.{finished_not}
use Rattle.pcef_world.specs.Worlds.{Waiting, World, waiting_if_there, waiting_at}
use Rattle.pcef_world.proofs.WantOfMemory.{attach_given, attach_lacking, command_given, command_lacking, finish_given, finish_lacking, flush_given, flush_lacking}
use Rattle.pcef_world.proofs.WorkersWait.{row_made}
use Rattle.pcef_world.proofs.WrittenLists.{get_mapped, set_mapped, set_same}

-- where no place is found there is none
pub past_from : (i n : ℕ) → (i < n → false ≡ true) → n ≤ i
past_from i n none = elim (cases_lt i n) [ inl less ↦ absurd (false≢true (none less)) | inr past ↦ past ]

-- ---- the worker of a step, as callers see it
abbrev pub all_seen : List (Option WorldWorker) → List (Option Waiting)
all_seen workers = map (option_map seen) workers

seen_at : (workers : List (Option WorldWorker)) (i : ℕ) (o : Option WorldWorker) → slice_get workers i ≡ Some o → waiting_at (all_seen workers) i ≡ option_map seen o
seen_at workers i o there = ap waiting_if_there (get_mapped (option_map seen) workers i ∙ ap (option_map (option_map seen)) there)

-- past the last place there is none
seen_past : (workers : List (Option WorldWorker)) (i : ℕ) → length workers ≤ i → waiting_at (all_seen workers) i ≡ None
seen_past workers i past = ap waiting_if_there (get_mapped (option_map seen) workers i ∙ ap (option_map (option_map seen)) (slice_get_past workers i past))

-- a place that stays as it is leaves the list as callers see it
seen_same : (workers : List (Option WorldWorker)) (i : ℕ) (o new : Option WorldWorker) → slice_get workers i ≡ Some o → new ≡ o → all_seen (slice_set workers i new) ≡ all_seen workers
seen_same workers i o new there kept = ap all_seen (ap (slice_set workers i) kept ∙ set_same workers i o there)

seen_set : (workers : List (Option WorldWorker)) (i : ℕ) (new : Option WorldWorker) (x : Option Waiting) → option_map seen new ≡ x → all_seen (slice_set workers i new) ≡ slice_set (all_seen workers) i x
seen_set workers i new x is = set_mapped (option_map seen) workers i new ∙ ap (slice_set (all_seen workers) i) is

-- how a journal and workers stand
abbrev stand : Journal → List (Option WorldWorker) → Standing
stand j workers = record { journal = j; workers = all_seen workers }

-- a step answers as due, or memory is wanting for it
abbrev pub Steps : Setting → Standing → Step → Result StepAnswer AllocError → Standing → Type 0
Steps p before step out after =
    IfOk out (λ a. Plays p before step a after) × IfErr out (λ _. Lacks p before step after)

-- ---- what is accepted
flush_accepted : (due : Outcome FlushAnswer FlushRefusal) (s : Standing) (i : ℕ) (w : Waiting) → is_error due.0 ≡ false → is_refusal (handed_over s i w due).0 ≡ false
flush_accepted (Ok told, after) s i w accepted = refl
flush_accepted (Err r, after) s i w accepted = accepted

finish_accepted : (due : Outcome (FlushAnswer × ℕ) FlushRefusal) (s : Standing) (i : ℕ) → is_error due.0 ≡ false → is_refusal (finished s i due).0 ≡ false
finish_accepted (Ok told, after) s i accepted = refl
finish_accepted (Err r, after) s i accepted = accepted

attach_accepted : (due : Outcome ℕ AttachFault) (s : Standing) → is_error due.0 ≡ false → is_refusal (attach_step s due).0 ≡ false
attach_accepted (Ok number, after) s accepted = refl
attach_accepted (Err fault, after) s accepted = accepted

-- ---- commands
command_plays : (p : Setting) (c : Command) (j k : Journal) (workers : List (Option Waiting)) (r : Result Accepted Refusal) → CommandStep p c j r k → (r ≡ Err refusal.NoMemory → ⊥) →
    Plays p (record { journal = j; workers = workers }) (of.Command c) (answer.Command r) (record { journal = k; workers = workers })
unfolding step_outcome
command_plays p c j k workers r does other = rw (command_given p c j k r does other) (refl, refl)

command_lacks : (p : Setting) (c : Command) (j k : Journal) (workers : List (Option Waiting)) → CommandStep p c j (Err refusal.NoMemory) k →
    Lacks p (record { journal = j; workers = workers }) (of.Command c) (record { journal = k; workers = workers })
unfolding step_outcome
command_lacks p c j k workers does =
    let lacks = command_lacking p c j k does in (lacks.0, ap (λ l. record { journal = l; workers = workers }) lacks.1)

pub command_answer : (p : Setting) (c : Command) (j k : Journal) (workers : List (Option Waiting)) (r : Result Accepted Refusal) (out : Result StepAnswer AllocError) → CommandStep p c j r k →
    IfOk out (λ a. (a ≡ answer.Command r) × (r ≢ Err refusal.NoMemory)) → IfErr out (λ _. r ≡ Err refusal.NoMemory) →
    Steps p (record { journal = j; workers = workers }) (of.Command c) out (record { journal = k; workers = workers })
command_answer p c j k workers r (Ok a) does told lack = rw told.0 (command_plays p c j k workers r does told.1, tt)
command_answer p c j k workers r (Err e) does told lack = (tt, command_lacks p c j k workers (subst (λ x. CommandStep p c j x k) lack does))

-- ---- a worker is attached
come_plays : (p : Setting) (j k : Journal) (workers : List (Option Waiting)) (r : Result ℕ AttachFault) → AttachStep j r k → (r ≡ Err attach.NoMemory → ⊥) →
    Plays p (record { journal = j; workers = workers }) of.Attach (answer.Attach r) (record { journal = k; workers = after_coming j r workers })
unfolding step_outcome
come_plays p j k workers (Ok number) attaches other = rw (attach_given j k (Ok number) attaches other) (refl, refl)
come_plays p j k workers (Err f) attaches other =
    rw (attach_given j k (Err f) attaches other) (refl, ap (λ l. record { journal = l; workers = workers }) (attached_not j k f attaches))

come_lacks : (p : Setting) (j k : Journal) (workers : List (Option Waiting)) → AttachStep j (Err attach.NoMemory) k →
    Lacks p (record { journal = j; workers = workers }) of.Attach (record { journal = k; workers = workers })
unfolding step_outcome
come_lacks p j k workers attaches =
    let lacks = attach_lacking j k attaches in
    (attach_accepted (attach_outcome j) (record { journal = j; workers = workers }) lacks.0, ap (λ l. record { journal = l; workers = workers }) lacks.1)

pub attach_answer : (p : Setting) (v w : World) (r : Result ℕ AttachFault) → AttachStep v.session.journal r w.session.journal → w.workers ≡ after_coming v.session.journal r v.workers →
    Steps p (standing_of v) of.Attach (attach_step_answer r) (standing_of w)
attach_answer p v w r attaches workers_are = rw workers_are (from r attaches)
  where
    from : (r : Result ℕ AttachFault) → AttachStep v.session.journal r w.session.journal →
        Steps p (standing_of v) of.Attach (attach_step_answer r) (record { journal = w.session.journal; workers = after_coming v.session.journal r v.workers })
    from (Ok number) attaches = (come_plays p v.session.journal w.session.journal v.workers (Ok number) attaches (λ e. cc), tt)
    from (Err attach.NoMemory) attaches = (tt, come_lacks p v.session.journal w.session.journal v.workers attaches)
    from (Err attach.NoPlace) attaches = (come_plays p v.session.journal w.session.journal v.workers (Err attach.NoPlace) attaches (λ e. cc), tt)
    from (Err attach.Closed) attaches = (come_plays p v.session.journal w.session.journal v.workers (Err attach.Closed) attaches (λ e. cc), tt)

-- ---- a packet is taken
-- by no worker
pub takes_nowhere : (p : Setting) (j : Journal) (workers : List (Option WorldWorker)) (i : ℕ) (header : Header) → length workers ≤ i →
    Plays p (stand j workers) (of.Take i header) answer.NoWorker (stand j workers)
unfolding step_outcome
takes_nowhere p j workers i header past = rw (seen_past workers i past) (refl, refl)

-- the item that waits then, as callers see it
seen_taken : (s : SessionModel) (i : ℕ) (w new : WorldWorker) (header : Header) (item : Item) → Waits s.setting s.journal i w → IsJudged s.setting.catalog s.setting.ue header (lane_len s.journal i) w item → new ≡ with_item item w →
    seen new ≡ with_row (row_taken s.setting s.journal i (seen w) header) (seen w)
seen_taken s i w new header item waits made new_is =
    let all : map row_of (w.waiting ++ item ∷ []) ≡ map row_of w.waiting ++ item.row ∷ [] = map-append row_of w.waiting (item ∷ []) in
    ap seen new_is ∙ ap (λ rs. record { generation = (held_by w).number; rows = rs })
    (all ∙ ap (λ r. map row_of w.waiting ++ r ∷ []) (row_made s.setting s.journal i w header item waits made))

-- what is answered, where a worker is there or isn't, and what is left where memory is wanting
abbrev TakesAs : SessionModel → List (Option WorldWorker) → ℕ → Header → Option Waiting → Result StepAnswer AllocError → List (Option WorldWorker) → Type 0
TakesAs s before i header o (Ok a) after =
    let due : Reply × Standing = take_step s.setting (stand s.journal before) i header o in
    ((reply_of a ≡ due.0) × (stand s.journal after ≡ due.1)) × Unit {0}
TakesAs s before i header o (Err lack) after =
    Unit {0} × ((is_refusal (take_step s.setting (stand s.journal before) i header o).0 ≡ false) × (stand s.journal after ≡ stand s.journal before))

-- a place that is written, where the journal is so
place_set : (j : Journal) (workers : List (Option WorldWorker)) (i : ℕ) (new : Option WorldWorker) (x : Option Waiting) → option_map seen new ≡ x →
    stand j (slice_set workers i new) ≡ with_place i x (stand j workers)
place_set j workers i new x is = ap (λ ws. record { journal = j; workers = ws }) (seen_set workers i new x is)

place_same : (j : Journal) (workers : List (Option WorldWorker)) (i : ℕ) (o new : Option WorldWorker) → slice_get workers i ≡ Some o → new ≡ o → stand j (slice_set workers i new) ≡ stand j workers
place_same j workers i o new there kept = ap (λ ws. record { journal = j; workers = ws }) (seen_same workers i o new there kept)

taken_as : (s : SessionModel) (workers : List (Option WorldWorker)) (i : ℕ) (o new : Option WorldWorker) (header : Header) (out : Result StepAnswer AllocError) → IsSoundWith s workers →
    slice_get workers i ≡ Some o → TakesAt s.setting.catalog s.setting.ue header (lane_len s.journal i) o out new → TakesAs s workers i header (option_map seen o) out (slice_set workers i new)
taken_as s workers i None new header out sound there (out_is, kept) = rw out_is ((refl, place_same s.journal workers i None new there kept), tt)
taken_as s workers i (Some w) new header (Ok a) sound there (Ok count, v, (few, count_is, item, made, new_is), out_is, put) =
    let waits : Waits s.setting s.journal i w = sound.wait i w there in
    let same : length (map row_of w.waiting) ≡ length w.waiting = length-map w.waiting row_of in
    let room : nat_le 32 (length (map row_of w.waiting)) ≡ false = lt-leb 32 (length (map row_of w.waiting)) (omega (arith, few, same)) in
    rw room (
      (
        ap reply_of out_is ∙ ap (λ n. take_reply (Ok n)) (omega (arith, count_is, same)),
        place_set s.journal workers i new (Some (with_row (row_taken s.setting s.journal i (seen w) header) (seen w)))
            (ap (option_map seen) put ∙ ap (λ (x : Waiting). Some x) (seen_taken s i w v header item waits made new_is)),
      ),
      tt,
    )
taken_as s workers i (Some w) new header (Ok a) sound there (Err full, v, (many, kept), out_is, put) =
    let full_is : nat_le 32 (length (map row_of w.waiting)) ≡ true = le-leb 32 (length (map row_of w.waiting)) (omega (arith, many, length-map w.waiting row_of)) in
    rw full_is ((ap reply_of out_is, place_same s.journal workers i (Some w) new there (put ∙ ap (λ (x : WorldWorker). Some x) kept)), tt)
taken_as s workers i (Some w) new header (Err lack) sound there (v, (few, kept), put) =
    let room : nat_le 32 (length (map row_of w.waiting)) ≡ false = lt-leb 32 (length (map row_of w.waiting)) (omega (arith, few, length-map w.waiting row_of)) in
    rw room (tt, (refl, place_same s.journal workers i (Some w) new there (put ∙ ap (λ (x : WorldWorker). Some x) kept)))

-- at a place of the list
pub takes_answer : (s : SessionModel) (workers : List (Option WorldWorker)) (i : ℕ) (o new : Option WorldWorker) (offers : List Offer) (ue : Addr) (header : Header) (handed_over : ℕ) (out : Result StepAnswer AllocError) →
    IsSoundWith s workers → slice_get workers i ≡ Some o → offers ≡ s.setting.catalog → ue ≡ s.setting.ue → handed_over ≡ lane_len s.journal i → TakesAt offers ue header handed_over o out new →
    Steps s.setting (stand s.journal workers) (of.Take i header) out (stand s.journal (slice_set workers i new))
unfolding step_outcome
takes_answer s workers i o new offers ue header handed_over out sound there offers_are ue_is handed_is takes =
    let p : Setting = s.setting in
    let own : TakesAt p.catalog p.ue header (lane_len s.journal i) o out new =
    subst (λ n. TakesAt p.catalog p.ue header n o out new) handed_is (subst (λ u. TakesAt p.catalog u header handed_over o out new) ue_is (subst (λ c. TakesAt c ue header handed_over o out new) offers_are takes)) in
    as_steps out (subst (λ x. TakesAs s workers i header x out (slice_set workers i new)) (sym (seen_at workers i o there))
    (taken_as s workers i o new header out sound there own))
  where
    as_steps : (out : Result StepAnswer AllocError) → TakesAs s workers i header (waiting_at (all_seen workers) i) out (slice_set workers i new) →
        Steps s.setting (stand s.journal workers) (of.Take i header) out (stand s.journal (slice_set workers i new))
    as_steps (Ok a) is = is
    as_steps (Err lack) is = is

-- ---- the newest generation is taken
pub refreshes_nowhere : (p : Setting) (j : Journal) (workers : List (Option WorldWorker)) (i : ℕ) → length workers ≤ i →
    Plays p (stand j workers) (of.Refresh i) answer.NoWorker (stand j workers)
unfolding step_outcome
refreshes_nowhere p j workers i past = rw (seen_past workers i past) (refl, refl)

-- at a place of the list
pub refreshes_answer : (s : SessionModel) (workers : List (Option WorldWorker)) (i : ℕ) (o new : Option WorldWorker) (out : Result StepAnswer AllocError) →
    slice_get workers i ≡ Some o → RefreshesAt s.setting s.journal o out new →
    Steps s.setting (stand s.journal workers) (of.Refresh i) out (stand s.journal (slice_set workers i new))
unfolding step_outcome
refreshes_answer s workers i None new out there (out_is, kept) =
    rw (out_is, seen_at workers i None there) ((refl, place_same s.journal workers i None new there kept), tt)
refreshes_answer s workers i (Some w) new (Ok a) there (v, (shows, number_is, waiting_is), out_is, put) =
    let looks : seen v ≡ with_generation (gen s.journal) (seen w) =
    ap (λ g. record { generation = g; rows = map row_of v.waiting }) shows.number_is
    ∙ ap (λ items. record { generation = gen s.journal; rows = map row_of items }) waiting_is in
    rw (seen_at workers i (Some w) there) (
      (
        ap reply_of out_is,
        place_set s.journal workers i new (Some (with_generation (gen s.journal) (seen w))) (ap (option_map seen) put ∙ ap (λ (x : Waiting). Some x) looks),
      ),
      tt,
    )
refreshes_answer s workers i (Some w) new (Err lack) there put =
    rw (seen_at workers i (Some w) there) (tt, (refl, place_same s.journal workers i (Some w) new there put))

-- ---- rows are handed over
-- by no worker
pub flushes_nowhere : (p : Setting) (j : Journal) (workers : List (Option WorldWorker)) (i : ℕ) → length workers ≤ i →
    Plays p (stand j workers) (of.Flush i) answer.NoWorker (stand j workers)
unfolding step_outcome
flushes_nowhere p j workers i past = rw (seen_past workers i past) (refl, refl)

flush_nobody : (p : Setting) (j : Journal) (workers : List (Option WorldWorker)) (i : ℕ) (new : Option WorldWorker) → slice_get workers i ≡ Some None → new ≡ None →
    Plays p (stand j workers) (of.Flush i) answer.NoWorker (stand j (slice_set workers i new))
unfolding step_outcome
flush_nobody p j workers i new there kept = rw (seen_at workers i None there) (refl, place_same j workers i None new there kept)

-- by a worker, which keeps them where they are refused
flush_plays : (p : Setting) (j k : Journal) (workers : List (Option WorldWorker)) (i : ℕ) (w : WorldWorker) (new : Option WorldWorker) (r : Result Verdicts FlushRefusal) → slice_get workers i ≡ Some (Some w) →
    FlushStep p i (map row_of w.waiting) j (result_map_both flush_answer_of (λ e. e) r) k → (r ≡ Err flush.NoMemory → ⊥) → new ≡ Some (after_flushing r w) →
    Plays p (stand j workers) (of.Flush i) (answer.Flush r) (stand k (slice_set workers i new))
unfolding step_outcome
flush_plays p j k workers i w new (Ok v) there flushes other put =
    rw (seen_at workers i (Some w) there, flush_given p j k i (map row_of w.waiting) (Ok (flush_answer_of v)) flushes (λ e. cc))
    (refl, place_set k workers i new (Some (with_none (seen w))) (ap (option_map seen) put))
flush_plays p j k workers i w new (Err r) there flushes other put =
    let same : k ≡ j = flushed_not p i (map row_of w.waiting) j k r flushes in
    rw (seen_at workers i (Some w) there, flush_given p j k i (map row_of w.waiting) (Err r) flushes (λ e. other (let is : r ≡ flush.NoMemory = cc in ap (λ x. Err x) is)))
    (refl, ap (λ l. stand l (slice_set workers i new)) same ∙ place_same j workers i (Some w) new there put)

flush_lacks : (p : Setting) (j k : Journal) (workers : List (Option WorldWorker)) (i : ℕ) (w : WorldWorker) (new : Option WorldWorker) → slice_get workers i ≡ Some (Some w) →
    FlushStep p i (map row_of w.waiting) j (Err flush.NoMemory) k → new ≡ Some w →
    Lacks p (stand j workers) (of.Flush i) (stand k (slice_set workers i new))
unfolding step_outcome
flush_lacks p j k workers i w new there flushes put =
    let lacks = flush_lacking p j k i (map row_of w.waiting) flushes in
    rw (seen_at workers i (Some w) there) (
      flush_accepted (flush_outcome p j i (map row_of w.waiting)) (stand j workers) i (seen w) lacks.0,
      ap (λ l. stand l (slice_set workers i new)) lacks.1 ∙ place_same j workers i (Some w) new there put,
    )

-- at a place of the list
pub flushes_answer : (s t : SessionModel) (workers : List (Option WorldWorker)) (i : ℕ) (o new : Option WorldWorker) (out : Result StepAnswer AllocError) →
    IsSoundWith s workers → slice_get workers i ≡ Some o → FlushesAt s.setting s.journal o out t.journal new →
    Steps s.setting (stand s.journal workers) (of.Flush i) out (stand t.journal (slice_set workers i new))
flushes_answer s t workers i None new out sound there (out_is, same, kept) = rw (out_is, same) (flush_nobody s.setting s.journal workers i new there kept, tt)
flushes_answer s t workers i (Some w) new out sound there (r, flushes, out_is, put) =
    rw out_is (from r (subst (λ n. FlushStep s.setting n (map row_of w.waiting) s.journal (result_map_both flush_answer_of (λ e. e) r) t.journal) (sound.wait i w there).number_is flushes) put)
  where
    from : (r : Result Verdicts FlushRefusal) → FlushStep s.setting i (map row_of w.waiting) s.journal (result_map_both flush_answer_of (λ e. e) r) t.journal → new ≡ Some (after_flushing r w) →
        Steps s.setting (stand s.journal workers) (of.Flush i) (flush_step_answer r) (stand t.journal (slice_set workers i new))
    from (Ok v) flushes put = (flush_plays s.setting s.journal t.journal workers i w new (Ok v) there flushes (λ e. cc) put, tt)
    from (Err flush.NoMemory) flushes put = (tt, flush_lacks s.setting s.journal t.journal workers i w new there flushes put)
    from (Err flush.NotAttached) flushes put = (flush_plays s.setting s.journal t.journal workers i w new (Err flush.NotAttached) there flushes (λ e. cc) put, tt)
    from (Err flush.RowsFull) flushes put = (flush_plays s.setting s.journal t.journal workers i w new (Err flush.RowsFull) there flushes (λ e. cc) put, tt)

-- ---- a worker finishes
pub finishes_nowhere : (p : Setting) (j : Journal) (workers : List (Option WorldWorker)) (i : ℕ) → length workers ≤ i →
    Plays p (stand j workers) (of.Finish i) answer.NoWorker (stand j workers)
unfolding step_outcome
finishes_nowhere p j workers i past = rw (seen_past workers i past) (refl, refl)

finish_nobody : (p : Setting) (j : Journal) (workers : List (Option WorldWorker)) (i : ℕ) (new : Option WorldWorker) → slice_get workers i ≡ Some None → new ≡ None →
    Plays p (stand j workers) (of.Finish i) answer.NoWorker (stand j (slice_set workers i new))
unfolding step_outcome
finish_nobody p j workers i new there kept = rw (seen_at workers i None there) (refl, place_same j workers i None new there kept)

-- it stays where its rows are refused
finish_plays : (p : Setting) (j k : Journal) (workers : List (Option WorldWorker)) (i : ℕ) (w : WorldWorker) (new : Option WorldWorker) (r : Result (Verdicts × ℕ) FlushRefusal) → slice_get workers i ≡ Some (Some w) →
    FinishStep p i (map row_of w.waiting) j (result_map_both finish_answer_of (λ e. e) r) k → (r ≡ Err flush.NoMemory → ⊥) → new ≡ after_finishing r w →
    Plays p (stand j workers) (of.Finish i) (answer.Finish r) (stand k (slice_set workers i new))
unfolding step_outcome
finish_plays p j k workers i w new (Ok v) there finishes other put =
    rw (seen_at workers i (Some w) there, finish_given p j k i (map row_of w.waiting) (Ok (finish_answer_of v)) finishes (λ e. cc))
    (refl, place_set k workers i new None (ap (option_map seen) put))
finish_plays p j k workers i w new (Err r) there finishes other put =
    let same : k ≡ j = finished_not p j k i (map row_of w.waiting) r finishes in
    rw (seen_at workers i (Some w) there, finish_given p j k i (map row_of w.waiting) (Err r) finishes (λ e. other (let is : r ≡ flush.NoMemory = cc in ap (λ x. Err x) is)))
    (refl, ap (λ l. stand l (slice_set workers i new)) same ∙ place_same j workers i (Some w) new there put)

finish_lacks : (p : Setting) (j k : Journal) (workers : List (Option WorldWorker)) (i : ℕ) (w : WorldWorker) (new : Option WorldWorker) → slice_get workers i ≡ Some (Some w) →
    FinishStep p i (map row_of w.waiting) j (Err flush.NoMemory) k → new ≡ Some w →
    Lacks p (stand j workers) (of.Finish i) (stand k (slice_set workers i new))
unfolding step_outcome
finish_lacks p j k workers i w new there finishes put =
    let lacks = finish_lacking p j k i (map row_of w.waiting) finishes in
    rw (seen_at workers i (Some w) there) (
      finish_accepted (finish_outcome p j i (map row_of w.waiting)) (stand j workers) i lacks.0,
      ap (λ l. stand l (slice_set workers i new)) lacks.1 ∙ place_same j workers i (Some w) new there put,
    )

pub finishes_answer : (s t : SessionModel) (workers : List (Option WorldWorker)) (i : ℕ) (o new : Option WorldWorker) (out : Result StepAnswer AllocError) →
    IsSoundWith s workers → slice_get workers i ≡ Some o → FinishesAt s.setting s.journal o out t.journal new →
    Steps s.setting (stand s.journal workers) (of.Finish i) out (stand t.journal (slice_set workers i new))
finishes_answer s t workers i None new out sound there (out_is, same, kept) = rw (out_is, same) (finish_nobody s.setting s.journal workers i new there kept, tt)
finishes_answer s t workers i (Some w) new out sound there (r, finishes, out_is, put) =
    rw out_is (from r (subst (λ n. FinishStep s.setting n (map row_of w.waiting) s.journal (result_map_both finish_answer_of (λ e. e) r) t.journal) (sound.wait i w there).number_is finishes) put)
  where
    from : (r : Result (Verdicts × ℕ) FlushRefusal) → FinishStep s.setting i (map row_of w.waiting) s.journal (result_map_both finish_answer_of (λ e. e) r) t.journal → new ≡ after_finishing r w →
        Steps s.setting (stand s.journal workers) (of.Finish i) (finish_step_answer r) (stand t.journal (slice_set workers i new))
    from (Ok v) finishes put = (finish_plays s.setting s.journal t.journal workers i w new (Ok v) there finishes (λ e. cc) put, tt)
    from (Err flush.NoMemory) finishes put = (tt, finish_lacks s.setting s.journal t.journal workers i w new there finishes put)
    from (Err flush.NotAttached) finishes put = (finish_plays s.setting s.journal t.journal workers i w new (Err flush.NotAttached) there finishes (λ e. cc) put, tt)
    from (Err flush.RowsFull) finishes put = (finish_plays s.setting s.journal t.journal workers i w new (Err flush.RowsFull) there finishes (λ e. cc) put, tt)

-- ---- a worker leaves without its rows
pub abandons_nowhere : (p : Setting) (j : Journal) (workers : List (Option WorldWorker)) (i : ℕ) → length workers ≤ i →
    Plays p (stand j workers) (of.Abandon i) answer.NoWorker (stand j workers)
unfolding step_outcome
abandons_nowhere p j workers i past = rw (seen_past workers i past) (refl, refl)

pub abandons_answer : (s t : SessionModel) (workers : List (Option WorldWorker)) (i : ℕ) (o new : Option WorldWorker) (out : StepAnswer) →
    IsSoundWith s workers → slice_get workers i ≡ Some o → AbandonsAt s.journal o out t.journal new →
    Plays s.setting (stand s.journal workers) (of.Abandon i) out (stand t.journal (slice_set workers i new))
unfolding step_outcome
abandons_answer s t workers i None new out sound there (out_is, same, kept) =
    rw (seen_at workers i None there, same) (ap reply_of out_is, place_same s.journal workers i None new there kept)
abandons_answer s t workers i (Some w) new out sound there (out_is, is, none) =
    let number : w.number ≡ i = (sound.wait i w there).number_is in
    rw (seen_at workers i (Some w) there) (
      ap reply_of out_is
          ∙ ap (λ n. abandon_reply (record { waiting = n; rows = lane_len s.journal w.number })) (sym (length-map w.waiting row_of))
          ∙ ap (λ n. abandon_reply (record { waiting = length (map row_of w.waiting); rows = lane_len s.journal n })) number,
      ap (λ l. stand l (slice_set workers i new)) (is ∙ ap (λ n. after_leave n s.journal) number)
          ∙ place_set (after_leave i s.journal) workers i new None (ap (option_map seen) none),
    )
