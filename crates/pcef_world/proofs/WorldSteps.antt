-- What always holds of a world stays as its session and its workers step.
use Rattle.std.specs.Option.{IfSome}
use Rattle.pcef_table.specs.Tables.{IsTable}
use Rattle.std.proofs.Common.{◌≡◌, ◌∙◌, ◌≤◌, ◌<◌, ◌+◌, ℕ, ◌==◌, List, [], ◌∷◌, ◌++◌, filter, length, map, refl, sym, ap, subst, arith, inl, inr, None, Ok, Err}
use Rattle.std.specs.Prelude.{Option, Result, Some, slice_get, slice_set, true}
use Rattle.std.specs.Option.{option_map}
use Rattle.std.specs.List.{list_any}
use Rattle.std.proofs.lemmas.Bool.{cases_eq, ne_eqb}
use Rattle.std.proofs.lemmas.List.{length-set, length_push}
use Rattle.pcef_packet.specs.declared.header.Addr.{Addr}
use Rattle.pcef_packet.specs.declared.header.Header.{Header}
use Rattle.pcef_catalog.specs.declared.listing.Offer.{Offer}
use Rattle.pcef_model.specs.declared.command.Command.{Command}
use Rattle.pcef_model.specs.declared.row.Row.{Row}
use Rattle.pcef_model.specs.Setting.{Setting}
use Rattle.pcef_model.specs.Entries.{Journal, lane}
use Rattle.pcef_model.specs.Journals.{attach_count, attached, gen, lane_len, tables}
use Rattle.pcef_model.specs.Reports.{after_attach, after_flush, after_leave}
use Rattle.pcef_model.specs.declared.answer.Accepted.{Accepted}
use Rattle.pcef_model.specs.declared.answer.AttachFault.{AttachFault}
use Rattle.pcef_model.specs.declared.answer.Refusal.{Refusal}
use Rattle.pcef_world.specs.declared.worker.WorldWorker.{WorldWorker}
use Rattle.pcef_model.specs.Outcomes.{AttachStep, CommandStep, FinishStep, FlushStep, finish_answer_of, flush_answer_of}
use Rattle.pcef_session.specs.SessionModel.{SessionModel}
use Rattle.pcef_session.specs.Following.{row_of}
use Rattle.pcef_model.specs.Refusals.{first_of, flush_refusals, is_attached}
use Rattle.pcef_world.specs.private.Places.{AbandonsAt, FinishesAt, FlushesAt, RefreshesAt, TakesAt}
use Rattle.pcef_world.specs.Workers.{AllWait, MayHandOver, Waits, held_by, seen}
use Rattle.pcef_world.specs.private.Soundness.{IsSoundWith}
use Rattle.pcef_world.specs.Worlds.{AreInTurn, IsInTurn, waiting_if_there}
use Rattle.pcef_world.specs.declared.answer.StepAnswer.{StepAnswer}
use Rattle.std.specs.declared.alloc.AllocError.{AllocError}
use Rattle.pcef_world.proofs.WrittenLists.{get_beside, get_mapped, get_pushed, get_written, set_same, set_twice}
use Rattle.std.proofs.lemmas.Option.{slice_get_within}
use Rattle.pcef_model.specs.Lawful.{BatchFollows}
use Rattle.pcef_session.proofs.Leaving.{finished_not, finished_once}
use Rattle.pcef_world.specs.Worlds.{Waiting}
use Rattle.std.specs.Prelude.{◌||◌}
use Rattle.pcef_model.proofs.JournalExtends.{Commanded, attach_count_after_flush, attached_not, attached_once, commanded, flushed_not, flushed_once, extends_same}
use Rattle.pcef_world.proofs.WorkersWait.{waits_beside, waits_flushed, waits_later, waits_left, waits_new, waits_refresh, waits_take}
use Rattle.pcef_session.specs.Shown.{Shows}

-- ---- workers at their places
-- a place changes, and what stands at the others goes on waiting
all_set : (p : Setting) (j k : Journal) (workers : List (Option WorldWorker)) (i : ℕ) (new : Option WorldWorker) → i < length workers → AllWait p j workers →
    ((v : WorldWorker) → new ≡ Some v → Waits p k i v) → ((n : ℕ) (w : WorldWorker) → (n ≡ i → ⊥) → Waits p j n w → Waits p k n w) → AllWait p k (slice_set workers i new)
all_set p j k workers i new within all here others = λ m w there.
    elim (cases_eq m i) [
      | inl same ↦
          let at_i : slice_get (slice_set workers i new) i ≡ Some (Some w) = subst (λ n. slice_get (slice_set workers i new) n ≡ Some (Some w)) same there in
          let is : new ≡ Some w = let both : Some new ≡ Some (Some w) = sym (get_written workers i new within) ∙ at_i in cc in
          subst (λ n. Waits p k n w) (sym same) (here w is)
      | inr differs ↦ others m w differs (all m w (sym (get_beside workers i m new differs) ∙ there))
    ]

-- a session that forgets reports
pub sound_forgotten : (s t : SessionModel) (workers : List (Option WorldWorker)) → t.setting ≡ s.setting → t.journal ≡ s.journal → IsSoundWith s workers → IsSoundWith t workers
sound_forgotten s t workers setting journal sound = record {
  counted = rw journal sound.counted;
  few_rows = rw setting sound.few_rows;
  wait = rw (setting, journal) sound.wait;
}

-- a worker is attached
all_push : (p : Setting) (k : Journal) (workers : List (Option WorldWorker)) (new : WorldWorker) → AllWait p k workers → Waits p k (length workers) new → AllWait p k (workers ++ Some new ∷ [])
all_push p k workers new all here = λ m w there.
    elim (get_pushed workers (Some w) (Some new) m there) [
      | inl before ↦ all m w before
      | inr last ↦
          let is : new ≡ w = let both : Some new ≡ Some w = last.1 in cc in
          subst (λ n. Waits p k n w) (sym last.0) (subst (Waits p k (length workers)) is here)
    ]

-- what callers see of workers
pub all_in_turn : (p : Setting) (j : Journal) (workers : List (Option WorldWorker)) → AllWait p j workers → AreInTurn p j (map (option_map seen) workers)
all_in_turn p j workers all = λ i x there. from i (slice_get workers i) refl x (sym (ap waiting_if_there (get_mapped (option_map seen) workers i)) ∙ there)
  where
    from : (i : ℕ) (o : Option (Option WorldWorker)) → slice_get workers i ≡ o → (x : Waiting) → waiting_if_there (option_map (option_map seen) o) ≡ Some x → IsInTurn p j i x
    from i None at x is = absurd cc
    from i (Some None) at x is = absurd cc
    from i (Some (Some w)) at x is =
        let waits : Waits p j i w = all i w at in
        let same : seen w ≡ x = cc in
        subst (IsInTurn p j i) same (record { attached = waits.attached; known = waits.known; follow = waits.follow })

-- ---- commands
-- the lanes and the workers stay
pub sound_command : (s t : SessionModel) (workers : List (Option WorldWorker)) (c : Command) (result : Result Accepted Refusal) → IsSoundWith s workers → CommandStep s.setting c s.journal result t.journal →
    t.setting ≡ s.setting → IsSoundWith t workers
sound_command s t workers c result sound does setting =
    let p : Setting = s.setting in
    let done : Commanded p s.journal t.journal = commanded p c s.journal t.journal result does in
    record {
      counted = done.count_is ∙ sound.counted;
      few_rows = omega (arith, sound.few_rows, ap (λ (x : Setting). x.rows) setting);
      wait = subst (λ q. AllWait q t.journal workers) (sym setting)
          (λ i w there. waits_later p s.journal t.journal i w done.extends (ap (filter (λ (r : Row). r.worker == i)) done.rows_are) (ap (list_any (λ v. v == i)) done.attached_are) (sound.wait i w there));
    }

-- ---- a worker is attached
-- it doesn't
pub sound_attached_not : (s t : SessionModel) (workers : List (Option WorldWorker)) (fault : AttachFault) → IsSoundWith s workers → AttachStep s.journal (Err fault) t.journal →
    t.setting ≡ s.setting → IsSoundWith t workers
sound_attached_not s t workers fault sound attaches setting =
    let same : t.journal ≡ s.journal = attached_not s.journal t.journal fault attaches in
    record {
      counted = ap attach_count same ∙ sound.counted;
      few_rows = omega (arith, sound.few_rows, ap (λ (x : Setting). x.rows) setting);
      wait = rw (setting, same) sound.wait;
    }

-- its number is its place
pub attached_number : (s t : SessionModel) (workers : List (Option WorldWorker)) (number : ℕ) → IsSoundWith s workers → AttachStep s.journal (Ok number) t.journal → number ≡ length workers
attached_number s t workers number sound attaches = (attached_once s.journal t.journal number attaches).0 ∙ sound.counted

-- a worker that is there has a number that was given before
below_count : (workers : List (Option WorldWorker)) (i n : ℕ) (w : WorldWorker) → slice_get workers i ≡ Some (Some w) → n ≡ length workers → i ≡ n → ⊥
below_count workers i n w there is same = let within = slice_get_within workers i (Some w) there in omega (arith, within, is, same)

-- it waits with no rows
pub sound_attached : (s t : SessionModel) (workers : List (Option WorldWorker)) (number : ℕ) (w : WorldWorker) → IsSoundWith s workers → lane s.journal number ≡ [] → Shows s.setting s.journal (gen s.journal) (held_by w) →
    AttachStep s.journal (Ok number) t.journal → t.setting ≡ s.setting → w.number ≡ number → w.waiting ≡ [] → IsSoundWith t (workers ++ Some w ∷ [])
unfolding attach_count attached
sound_attached s t workers number w sound empty shows attaches setting number_is none =
    let p : Setting = s.setting in
    let come : (number ≡ attach_count s.journal) × (t.journal ≡ after_attach s.journal) = attached_once s.journal t.journal number attaches in
    let more : attach_count t.journal ≡ attach_count s.journal + 1 = ap attach_count come.1 in
    let new : Waits p t.journal (attach_count s.journal) w =
    waits_new p s.journal t.journal w (rw come.0 at empty) come.1 shows (number_is ∙ come.0) none in
    let others : AllWait p t.journal workers = λ i x there.
    waits_later p s.journal t.journal i x (extends_same p s.journal t.journal (ap tables come.1)) (ap (λ j. lane j i) come.1)
    (ap (λ j. is_attached j i) come.1
    ∙ ap (λ b. b || is_attached s.journal i) (ne_eqb (attach_count s.journal) i (λ e. below_count workers i (attach_count s.journal) x there sound.counted (sym e))))
    (sound.wait i x there) in
    record {
      counted = omega (arith, more, sound.counted, length_push workers (Some w));
      few_rows = omega (arith, sound.few_rows, ap (λ (x : Setting). x.rows) setting);
      wait = subst (λ q. AllWait q t.journal (workers ++ Some w ∷ [])) (sym setting)
          (all_push p t.journal workers w others (subst (λ n. Waits p t.journal n w) sound.counted new));
    }

-- ---- a packet is taken
-- one item more waits, or none
pub sound_taken : (s : SessionModel) (workers : List (Option WorldWorker)) (i : ℕ) (o new : Option WorldWorker) (offers : List Offer) (ue : Addr) (header : Header) (handed_over : ℕ) (out : Result StepAnswer AllocError) →
    IsSoundWith s workers → slice_get workers i ≡ Some o → offers ≡ s.setting.catalog → ue ≡ s.setting.ue → handed_over ≡ lane_len s.journal i → TakesAt offers ue header handed_over o out new →
    IsSoundWith s (slice_set workers i new)
sound_taken s workers i o new offers ue header handed_over out sound there offers_are ue_is handed_is takes =
    let p : Setting = s.setting in
    let own : TakesAt p.catalog p.ue header (lane_len s.journal i) o out new =
    subst (λ n. TakesAt p.catalog p.ue header n o out new) handed_is (subst (λ u. TakesAt p.catalog u header handed_over o out new) ue_is (subst (λ c. TakesAt c ue header handed_over o out new) offers_are takes)) in
    record {
      counted = sound.counted ∙ sym (length-set workers i new);
      few_rows = sound.few_rows;
      wait = all_set p s.journal s.journal workers i new (slice_get_within workers i o there) sound.wait (λ v is. from o out there own v is) (λ n v differs before. before);
    }
  where
    from : (o : Option WorldWorker) (out : Result StepAnswer AllocError) → slice_get workers i ≡ Some o → TakesAt s.setting.catalog s.setting.ue header (lane_len s.journal i) o out new → (v : WorldWorker) → new ≡ Some v → Waits s.setting s.journal i v
    from None out there takes v is = absurd (let none : None ≡ Some v = sym takes.1 ∙ is in cc)
    from (Some w) (Ok a) there (Ok count, x, (few, count_is, item, made, new_is), out_is, put) v is =
        let same : x ≡ v = let both : Some x ≡ Some v = sym put ∙ is in cc in
        subst (Waits s.setting s.journal i) same (rw new_is (waits_take s.setting s.journal i w header item (sound.wait i w there) made))
    from (Some w) (Ok a) there (Err full, x, (many, kept), out_is, put) v is =
        let same : x ≡ v = let both : Some x ≡ Some v = sym put ∙ is in cc in
        subst (Waits s.setting s.journal i) (sym kept ∙ same) (sound.wait i w there)
    from (Some w) (Err lack) there (x, (few, kept), put) v is =
        let same : x ≡ v = let both : Some x ≡ Some v = sym put ∙ is in cc in
        subst (Waits s.setting s.journal i) (sym kept ∙ same) (sound.wait i w there)

-- ---- the newest generation is taken
-- the worker holds it then
pub sound_refreshed : (s : SessionModel) (workers : List (Option WorldWorker)) (i : ℕ) (o new : Option WorldWorker) (out : Result StepAnswer AllocError) → IsSoundWith s workers →
    slice_get workers i ≡ Some o → RefreshesAt s.setting s.journal o out new → IsSoundWith s (slice_set workers i new)
sound_refreshed s workers i o new out sound there holds = record {
  counted = sound.counted ∙ sym (length-set workers i new);
  few_rows = sound.few_rows;
  wait = all_set s.setting s.journal s.journal workers i new (slice_get_within workers i o there) sound.wait (λ v is. from o out there holds v is) (λ n v differs before. before);
}
  where
    from : (o : Option WorldWorker) (out : Result StepAnswer AllocError) → slice_get workers i ≡ Some o → RefreshesAt s.setting s.journal o out new → (v : WorldWorker) → new ≡ Some v → Waits s.setting s.journal i v
    from None out there holds v is = absurd (let none : None ≡ Some v = sym holds.1 ∙ is in cc)
    from (Some w) (Ok a) there (x, (shows, number_is, waiting_is), out_is, put) v is =
        let same : x ≡ v = let both : Some x ≡ Some v = sym put ∙ is in cc in
        subst (Waits s.setting s.journal i) same (waits_refresh s.setting s.journal i w x (sound.wait i w there) shows number_is waiting_is)
    from (Some w) (Err lack) there put v is =
        let same : w ≡ v = let both : Some w ≡ Some v = sym put ∙ is in cc in
        subst (Waits s.setting s.journal i) same (sound.wait i w there)

-- ---- rows are handed over
-- a worker may hand its rows over
pub may_hand_over : (s : SessionModel) (workers : List (Option WorldWorker)) (i : ℕ) (w : WorldWorker) → IsSoundWith s workers → slice_get workers i ≡ Some (Some w) → MayHandOver s.setting s.journal w
may_hand_over s workers i w sound there =
    let waits : Waits s.setting s.journal i w = sound.wait i w there in
    record { follow = subst (λ n. BatchFollows s.setting s.journal n (map row_of w.waiting)) (sym waits.number_is) waits.follow; slots = waits.slots }

pub hands_if : (s : SessionModel) (workers : List (Option WorldWorker)) (i : ℕ) (o : Option WorldWorker) → IsSoundWith s workers → slice_get workers i ≡ Some o → IfSome o (MayHandOver s.setting s.journal)
hands_if s workers i None sound there = tt
hands_if s workers i (Some w) sound there = may_hand_over s workers i w sound there

-- a worker that is there is attached, holds a table, and has no more rows than the profile allows
pub attached_if : (s : SessionModel) (workers : List (Option WorldWorker)) (i : ℕ) (o : Option WorldWorker) → IsSoundWith s workers → slice_get workers i ≡ Some o → IfSome o (λ w. is_attached s.journal w.number ≡ true)
attached_if s workers i None sound there = tt
attached_if s workers i (Some w) sound there =
    let waits = sound.wait i w there in ap (is_attached s.journal) waits.number_is ∙ waits.attached

pub table_if : (s : SessionModel) (workers : List (Option WorldWorker)) (i : ℕ) (o : Option WorldWorker) (offers : List Offer) → IsSoundWith s workers → slice_get workers i ≡ Some o → offers ≡ s.setting.catalog →
    IfSome o (λ w. IsTable offers (held_by w).entries)
table_if s workers i None offers sound there is = tt
table_if s workers i (Some w) offers sound there is = subst (λ c. IsTable c (held_by w).entries) (sym is) (sound.wait i w there).shows.ordered

pub few_if : (s : SessionModel) (workers : List (Option WorldWorker)) (i n : ℕ) (o : Option WorldWorker) → IsSoundWith s workers → slice_get workers i ≡ Some o → n ≡ lane_len s.journal i → IfSome o (λ w. n ≤ 4294967295)
few_if s workers i n None sound there is = tt
few_if s workers i n (Some w) sound there is = omega (arith, is, (sound.wait i w there).few, sound.few_rows)

-- where the journal is as it was
kept_as : (s t : SessionModel) (workers : List (Option WorldWorker)) (i : ℕ) (o new : Option WorldWorker) → IsSoundWith s workers → slice_get workers i ≡ Some o → t.journal ≡ s.journal → t.setting ≡ s.setting → new ≡ o →
    IsSoundWith t (slice_set workers i new)
kept_as s t workers i o new sound there same setting kept =
    let unchanged : slice_set workers i new ≡ workers = ap (slice_set workers i) kept ∙ set_same workers i o there in
    record {
      counted = ap attach_count same ∙ sound.counted ∙ sym (ap (λ (ws : List (Option WorldWorker)). length ws) unchanged);
      few_rows = omega (arith, sound.few_rows, ap (λ (x : Setting). x.rows) setting);
      wait = rw (unchanged, setting, same) sound.wait;
    }

-- the journal takes them, or refuses them
pub sound_flushed : (s t : SessionModel) (workers : List (Option WorldWorker)) (i : ℕ) (o new : Option WorldWorker) (out : Result StepAnswer AllocError) → IsSoundWith s workers → slice_get workers i ≡ Some o →
    FlushesAt s.setting s.journal o out t.journal new → t.setting ≡ s.setting → IsSoundWith t (slice_set workers i new)
sound_flushed s t workers i None new out sound there (out_is, same, kept) setting = kept_as s t workers i None new sound there same setting kept
sound_flushed s t workers i (Some w) new out sound there (Err r, flushes, out_is, kept) setting =
    kept_as s t workers i (Some w) new sound there (flushed_not s.setting w.number (map row_of w.waiting) s.journal t.journal r flushes) setting kept
sound_flushed s t workers i (Some w) new out sound there (Ok v, flushes, out_is, put) setting =
    let p : Setting = s.setting in
    let rs : List Row = map row_of w.waiting in
    let waits : Waits p s.journal i w = sound.wait i w there in
    let done : (first_of (flush_refusals p s.journal i (length rs)) ≡ None) × (t.journal ≡ after_flush p s.journal rs) =
    flushed_once p i rs s.journal t.journal (flush_answer_of v) (subst (λ n. FlushStep p n rs s.journal (Ok (flush_answer_of v)) t.journal) waits.number_is flushes) in
    let others : (n : ℕ) (x : WorldWorker) → (n ≡ i → ⊥) → Waits p s.journal n x → Waits p t.journal n x = λ n x differs before.
    waits_beside p s.journal t.journal n i rs x before (ne_eqb i n (λ e. differs (sym e))) waits.follow.own done.1 in
    record {
      counted = ap attach_count done.1 ∙ attach_count_after_flush p s.journal rs ∙ sound.counted ∙ sym (length-set workers i new);
      few_rows = omega (arith, sound.few_rows, ap (λ (x : Setting). x.rows) setting);
      wait = subst (λ q. AllWait q t.journal (slice_set workers i new)) (sym setting)
          (all_set p s.journal t.journal workers i new (slice_get_within workers i (Some w) there) sound.wait
          (λ x is. subst (Waits p t.journal i) (let both : Some (record w { waiting = [] }) ≡ Some x = sym put ∙ is in cc) (waits_flushed p s.journal t.journal i w waits done.0 done.1)) others);
    }

-- ---- a worker leaves
-- its place is empty, and the others go on waiting
left_place : (s t : SessionModel) (workers : List (Option WorldWorker)) (i : ℕ) (o new : Option WorldWorker) (k : Journal) → AllWait s.setting k workers → attach_count k ≡ length workers → s.setting.rows ≤ 4294967295 →
    slice_get workers i ≡ Some o → t.journal ≡ after_leave i k → t.setting ≡ s.setting → new ≡ None → IsSoundWith t (slice_set workers i new)
unfolding attach_count
left_place s t workers i o new k wait counted few there is setting none = record {
  counted = ap attach_count is ∙ counted ∙ sym (length-set workers i new);
  few_rows = omega (arith, few, ap (λ (x : Setting). x.rows) setting);
  wait = subst (λ q. AllWait q t.journal (slice_set workers i new)) (sym setting)
      (subst (λ (l : Journal). AllWait s.setting l (slice_set workers i new)) (sym is)
      (all_set s.setting k (after_leave i k) workers i new (slice_get_within workers i o there) wait
      (λ v there_is. absurd (let some : None ≡ Some v = sym none ∙ there_is in cc)) (λ n v differs before. waits_left s.setting k n i v differs before)));
}

pub sound_finished : (s t : SessionModel) (workers : List (Option WorldWorker)) (i : ℕ) (o new : Option WorldWorker) (out : Result StepAnswer AllocError) → IsSoundWith s workers → slice_get workers i ≡ Some o →
    FinishesAt s.setting s.journal o out t.journal new → t.setting ≡ s.setting → IsSoundWith t (slice_set workers i new)
sound_finished s t workers i None new out sound there (out_is, same, kept) setting = kept_as s t workers i None new sound there same setting kept
sound_finished s t workers i (Some w) new out sound there (Err r, finishes, out_is, kept) setting =
    kept_as s t workers i (Some w) new sound there (finished_not s.setting s.journal t.journal w.number (map row_of w.waiting) r finishes) setting kept
sound_finished s t workers i (Some w) new out sound there (Ok v, finishes, out_is, put) setting =
    let p : Setting = s.setting in
    let rs : List Row = map row_of w.waiting in
    let waits : Waits p s.journal i w = sound.wait i w there in
    let done = finished_once p s.journal t.journal i rs (finish_answer_of v) (subst (λ n. FinishStep p n rs s.journal (Ok (finish_answer_of v)) t.journal) waits.number_is finishes) in
    let after : Journal = after_flush p s.journal rs in
    let wait : AllWait p after (slice_set workers i None) =
    all_set p s.journal after workers i None (slice_get_within workers i (Some w) there) sound.wait (λ x is. absurd cc)
    (λ n x differs before. waits_beside p s.journal after n i rs x before (ne_eqb i n (λ e. differs (sym e))) waits.follow.own refl) in
    let length_is : length (slice_set workers i None) ≡ length workers = length-set workers i None in
    let left = left_place s t (slice_set workers i None) i None None after wait (attach_count_after_flush p s.journal rs ∙ sound.counted ∙ sym length_is) sound.few_rows
    (get_written workers i None (slice_get_within workers i (Some w) there)) done.1 setting refl in
    subst (IsSoundWith t) (ap (λ (o : Option WorldWorker). slice_set (slice_set workers i None) i o) refl ∙ set_twice workers i None ∙ ap (slice_set workers i) (sym put)) left

pub sound_abandoned : (s t : SessionModel) (workers : List (Option WorldWorker)) (i : ℕ) (o new : Option WorldWorker) (out : StepAnswer) → IsSoundWith s workers → slice_get workers i ≡ Some o →
    AbandonsAt s.journal o out t.journal new → t.setting ≡ s.setting → IsSoundWith t (slice_set workers i new)
sound_abandoned s t workers i None new out sound there (out_is, same, kept) setting = kept_as s t workers i None new sound there same setting kept
sound_abandoned s t workers i (Some w) new out sound there (out_is, is, none) setting =
    left_place s t workers i (Some w) new s.journal sound.wait sound.counted sound.few_rows there (is ∙ ap (λ n. after_leave n s.journal) (sound.wait i w there).number_is) setting none

-- ---- a world that is opened
-- it has no workers
pub sound_new : (s : SessionModel) (workers : List (Option WorldWorker)) → s.journal ≡ [] → workers ≡ [] → s.setting.rows ≤ 4294967295 → IsSoundWith s workers
unfolding attach_count
sound_new s workers journal_is none few = record {
  counted = rw (journal_is, none) refl;
  few_rows = few;
  wait = rw none (λ i w there. absurd cc);
}
