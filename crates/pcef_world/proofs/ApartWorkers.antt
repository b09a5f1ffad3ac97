-- What always holds of a world stays as a worker that stands apart comes, hands its rows over and leaves.
use Rattle.std.proofs.Common.{◌≡◌, ◌∙◌, ◌≤◌, ◌+◌, ℕ, List, [], ◌∷◌, ◌++◌, length, map, refl, sym, ap, subst, arith, inl, inr, None, Ok, Err}
use Rattle.std.specs.Prelude.{Option, Result, Some, slice_get, ◌||◌}
use Rattle.std.specs.Option.{option_map}
use Rattle.std.proofs.lemmas.Bool.{ne_eqb}
use Rattle.std.proofs.lemmas.List.{length_push, map-append}
use Rattle.std.specs.Result.{result_map_both}
use Rattle.std.proofs.lemmas.Option.{slice_get_within}
use Rattle.pcef_model.specs.declared.answer.FlushRefusal.{FlushRefusal}
use Rattle.pcef_model.specs.declared.answer.Verdicts.{Verdicts}
use Rattle.pcef_model.specs.declared.row.Row.{Row}
use Rattle.pcef_model.specs.Setting.{Setting}
use Rattle.pcef_model.specs.Entries.{Journal, lane}
use Rattle.pcef_model.specs.Journals.{attach_count, attached, gen, lane_len, tables}
use Rattle.pcef_model.specs.Reports.{after_attach, after_flush, after_leave}
use Rattle.std.specs.Prelude.{true}
use Rattle.pcef_model.specs.Outcomes.{AttachStep, abandon_outcome, FinishStep, FlushStep, finish_answer_of, flush_answer_of}
use Rattle.pcef_model.specs.Refusals.{first_of, flush_refusals, is_attached}
use Rattle.pcef_model.proofs.JournalExtends.{attach_count_after_flush, attached_once, flushed_not, flushed_once, extends_same}
use Rattle.pcef_session.proofs.Leaving.{finished_not, finished_once}
use Rattle.pcef_session.specs.Following.{row_of}
use Rattle.pcef_session.specs.SessionModel.{SessionModel}
use Rattle.pcef_session.specs.Shown.{Shows}
use Rattle.pcef_world.specs.declared.apart.ApartWorker.{ApartWorker}
use Rattle.pcef_world.specs.declared.worker.WorldWorker.{WorldWorker}
use Rattle.pcef_world.specs.Worlds.{Waiting, World, waiting_if_there, waiting_at}
use Rattle.pcef_packet.specs.declared.header.Header.{Header}
use Rattle.pcef_session.specs.declared.batch.BatchFull.{BatchFull}
use Rattle.pcef_world.specs.Apart.{FlushesApart, IsApart, IsNewApart, IsRefreshed, TakesApart, LacksApart}
use Rattle.pcef_world.specs.Steps.{standing_of}
use Rattle.pcef_world.specs.private.Soundness.{IsSoundWith}
use Rattle.std.specs.Prelude.{OnErr}
use Rattle.pcef_world.specs.Workers.{AllWait, IsJudged, MayHandOver, Waits, after_flushing, held_by, with_item, LacksForItem, seen}
use Rattle.pcef_world.proofs.WorkersWait.{waits_beside, waits_flushed, waits_later, waits_left, waits_new, waits_refresh, waits_take}
use Rattle.pcef_world.proofs.WrittenLists.{get_mapped, get_pushed}

-- what callers see of places
abbrev pub shown : List (Option WorldWorker) → List (Option Waiting)
shown workers = map (option_map seen) workers

abbrev pub world_with : SessionModel → List (Option WorldWorker) → World
world_with s workers = record { session = s; workers = shown workers }

-- ---- numbers
-- a worker that is there has another number than one whose place is empty
pub other_number : (workers : List (Option WorldWorker)) (m n : ℕ) (w : WorldWorker) → slice_get workers m ≡ Some (Some w) → waiting_at (shown workers) n ≡ None → m ≡ n → ⊥
other_number workers m n w there none same =
    let at_n : slice_get workers n ≡ Some (Some w) = subst (λ i. slice_get workers i ≡ Some (Some w)) same there in
    let seen_there : waiting_at (shown workers) n ≡ Some (seen w) = ap waiting_if_there (get_mapped (option_map seen) workers n ∙ ap (option_map (option_map seen)) at_n) in
    absurd (let both : None ≡ Some (seen w) = sym none ∙ seen_there in cc)

-- a worker that is there has a number that was given before
below_length : (workers : List (Option WorldWorker)) (i : ℕ) (w : WorldWorker) → slice_get workers i ≡ Some (Some w) → length workers ≡ i → ⊥
below_length workers i w there same = let within = slice_get_within workers i (Some w) there in omega (arith, within, same)

-- the last place of a list
get_last : {X : Type 0} (xs : List X) (x : X) → slice_get (xs ++ x ∷ []) (length xs) ≡ Some x
get_last [] x = refl
get_last (y ∷ xs) x = get_last xs x

-- ---- a worker comes
-- the places of the others stay, and its own is empty
pub sound_attached_apart : (s t : SessionModel) (workers : List (Option WorldWorker)) (number : ℕ) → IsSoundWith s workers → AttachStep s.journal (Ok number) t.journal → t.setting ≡ s.setting →
    IsSoundWith t (workers ++ None ∷ [])
unfolding attach_count attached
sound_attached_apart s t workers number sound attaches setting =
    let p : Setting = s.setting in
    let come : (number ≡ attach_count s.journal) × (t.journal ≡ after_attach s.journal) = attached_once s.journal t.journal number attaches in
    let more : attach_count t.journal ≡ attach_count s.journal + 1 = ap attach_count come.1 in
    let others : AllWait p t.journal (workers ++ None ∷ []) = λ i x there.
    elim (get_pushed workers (Some x) None i there) [
      | inl before ↦
          waits_later p s.journal t.journal i x (extends_same p s.journal t.journal (ap tables come.1)) (ap (λ j. lane j i) come.1)
          (ap (λ j. is_attached j i) come.1
          ∙ ap (λ b. b || is_attached s.journal i) (ne_eqb (attach_count s.journal) i (λ e. below_length workers i x before (sym sound.counted ∙ e))))
          (sound.wait i x before)
      | inr last ↦ absurd (let none : None ≡ Some x = last.1 in cc)
    ] in
    record {
      counted = omega (arith, more, sound.counted, length_push workers None);
      few_rows = omega (arith, sound.few_rows, ap (λ (x : Setting). x.rows) setting);
      wait = subst (λ q. AllWait q t.journal (workers ++ None ∷ [])) (sym setting) others;
    }

-- it is one of the session's
pub is_apart_new : (s t : SessionModel) (workers : List (Option WorldWorker)) (number : ℕ) (a : ApartWorker) → IsSoundWith s workers → AttachStep s.journal (Ok number) t.journal → t.setting ≡ s.setting →
    lane s.journal number ≡ [] → Shows s.setting s.journal (gen s.journal) (held_by a.worker) → a.worker.number ≡ number → a.worker.waiting ≡ [] → a.ue ≡ s.setting.ue → a.handed_over ≡ 0 →
    IsApart (world_with t (workers ++ None ∷ [])) a
is_apart_new s t workers number a sound attaches setting empty shows number_is none ue_is handed_is =
    let p : Setting = s.setting in
    let come : (number ≡ attach_count s.journal) × (t.journal ≡ after_attach s.journal) = attached_once s.journal t.journal number attaches in
    let waits : Waits p t.journal (attach_count s.journal) a.worker = waits_new p s.journal t.journal a.worker (rw come.0 at empty) come.1 shows (number_is ∙ come.0) none in
    let place : number ≡ length workers = come.0 ∙ sound.counted in
    record {
      waits = subst (λ q. Waits q t.journal a.worker.number a.worker) (sym setting) (subst (λ n. Waits p t.journal n a.worker) (sym (number_is ∙ come.0)) waits);
      place_is = ap (slice_get (shown (workers ++ None ∷ []))) (number_is ∙ place)
          ∙ get_mapped (option_map seen) (workers ++ None ∷ []) (length workers)
          ∙ ap (option_map (option_map seen)) (get_last workers None);
      ue_is = ue_is ∙ ap (λ (x : Setting). x.ue) (sym setting);
      lane_is = handed_is ∙ sym (ap length (ap (λ j. lane j a.worker.number) come.1 ∙ ap (lane s.journal) number_is ∙ empty));
      few = omega (arith, handed_is);
    }

-- ---- its rows are handed over
pub may_hand_over_apart : (s : SessionModel) (workers : List (Option WorldWorker)) (a : ApartWorker) → IsApart (world_with s workers) a → MayHandOver s.setting s.journal a.worker
may_hand_over_apart s workers a apart = record { follow = apart.waits.follow; slots = apart.waits.slots }

-- the others go on waiting
pub sound_flushed_apart : (s t : SessionModel) (workers : List (Option WorldWorker)) (a : ApartWorker) (r : Result Verdicts FlushRefusal) → IsSoundWith s workers → IsApart (world_with s workers) a →
    FlushStep s.setting a.worker.number (map row_of a.worker.waiting) s.journal (result_map_both flush_answer_of (λ e. e) r) t.journal → t.setting ≡ s.setting → IsSoundWith t workers
sound_flushed_apart s t workers a (Err r) sound apart flushes setting =
    let same : t.journal ≡ s.journal = flushed_not s.setting a.worker.number (map row_of a.worker.waiting) s.journal t.journal r flushes in
    record { counted = rw same sound.counted; few_rows = rw setting sound.few_rows; wait = rw (setting, same) sound.wait }
sound_flushed_apart s t workers a (Ok v) sound apart flushes setting =
    let p : Setting = s.setting in
    let rs : List Row = map row_of a.worker.waiting in
    let done : (first_of (flush_refusals p s.journal a.worker.number (length rs)) ≡ None) × (t.journal ≡ after_flush p s.journal rs) =
    flushed_once p a.worker.number rs s.journal t.journal (flush_answer_of v) flushes in
    record {
      counted = ap attach_count done.1 ∙ attach_count_after_flush p s.journal rs ∙ sound.counted;
      few_rows = rw setting sound.few_rows;
      wait = subst (λ q. AllWait q t.journal workers) (sym setting)
          (λ m x there.
          waits_beside p s.journal t.journal m a.worker.number rs x (sound.wait m x there) (ne_eqb a.worker.number m (λ e. other_number workers m a.worker.number x there (ap waiting_if_there apart.place_is) (sym e))) apart.waits.follow.own done.1);
    }

-- ---- it leaves
-- without its rows
pub sound_abandoned_apart : (s t : SessionModel) (workers : List (Option WorldWorker)) (a : ApartWorker) → IsSoundWith s workers → IsApart (world_with s workers) a → t.journal ≡ after_leave a.worker.number s.journal →
    t.setting ≡ s.setting → IsSoundWith t workers
unfolding attach_count
sound_abandoned_apart s t workers a sound apart is setting =
    let p : Setting = s.setting in
    record {
      counted = ap attach_count is ∙ sound.counted;
      few_rows = rw setting sound.few_rows;
      wait = subst (λ q. AllWait q t.journal workers) (sym setting)
          (subst (λ (k : Journal). AllWait p k workers) (sym is)
          (λ m x there. waits_left p s.journal m a.worker.number x (other_number workers m a.worker.number x there (ap waiting_if_there apart.place_is)) (sound.wait m x there)));
    }

-- with its last rows
pub sound_finished_apart : (s t : SessionModel) (workers : List (Option WorldWorker)) (a : ApartWorker) (r : Result (Verdicts × ℕ) FlushRefusal) → IsSoundWith s workers → IsApart (world_with s workers) a →
    FinishStep s.setting a.worker.number (map row_of a.worker.waiting) s.journal (result_map_both finish_answer_of (λ e. e) r) t.journal → t.setting ≡ s.setting → IsSoundWith t workers
unfolding attach_count
sound_finished_apart s t workers a (Err r) sound apart finishes setting =
    let same : t.journal ≡ s.journal = finished_not s.setting s.journal t.journal a.worker.number (map row_of a.worker.waiting) r finishes in
    record { counted = rw same sound.counted; few_rows = rw setting sound.few_rows; wait = rw (setting, same) sound.wait }
sound_finished_apart s t workers a (Ok v) sound apart finishes setting =
    let p : Setting = s.setting in
    let rs : List Row = map row_of a.worker.waiting in
    let done = finished_once p s.journal t.journal a.worker.number rs (finish_answer_of v) finishes in
    let after : Journal = after_flush p s.journal rs in
    record {
      counted = ap attach_count done.1 ∙ attach_count_after_flush p s.journal rs ∙ sound.counted;
      few_rows = rw setting sound.few_rows;
      wait = subst (λ q. AllWait q t.journal workers) (sym setting)
          (subst (λ (k : Journal). AllWait p k workers) (sym done.1)
          (λ m x there.
          let other = other_number workers m a.worker.number x there (ap waiting_if_there apart.place_is) in
          waits_left p after m a.worker.number x other
          (waits_beside p s.journal after m a.worker.number rs x (sound.wait m x there) (ne_eqb a.worker.number m (λ e. other (sym e))) apart.waits.follow.own refl)));
    }

-- it stays one of the session's as it hands its rows over
pub is_apart_flushed : (s t : SessionModel) (workers : List (Option WorldWorker)) (a b : ApartWorker) (v : Verdicts) → s.setting.rows ≤ 4294967295 → IsApart (world_with s workers) a →
    FlushStep s.setting a.worker.number (map row_of a.worker.waiting) s.journal (Ok (flush_answer_of v)) t.journal → t.setting ≡ s.setting → b.worker ≡ record a.worker { waiting = [] } → b.ue ≡ a.ue →
    b.handed_over ≡ lane_len t.journal a.worker.number → IsApart (world_with t workers) b
is_apart_flushed s t workers a b v few_rows apart flushes setting worker_is ue_is handed_is =
    let p : Setting = s.setting in
    let rs : List Row = map row_of a.worker.waiting in
    let done : (first_of (flush_refusals p s.journal a.worker.number (length rs)) ≡ None) × (t.journal ≡ after_flush p s.journal rs) =
    flushed_once p a.worker.number rs s.journal t.journal (flush_answer_of v) flushes in
    let waits : Waits p t.journal a.worker.number (record a.worker { waiting = [] }) = waits_flushed p s.journal t.journal a.worker.number a.worker apart.waits done.0 done.1 in
    let number_is : b.worker.number ≡ a.worker.number = ap (λ (w : WorldWorker). w.number) worker_is in
    record {
      waits = subst (λ q. Waits q t.journal b.worker.number b.worker) (sym setting) (rw (number_is, worker_is) waits);
      place_is = rw number_is apart.place_is;
      ue_is = ue_is ∙ apart.ue_is ∙ ap (λ (x : Setting). x.ue) (sym setting);
      lane_is = rw number_is handed_is;
      few = omega (arith, handed_is, waits.few, few_rows);
    }

-- a worker that is attached leaves
pub abandoned_apart : (j : Journal) (n : ℕ) → is_attached j n ≡ true → (abandon_outcome j n).1 ≡ after_leave n j
abandoned_apart j n is = rw is refl

-- ---- the clauses
-- what is said of an error holds of any outcome, where it holds
pub on_err : {A E : Type 0} (r : Result A E) (P : Type 0) → P → OnErr r P
on_err (Ok a) P p = tt
on_err (Err e) P p = p

pub lacks_apart : {A E : Type 0} (r : Result A E) (a : ApartWorker) (v : WorldWorker) → OnErr r (LacksForItem a.worker v) → OnErr r (LacksApart a (record a { worker = v }))
lacks_apart (Ok x) a v lacks = tt
lacks_apart (Err e) a v (few, same) = (few, ap (λ (w : WorldWorker). record a { worker = w }) same)

pub standing_same : (s t : SessionModel) (workers : List (Option WorldWorker)) → t.journal ≡ s.journal → standing_of (world_with t workers) ≡ standing_of (world_with s workers)
standing_same s t workers same = rw same refl

pub new_apart : (s t : SessionModel) (workers : List (Option WorldWorker)) (number : ℕ) (a : ApartWorker) → IsSoundWith s workers → AttachStep s.journal (Ok number) t.journal → t.setting ≡ s.setting →
    lane s.journal number ≡ [] → Shows s.setting s.journal (gen s.journal) (held_by a.worker) → a.worker.number ≡ number → a.worker.waiting ≡ [] → a.ue ≡ s.setting.ue → a.handed_over ≡ 0 →
    IsNewApart (world_with s workers) (world_with t (workers ++ None ∷ [])) a
new_apart s t workers number a sound attaches setting empty shows number_is none ue_is handed_is =
    let come : (number ≡ attach_count s.journal) × (t.journal ≡ after_attach s.journal) = attached_once s.journal t.journal number attaches in
    record {
      journal_is = come.1;
      number_is = number_is ∙ come.0;
      rows_are = none;
      shows = shows;
      workers_are = map-append (option_map seen) workers (None ∷ []);
      is_apart = is_apart_new s t workers number a sound attaches setting empty shows number_is none ue_is handed_is;
    }

pub flushes_refused : (s t : SessionModel) (workers : List (Option WorldWorker)) (a b : ApartWorker) (r : FlushRefusal) → IsApart (world_with s workers) a →
    FlushStep s.setting a.worker.number (map row_of a.worker.waiting) s.journal (Err r) t.journal → t.setting ≡ s.setting → t.forgotten ≡ s.forgotten → b.worker ≡ a.worker → b.ue ≡ a.ue →
    b.handed_over ≡ lane_len t.journal a.worker.number → FlushesApart (world_with s workers) a (Err r) (world_with t workers) b
flushes_refused s t workers a b r apart flushes setting forgotten worker_is ue_is handed_is =
    let same : t.journal ≡ s.journal = flushed_not s.setting a.worker.number (map row_of a.worker.waiting) s.journal t.journal r flushes in
    record {
      step = flushes;
      setting_is = setting;
      forgotten_is = forgotten;
      workers_are = refl;
      rows_are = ap (λ (w : WorldWorker). w.waiting) worker_is;
      number_is = ap (λ (w : WorldWorker). w.number) worker_is;
      held_is = ap held_by worker_is;
      is_apart = record {
        waits = rw (worker_is, setting, same) apart.waits;
        place_is = rw worker_is apart.place_is;
        ue_is = ue_is ∙ apart.ue_is ∙ ap (λ (x : Setting). x.ue) (sym setting);
        lane_is = rw worker_is handed_is;
        few = omega (arith, handed_is, ap (λ (k : Journal). lane_len k a.worker.number) same, apart.lane_is, apart.few);
      };
    }

pub flushes_taken : (s t : SessionModel) (workers : List (Option WorldWorker)) (a b : ApartWorker) (v : Verdicts) → s.setting.rows ≤ 4294967295 → IsApart (world_with s workers) a →
    FlushStep s.setting a.worker.number (map row_of a.worker.waiting) s.journal (Ok (flush_answer_of v)) t.journal → t.setting ≡ s.setting → t.forgotten ≡ s.forgotten →
    b.worker ≡ record a.worker { waiting = [] } → b.ue ≡ a.ue → b.handed_over ≡ lane_len t.journal a.worker.number → FlushesApart (world_with s workers) a (Ok v) (world_with t workers) b
flushes_taken s t workers a b v few_rows apart flushes setting forgotten worker_is ue_is handed_is = record {
  step = flushes;
  setting_is = setting;
  forgotten_is = forgotten;
  workers_are = refl;
  rows_are = ap (λ (w : WorldWorker). w.waiting) worker_is;
  number_is = ap (λ (w : WorldWorker). w.number) worker_is;
  held_is = ap held_by worker_is;
  is_apart = is_apart_flushed s t workers a b v few_rows apart flushes setting worker_is ue_is handed_is;
}

pub flushes_apart : (s t : SessionModel) (workers : List (Option WorldWorker)) (a b : ApartWorker) (r : Result Verdicts FlushRefusal) → s.setting.rows ≤ 4294967295 → IsApart (world_with s workers) a →
    FlushStep s.setting a.worker.number (map row_of a.worker.waiting) s.journal (result_map_both flush_answer_of (λ e. e) r) t.journal → t.setting ≡ s.setting → t.forgotten ≡ s.forgotten →
    b.worker ≡ after_flushing r a.worker → b.ue ≡ a.ue → b.handed_over ≡ lane_len t.journal a.worker.number → FlushesApart (world_with s workers) a r (world_with t workers) b
flushes_apart s t workers a b (Err r) few_rows apart flushes setting forgotten worker_is ue_is handed_is =
    flushes_refused s t workers a b r apart flushes setting forgotten worker_is ue_is handed_is
flushes_apart s t workers a b (Ok v) few_rows apart flushes setting forgotten worker_is ue_is handed_is =
    flushes_taken s t workers a b v few_rows apart flushes setting forgotten worker_is ue_is handed_is

-- ---- what it does alone
-- one more row waits, or none
pub apart_taken : (w : World) (header : Header) (a b : ApartWorker) (r : Result ℕ BatchFull) → IsApart w a → TakesApart w.session.setting.catalog header a r b → IsApart w b
apart_taken w header a b (Ok count) apart ((few, count_is, item, made, new_is), ue_is, handed_is) =
    let p : Setting = w.session.setting in
    let j : Journal = w.session.journal in
    let judged : IsJudged p.catalog p.ue header (lane_len j a.worker.number) a.worker item =
    subst (λ n. IsJudged p.catalog p.ue header n a.worker item) apart.lane_is (subst (λ u. IsJudged p.catalog u header a.handed_over a.worker item) apart.ue_is made) in
    let waits : Waits p j a.worker.number (with_item item a.worker) = waits_take p j a.worker.number a.worker header item apart.waits judged in
    record {
      waits = rw new_is waits;
      place_is = rw new_is apart.place_is;
      ue_is = ue_is ∙ apart.ue_is;
      lane_is = rw new_is (handed_is ∙ apart.lane_is);
      few = omega (arith, handed_is, apart.few);
    }
apart_taken w header a b (Err full) apart ((many, new_is), ue_is, handed_is) = record {
  waits = rw new_is apart.waits;
  place_is = rw new_is apart.place_is;
  ue_is = ue_is ∙ apart.ue_is;
  lane_is = rw new_is (handed_is ∙ apart.lane_is);
  few = omega (arith, handed_is, apart.few);
}

-- it holds the newest table
pub apart_refreshed : (w : World) (a b : ApartWorker) (generation : ℕ) → IsApart w a → IsRefreshed w.session generation a b → IsApart w b
apart_refreshed w a b generation apart is =
    let p : Setting = w.session.setting in
    let j : Journal = w.session.journal in
    let shows : Shows p j (gen j) (held_by b.worker) = subst (λ n. Shows p j n (held_by b.worker)) is.generation_is is.shows in
    let waits : Waits p j a.worker.number b.worker = waits_refresh p j a.worker.number a.worker b.worker apart.waits shows is.number_is is.rows_are in
    record {
      waits = subst (λ n. Waits p j n b.worker) (sym is.number_is) waits;
      place_is = rw is.number_is apart.place_is;
      ue_is = is.ue_is ∙ apart.ue_is;
      lane_is = rw is.number_is (is.handed_over_is ∙ apart.lane_is);
      few = omega (arith, is.handed_over_is, apart.few);
    }
