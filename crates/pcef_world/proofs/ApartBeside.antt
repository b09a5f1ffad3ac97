-- A worker that stands apart stays one of its session's as the session goes on without it.
use Rattle.pcef_journal.proofs.LaneEnds.{leave_other}
use Rattle.std.proofs.Common.{◌≡◌, ◌∙◌, ◌<◌, ◌==◌, ◌++◌, ◌∷◌, [], ℕ, List, All, filter, length, map, refl, sym, ap, subst, arith, inl, None, Some, Ok, Err}
use Rattle.std.specs.Prelude.{Option, Result, slice_get, nat_le, ◌||◌}
use Rattle.std.specs.List.{list_any}
use Rattle.std.proofs.lemmas.Bool.{cond_both, ne_eqb}
use Rattle.std.proofs.lemmas.Option.{slice_get_within}
use Rattle.pcef_packet.specs.declared.header.Header.{Header}
use Rattle.pcef_model.specs.declared.answer.AttachFault.{AttachFault}
use Rattle.pcef_model.specs.declared.answer.FlushRefusal.{FlushRefusal}
use Rattle.pcef_model.specs.declared.answer.Verdicts.{Verdicts}
use Rattle.pcef_model.specs.declared.command.Command.{Command}
use Rattle.pcef_model.specs.declared.row.Row.{Row}
use Rattle.pcef_model.specs.declared.step.Step.{Step}
use Rattle.pcef_model.specs.declared.step.Step.TheVariants as of
use Rattle.pcef_model.specs.Setting.{Setting}
use Rattle.pcef_model.specs.Entries.{lane}
use Rattle.pcef_model.specs.Journals.{attach_count, attached, gen}
use Rattle.pcef_model.specs.Outcomes.{attach_outcome, attach_outcome_by, command_outcome, finish_answer_of, finish_outcome, finish_outcome_by, flush_answer_of, flush_outcome, flush_outcome_by}
use Rattle.pcef_model.specs.Refusals.{attach_faults, first_of, flush_refusals, is_attached}
use Rattle.pcef_model.specs.Reports.{after_attach, after_flush, after_leave}
use Rattle.pcef_model.proofs.JournalExtends.{Commanded, JournalExtends, attached_after_flush, commanded, extends_same, flushed_not, flushed_once, rows_after_flush, tables_after_flush}
use Rattle.pcef_model.proofs.Lanes.{lane_other}
use Rattle.pcef_session.proofs.Leaving.{finished_not, finished_once}
use Rattle.pcef_session.specs.Following.{row_of}
use Rattle.pcef_world.specs.declared.answer.Abandoned.{Abandoned}
use Rattle.pcef_world.specs.declared.answer.StepAnswer.{StepAnswer}
use Rattle.pcef_world.specs.declared.apart.ApartWorker.{ApartWorker}
use Rattle.pcef_world.specs.Apart.{AbandonsApart, FinishesApart, FlushesApart, IsApart, IsNewApart}
use Rattle.pcef_world.specs.ApartLaws.{IsKept}
use Rattle.pcef_world.specs.Steps.{MakesStep, Reply, Standing, abandon_step, attach_step, finish_step, finished, flush_step, handed_over, most_waiting, new_worker, refresh_step, standing_of, step_outcome, take_step, with_generation, with_journal, with_none, with_place}
use Rattle.pcef_world.specs.Worlds.{AreInTurn, Waiting, World, waiting_if_there, waiting_at}
use Rattle.pcef_world.proofs.WorkersWait.{waits_later}
use Rattle.pcef_world.proofs.WrittenLists.{get_before, get_beside}

-- all that a worker at this number, whose place is empty, asks of what comes after
pub record Beside (p : Setting) (n : ℕ) (s t : Standing) : Type 0 where
  pub extends : JournalExtends p s.journal t.journal
  pub lane_is : lane t.journal n ≡ lane s.journal n
  pub attached_is : is_attached t.journal n ≡ is_attached s.journal n
  pub place_is : slice_get t.workers n ≡ slice_get s.workers n

-- it is enough
pub apart_beside : (v w : World) (a : ApartWorker) → w.session.setting ≡ v.session.setting → Beside v.session.setting a.worker.number (standing_of v) (standing_of w) → IsApart v a → IsApart w a
apart_beside v w a setting beside apart =
    let p : Setting = v.session.setting in
    let n : ℕ = a.worker.number in
    record {
      waits = rw setting (waits_later p v.session.journal w.session.journal n a.worker beside.extends beside.lane_is beside.attached_is apart.waits);
      place_is = beside.place_is ∙ apart.place_is;
      ue_is = apart.ue_is ∙ ap (λ (x : Setting). x.ue) (sym setting);
      lane_is = apart.lane_is ∙ ap length (sym beside.lane_is);
      few = apart.few;
    }

-- ---- one change
beside_same : (p : Setting) (n : ℕ) (s : Standing) → Beside p n s s
beside_same p n s = record { extends = extends_same p s.journal s.journal refl; lane_is = refl; attached_is = refl; place_is = refl }

beside_equal : (p : Setting) (n : ℕ) (s t : Standing) → t ≡ s → Beside p n s t
beside_equal p n s t same = rw same (beside_same p n s)

-- the place of another worker changes
beside_place : (p : Setting) (n m : ℕ) (s t : Standing) (place : Option Waiting) → (n ≡ m → ⊥) → Beside p n s t → Beside p n s (with_place m place t)
beside_place p n m s t place differ beside = record {
  extends = beside.extends;
  lane_is = beside.lane_is;
  attached_is = beside.attached_is;
  place_is = get_beside t.workers m n place differ ∙ beside.place_is;
}

-- rows of another worker are taken over
beside_flush : (p : Setting) (n m : ℕ) (s : Standing) (rs : List Row) → (n ≡ m → ⊥) → All (λ r. r.worker ≡ m) rs → Beside p n s (with_journal (after_flush p s.journal rs) s)
beside_flush p n m s rs differ own = record {
  extends = extends_same p s.journal (after_flush p s.journal rs) (tables_after_flush p s.journal rs);
  lane_is = ap (filter (λ (r : Row). r.worker == n)) (rows_after_flush p s.journal rs) ∙ lane_other n m rs s.journal (ne_eqb m n (λ e. differ (sym e))) own;
  attached_is = ap (λ ns. list_any (λ v. v == n) ns) (attached_after_flush p s.journal rs);
  place_is = refl;
}

-- another worker leaves
beside_leave : (p : Setting) (n m : ℕ) (s t : Standing) → (n ≡ m → ⊥) → Beside p n s t → Beside p n s (with_journal (after_leave m t.journal) t)
unfolding attached
beside_leave p n m s t differ beside = record {
  extends = record { gen_more = beside.extends.gen_more; at_is = beside.extends.at_is; grows = beside.extends.grows };
  lane_is = beside.lane_is;
  attached_is = leave_other t.journal m n (attached t.journal) differ ∙ beside.attached_is;
  place_is = beside.place_is;
}

-- another worker comes
beside_attach : (p : Setting) (n : ℕ) (s : Standing) (place : Option Waiting) → attach_count s.journal ≡ length s.workers → slice_get s.workers n ≡ Some None →
    Beside p n s (record { journal = after_attach s.journal; workers = s.workers ++ place ∷ [] })
unfolding attached
beside_attach p n s place counted empty =
    let within : n < length s.workers = slice_get_within s.workers n None empty in
    record {
      extends = extends_same p s.journal (after_attach s.journal) refl;
      lane_is = refl;
      attached_is = ap (λ b. b || is_attached s.journal n) (ne_eqb (attach_count s.journal) n (λ e. omega (arith, e, within, counted)));
      place_is = get_before s.workers None place n empty ∙ sym empty;
    }

-- ---- a step
-- a worker that is there has another number
differs_from : (s : Standing) (n m : ℕ) (w : Waiting) → waiting_at s.workers m ≡ Some w → slice_get s.workers n ≡ Some None → n ≡ m → ⊥
differs_from s n m w there empty same =
    let at_m : slice_get s.workers m ≡ Some None = subst (λ i. slice_get s.workers i ≡ Some None) same empty in
    let none : waiting_at s.workers m ≡ None = ap waiting_if_there at_m in
    let both : Some w ≡ None = sym there ∙ none in
    cc

command_beside : (p : Setting) (n : ℕ) (s : Standing) (c : Command) → Beside p n s (with_journal (command_outcome p s.journal c).1 s)
command_beside p n s c =
    let done : Commanded p s.journal (command_outcome p s.journal c).1 = commanded p c s.journal (command_outcome p s.journal c).1 (command_outcome p s.journal c).0 (inl (refl, refl)) in
    record {
      extends = done.extends;
      lane_is = ap (filter (λ (r : Row). r.worker == n)) done.rows_are;
      attached_is = ap (list_any (λ v. v == n)) done.attached_are;
      place_is = refl;
    }

attach_beside : (p : Setting) (n : ℕ) (s : Standing) → attach_count s.journal ≡ length s.workers → slice_get s.workers n ≡ Some None → Beside p n s (attach_step s (attach_outcome s.journal)).1
unfolding attach_outcome
attach_beside p n s counted empty = from (first_of (attach_faults s.journal))
  where
    from : (o : Option AttachFault) → Beside p n s (attach_step s (attach_outcome_by s.journal o)).1
    from (Some fault) = beside_same p n s
    from None = beside_attach p n s (Some (new_worker s.journal)) counted empty

take_beside : (p : Setting) (n m : ℕ) (s : Standing) (header : Header) (o : Option Waiting) → waiting_at s.workers m ≡ o → slice_get s.workers n ≡ Some None → Beside p n s (take_step p s m header o).1
take_beside p n m s header None there empty = beside_same p n s
take_beside p n m s header (Some w) there empty =
    cond_both (nat_le most_waiting (length w.rows)) _ _ (λ (x : Reply × Standing). Beside p n s x.1)
    (λ _. beside_same p n s) (λ _. beside_place p n m s s _ (differs_from s n m w there empty) (beside_same p n s))

refresh_beside : (p : Setting) (n m : ℕ) (s : Standing) (o : Option Waiting) → waiting_at s.workers m ≡ o → slice_get s.workers n ≡ Some None → Beside p n s (refresh_step s m o).1
refresh_beside p n m s None there empty = beside_same p n s
refresh_beside p n m s (Some w) there empty = beside_place p n m s s (Some (with_generation (gen s.journal) w)) (differs_from s n m w there empty) (beside_same p n s)

flush_beside : (p : Setting) (n m : ℕ) (s : Standing) (o : Option Waiting) → AreInTurn p s.journal s.workers → waiting_at s.workers m ≡ o → slice_get s.workers n ≡ Some None → Beside p n s (flush_step p s m o).1
unfolding flush_outcome
flush_beside p n m s None in_turn there empty = beside_same p n s
flush_beside p n m s (Some w) in_turn there empty = from (first_of (flush_refusals p s.journal m (length w.rows)))
  where
    from : (o : Option FlushRefusal) → Beside p n s (handed_over s m w (flush_outcome_by p s.journal w.rows o)).1
    from (Some r) = beside_same p n s
    from None =
        let differ : n ≡ m → ⊥ = differs_from s n m w there empty in
        beside_place p n m s (with_journal (after_flush p s.journal w.rows) s) (Some (with_none w)) differ (beside_flush p n m s w.rows differ (in_turn m w there).follow.own)

finish_beside : (p : Setting) (n m : ℕ) (s : Standing) (o : Option Waiting) → AreInTurn p s.journal s.workers → waiting_at s.workers m ≡ o → slice_get s.workers n ≡ Some None → Beside p n s (finish_step p s m o).1
unfolding finish_outcome
finish_beside p n m s None in_turn there empty = beside_same p n s
finish_beside p n m s (Some w) in_turn there empty = from (first_of (flush_refusals p s.journal m (length w.rows)))
  where
    from : (o : Option FlushRefusal) → Beside p n s (finished s m (finish_outcome_by p s.journal m w.rows o)).1
    from (Some r) = beside_same p n s
    from None =
        let differ : n ≡ m → ⊥ = differs_from s n m w there empty in
        let after : Standing = with_journal (after_flush p s.journal w.rows) s in
        beside_place p n m s (with_journal (after_leave m after.journal) after) None differ
        (beside_leave p n m s after differ (beside_flush p n m s w.rows differ (in_turn m w there).follow.own))

abandon_beside : (p : Setting) (n m : ℕ) (s : Standing) (o : Option Waiting) → waiting_at s.workers m ≡ o → slice_get s.workers n ≡ Some None → Beside p n s (abandon_step s m o).1
abandon_beside p n m s None there empty = beside_same p n s
abandon_beside p n m s (Some w) there empty =
    let differ : n ≡ m → ⊥ = differs_from s n m w there empty in
    beside_place p n m s (with_journal (after_leave m s.journal) s) None differ (beside_leave p n m s s differ (beside_same p n s))

step_beside : (p : Setting) (n : ℕ) (s : Standing) (step : Step) → attach_count s.journal ≡ length s.workers → AreInTurn p s.journal s.workers → slice_get s.workers n ≡ Some None → Beside p n s (step_outcome p s step).1
unfolding step_outcome
step_beside p n s (of.Command c) counted in_turn empty = command_beside p n s c
step_beside p n s of.Attach counted in_turn empty = attach_beside p n s counted empty
step_beside p n s (of.Take m header) counted in_turn empty = take_beside p n m s header (waiting_at s.workers m) refl empty
step_beside p n s (of.Refresh m) counted in_turn empty = refresh_beside p n m s (waiting_at s.workers m) refl empty
step_beside p n s (of.Flush m) counted in_turn empty = flush_beside p n m s (waiting_at s.workers m) in_turn refl empty
step_beside p n s (of.Finish m) counted in_turn empty = finish_beside p n m s (waiting_at s.workers m) in_turn refl empty
step_beside p n s (of.Abandon m) counted in_turn empty = abandon_beside p n m s (waiting_at s.workers m) refl empty

-- ---- the laws
pub stays_beside_the_same : (v w : World) (a : ApartWorker) → standing_of w ≡ standing_of v → w.session.setting ≡ v.session.setting → IsApart v a → IsApart w a
stays_beside_the_same v w a same setting apart = apart_beside v w a setting (beside_equal v.session.setting a.worker.number (standing_of v) (standing_of w) same) apart

pub stays_beside_steps : (v w : World) (step : Step) (answer : StepAnswer) (a : ApartWorker) → IsKept v → MakesStep v step answer w → w.session.setting ≡ v.session.setting → IsApart v a → IsApart w a
stays_beside_steps v w step answer a kept made setting apart =
    let p : Setting = v.session.setting in
    let after = step_beside p a.worker.number (standing_of v) step kept.places kept.in_turn apart.place_is in
    apart_beside v w a setting (subst (Beside p a.worker.number (standing_of v)) (sym made.1) after) apart

pub stays_beside_coming : (v w : World) (a b : ApartWorker) → IsKept v → IsNewApart v w b → w.session.setting ≡ v.session.setting → IsApart v a → IsApart w a
stays_beside_coming v w a b kept new setting apart =
    let p : Setting = v.session.setting in
    let is : standing_of w ≡ record { journal = after_attach v.session.journal; workers = v.workers ++ None ∷ [] } = rw (new.journal_is, new.workers_are) refl in
    apart_beside v w a setting (subst (Beside p a.worker.number (standing_of v)) (sym is) (beside_attach p a.worker.number (standing_of v) None kept.places apart.place_is)) apart

-- the places stay, and the journal is another
moved : (v w : World) (k : _) → w.session.journal ≡ k → w.workers ≡ v.workers → standing_of w ≡ with_journal k (standing_of v)
moved v w k journal workers = rw (journal, workers) refl

pub stays_beside_flushes : (v w : World) (a b c : ApartWorker) (r : Result Verdicts FlushRefusal) → (a.worker.number ≡ b.worker.number → ⊥) → IsApart v b → FlushesApart v b r w c → IsApart v a → IsApart w a
stays_beside_flushes v w a b c (Err r) differ other flushes apart =
    let same : w.session.journal ≡ v.session.journal = flushed_not v.session.setting b.worker.number (map row_of b.worker.waiting) v.session.journal w.session.journal r flushes.step in
    stays_beside_the_same v w a (moved v w v.session.journal same flushes.workers_are) flushes.setting_is apart
stays_beside_flushes v w a b c (Ok d) differ other flushes apart =
    let p : Setting = v.session.setting in
    let rs : List Row = map row_of b.worker.waiting in
    let done = flushed_once p b.worker.number rs v.session.journal w.session.journal (flush_answer_of d) flushes.step in
    let after = beside_flush p a.worker.number b.worker.number (standing_of v) rs differ other.waits.follow.own in
    apart_beside v w a flushes.setting_is (subst (Beside p a.worker.number (standing_of v)) (sym (moved v w (after_flush p v.session.journal rs) done.1 flushes.workers_are)) after) apart

pub stays_beside_finishing : (v w : World) (a b : ApartWorker) (r : Result (Verdicts × ℕ) FlushRefusal) → (a.worker.number ≡ b.worker.number → ⊥) → IsApart v b → FinishesApart v b r w → IsApart v a → IsApart w a
stays_beside_finishing v w a b (Err r) differ other finishes apart =
    let same : w.session.journal ≡ v.session.journal = finished_not v.session.setting v.session.journal w.session.journal b.worker.number (map row_of b.worker.waiting) r finishes.step in
    stays_beside_the_same v w a (moved v w v.session.journal same finishes.workers_are) finishes.setting_is apart
stays_beside_finishing v w a b (Ok d) differ other finishes apart =
    let p : Setting = v.session.setting in
    let rs : List Row = map row_of b.worker.waiting in
    let done = finished_once p v.session.journal w.session.journal b.worker.number rs (finish_answer_of d) finishes.step in
    let flushed : Standing = with_journal (after_flush p v.session.journal rs) (standing_of v) in
    let after = beside_leave p a.worker.number b.worker.number (standing_of v) flushed differ (beside_flush p a.worker.number b.worker.number (standing_of v) rs differ other.waits.follow.own) in
    apart_beside v w a finishes.setting_is (subst (Beside p a.worker.number (standing_of v)) (sym (moved v w (after_leave b.worker.number flushed.journal) done.1 finishes.workers_are)) after) apart

pub stays_beside_leaving : (v w : World) (a b : ApartWorker) (r : Abandoned) → (a.worker.number ≡ b.worker.number → ⊥) → AbandonsApart v b r w → IsApart v a → IsApart w a
stays_beside_leaving v w a b r differ leaves apart =
    let p : Setting = v.session.setting in
    let after = beside_leave p a.worker.number b.worker.number (standing_of v) (standing_of v) differ (beside_same p a.worker.number (standing_of v)) in
    apart_beside v w a leaves.setting_is (subst (Beside p a.worker.number (standing_of v)) (sym (moved v w (after_leave b.worker.number v.session.journal) leaves.journal_is leaves.workers_are)) after) apart
