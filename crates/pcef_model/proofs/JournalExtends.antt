-- What events leave of the generations, slots, lanes and workers of a journal.
use Rattle.std.proofs.Common.{◌≡◌, ◌∙◌, ◌≤◌, ◌+◌, ℕ, true, List, [], ◌∷◌, length, refl, sym, ap, arith, inl, inr, Some, None, Ok, Err, append-nil}
use Rattle.std.specs.Prelude.{Option, Result, nat_lt}
use Rattle.std.proofs.lemmas.Bool.{cases_Bool, ltb-false}
use Rattle.pcef_model.specs.declared.command.Command.{Command}
use Rattle.pcef_model.specs.declared.entry.Entry.TheVariants as entry
use Rattle.pcef_model.specs.declared.row.Row.{Row}
use Rattle.pcef_model.specs.declared.pending_report.PendingReport.{PendingReport}
use Rattle.pcef_model.specs.Setting.{Setting}
use Rattle.pcef_model.specs.Generations.{made_by, oldest, slots_of}
use Rattle.pcef_model.specs.Entries.{Journal, rows}
use Rattle.pcef_model.specs.Journals.{at, attach_count, attached, gen, report_count, slots, tables}
use Rattle.pcef_model.specs.Reports.{after_attach, after_command, after_flush, body_of, plan, with_reports, thresholds, with_rows}
use Rattle.pcef_model.proofs.Growth.{at_after_command, gen_grows}
use Rattle.pcef_model.proofs.AfterEvents.{tables_after, tables_after_rows}
use Rattle.pcef_model.proofs.Reports.{tell_rows, tell_tables}
use Rattle.pcef_model.specs.declared.answer.Accepted.{Accepted}
use Rattle.pcef_model.specs.declared.answer.AttachFault.{AttachFault}
use Rattle.pcef_model.specs.declared.answer.FlushRefusal.{FlushRefusal}
use Rattle.pcef_model.specs.declared.answer.FlushRefusal.TheVariants.{NotAttached, RowsFull}
use Rattle.pcef_model.specs.declared.answer.Refusal.{Refusal}
use Rattle.pcef_model.specs.Outcomes.{AttachStep, CommandStep, FlushStep, FlushAnswer, attach_outcome, attach_outcome_by, changes, command_outcome, command_outcome_by, flush_outcome, flush_outcome_by}
use Rattle.pcef_model.specs.Refusals.{attach_faults, first_of, flush_refusals, is_attached, refusals}
use Rattle.pcef_model.proofs.SlotsGrow.{grows_all, slots_grow_by}
use Rattle.pcef_model.proofs.SlotPlaces.{Grows}

-- a later journal, in which the generations of before are as they were, and slots stay their keys'
pub record JournalExtends (p : Setting) (j k : Journal) : Type 0 where
  pub gen_more : gen j ≤ gen k
  pub at_is : (g : ℕ) → g ≤ gen j → at p k g ≡ at p j g
  pub grows : Grows (slots p j) (slots p k)

-- where no table command came
pub extends_same : (p : Setting) (j k : Journal) → tables k ≡ tables j → JournalExtends p j k
extends_same p j k same = record {
  gen_more = omega (arith, ap length same);
  at_is = λ g within. ap (λ cs. made_by p (oldest g cs)) same;
  grows = ([], ap (slots_of p) same ∙ sym (append-nil (slots p j)));
}

-- in two steps
extends_twice : (p : Setting) (i j k : Journal) → JournalExtends p i j → JournalExtends p j k → JournalExtends p i k
extends_twice p i j k first second = record {
  gen_more = omega (arith, first.gen_more, second.gen_more);
  at_is = λ g within. second.at_is g (omega (arith, within, first.gen_more)) ∙ first.at_is g within;
  grows = grows_all (slots p i) (slots p j) (slots p k) first.grows second.grows;
}

-- ---- commands
-- a command and its reports
pub extends_by_command : (p : Setting) (j : Journal) (c : Command) → JournalExtends p j (after_command p j c)
extends_by_command p j c =
    extends_twice p j (entry.Command c ∷ j) (after_command p j c)
    (record { gen_more = gen_grows j c; at_is = λ g within. at_after_command p j c g within; grows = slots_grow_by p j c })
    (extends_same p (entry.Command c ∷ j) (after_command p j c) (tables_after p j c))

-- neither a command nor a report is a row
pub rows_after_command : (p : Setting) (j : Journal) (c : Command) → rows (after_command p j c) ≡ rows j
unfolding after_command
rows_after_command p j c =
    tell_rows p (thresholds p (with_reports p (plan p j c) (entry.Command c ∷ j))) (with_reports p (plan p j c) (entry.Command c ∷ j)) ∙ tell_rows p (plan p j c) (entry.Command c ∷ j)

-- a report attaches no worker and detaches none
tell_attach_count : (p : Setting) (ts : List PendingReport) (j : Journal) → attach_count (with_reports p ts j) ≡ attach_count j
unfolding with_reports attach_count
tell_attach_count p [] j = refl
tell_attach_count p (t ∷ ts) j = tell_attach_count p ts (entry.Report (record { number = report_count j; body = body_of p j t }) ∷ j)

tell_attached : (p : Setting) (ts : List PendingReport) (j : Journal) → attached (with_reports p ts j) ≡ attached j
unfolding with_reports attached
tell_attached p [] j = refl
tell_attached p (t ∷ ts) j = tell_attached p ts (entry.Report (record { number = report_count j; body = body_of p j t }) ∷ j)

-- nor by a command
pub attach_count_after_command : (p : Setting) (j : Journal) (c : Command) → attach_count (after_command p j c) ≡ attach_count j
unfolding after_command attach_count
attach_count_after_command p j c =
    tell_attach_count p (thresholds p (with_reports p (plan p j c) (entry.Command c ∷ j))) (with_reports p (plan p j c) (entry.Command c ∷ j)) ∙ tell_attach_count p (plan p j c) (entry.Command c ∷ j)

pub attached_after_command : (p : Setting) (j : Journal) (c : Command) → attached (after_command p j c) ≡ attached j
unfolding after_command attached
attached_after_command p j c =
    tell_attached p (thresholds p (with_reports p (plan p j c) (entry.Command c ∷ j))) (with_reports p (plan p j c) (entry.Command c ∷ j)) ∙ tell_attached p (plan p j c) (entry.Command c ∷ j)

-- ---- rows that are taken over
-- they are no commands
pub tables_after_flush : (p : Setting) (j : Journal) (rs : List Row) → tables (after_flush p j rs) ≡ tables j
tables_after_flush p j [] = refl
tables_after_flush p j (r ∷ rs) = tell_tables p (thresholds p (with_rows (r ∷ rs) j)) (with_rows (r ∷ rs) j) ∙ tables_after_rows (r ∷ rs) j

-- the reports after them are no rows
pub rows_after_flush : (p : Setting) (j : Journal) (rs : List Row) → rows (after_flush p j rs) ≡ rows (with_rows rs j)
unfolding with_rows
rows_after_flush p j [] = refl
rows_after_flush p j (r ∷ rs) = tell_rows p (thresholds p (with_rows (r ∷ rs) j)) (with_rows (r ∷ rs) j)

-- a row attaches no worker and detaches none
attach_count_with : (rs : List Row) (j : Journal) → attach_count (with_rows rs j) ≡ attach_count j
unfolding with_rows attach_count
attach_count_with [] j = refl
attach_count_with (r ∷ rs) j = attach_count_with rs (entry.Row r ∷ j)

attached_with : (rs : List Row) (j : Journal) → attached (with_rows rs j) ≡ attached j
unfolding with_rows attached
attached_with [] j = refl
attached_with (r ∷ rs) j = attached_with rs (entry.Row r ∷ j)

-- nor with the reports after it
pub attach_count_after_flush : (p : Setting) (j : Journal) (rs : List Row) → attach_count (after_flush p j rs) ≡ attach_count j
attach_count_after_flush p j [] = refl
attach_count_after_flush p j (r ∷ rs) = tell_attach_count p (thresholds p (with_rows (r ∷ rs) j)) (with_rows (r ∷ rs) j) ∙ attach_count_with (r ∷ rs) j

pub attached_after_flush : (p : Setting) (j : Journal) (rs : List Row) → attached (after_flush p j rs) ≡ attached j
attached_after_flush p j [] = refl
attached_after_flush p j (r ∷ rs) = tell_attached p (thresholds p (with_rows (r ∷ rs) j)) (with_rows (r ∷ rs) j) ∙ attached_with (r ∷ rs) j

-- ---- what an answer says of the journal after it
-- a command leaves lanes and workers
pub record Commanded (p : Setting) (j k : Journal) : Type 0 where
  pub extends : JournalExtends p j k
  pub rows_are : rows k ≡ rows j
  pub count_is : attach_count k ≡ attach_count j
  pub attached_are : attached k ≡ attached j

-- where nothing changed
commanded_not : (p : Setting) (j k : Journal) → k ≡ j → Commanded p j k
commanded_not p j k same = record { extends = extends_same p j k (ap tables same); rows_are = ap rows same; count_is = ap attach_count same; attached_are = ap attached same }

-- where the command was done
commanded_once : (p : Setting) (j k : Journal) (c : Command) → k ≡ after_command p j c → Commanded p j k
commanded_once p j k c is =
    rw is (record { extends = extends_by_command p j c; rows_are = rows_after_command p j c; count_is = attach_count_after_command p j c; attached_are = attached_after_command p j c })

-- a command that was answered
pub commanded : (p : Setting) (c : Command) (j k : Journal) (result : Result Accepted Refusal) → CommandStep p c j result k → Commanded p j k
unfolding command_outcome
commanded p c j k result (inr none) = commanded_not p j k none.1.1
commanded p c j k result (inl done) = from (first_of (refusals p j c)) done.1
  where
    from : (o : Option Refusal) → k ≡ (command_outcome_by p j c o).1 → Commanded p j k
    from (Some r) is = commanded_not p j k is
    from None is =
        elim (cases_Bool (changes p j c)) [
          | inl changed ↦ commanded_once p j k c (rw changed at is)
          | inr unchanged ↦ commanded_not p j k (rw unchanged at is)
        ]

-- a worker is attached with the next number
pub attached_once : (j k : Journal) (number : ℕ) → AttachStep j (Ok number) k → (number ≡ attach_count j) × (k ≡ after_attach j)
unfolding attach_outcome
attached_once j k number (inr none) = absurd (let e = none.1.0 in cc)
attached_once j k number (inl done) = from (first_of (attach_faults j)) done
  where
    from : (o : Option AttachFault) → (Ok number ≡ (attach_outcome_by j o).0) × (k ≡ (attach_outcome_by j o).1) → (number ≡ attach_count j) × (k ≡ after_attach j)
    from (Some f) is = absurd (let e = is.0 in cc)
    from None is = (let e = is.0 in cc, is.1)

-- or none is
pub attached_not : (j k : Journal) (fault : AttachFault) → AttachStep j (Err fault) k → k ≡ j
unfolding attach_outcome
attached_not j k fault (inr none) = none.1.1
attached_not j k fault (inl done) = from (first_of (attach_faults j)) done
  where
    from : (o : Option AttachFault) → (Err fault ≡ (attach_outcome_by j o).0) × (k ≡ (attach_outcome_by j o).1) → k ≡ j
    from (Some f) is = is.1
    from None is = absurd (let e = is.0 in cc)

-- rows are taken over where nothing refuses them
pub flushed_once : (p : Setting) (worker : ℕ) (rs : List Row) (j k : Journal) (v : FlushAnswer) → FlushStep p worker rs j (Ok v) k →
    (first_of (flush_refusals p j worker (length rs)) ≡ None) × (k ≡ after_flush p j rs)
unfolding flush_outcome
flushed_once p worker rs j k v (inr none) = absurd (let e = none.1.0 in cc)
flushed_once p worker rs j k v (inl done) = from (first_of (flush_refusals p j worker (length rs))) done
  where
    from : (o : Option FlushRefusal) → (Ok v ≡ (flush_outcome_by p j rs o).0) × (k ≡ (flush_outcome_by p j rs o).1) → (o ≡ None) × (k ≡ after_flush p j rs)
    from (Some f) is = absurd (let e = is.0 in cc)
    from None is = (refl, is.1)

-- or none is taken over
pub flushed_not : (p : Setting) (worker : ℕ) (rs : List Row) (j k : Journal) (r : FlushRefusal) → FlushStep p worker rs j (Err r) k → k ≡ j
unfolding flush_outcome
flushed_not p worker rs j k r (inr none) = none.1.1
flushed_not p worker rs j k r (inl done) = from (first_of (flush_refusals p j worker (length rs))) done
  where
    from : (o : Option FlushRefusal) → (Err r ≡ (flush_outcome_by p j rs o).0) × (k ≡ (flush_outcome_by p j rs o).1) → k ≡ j
    from (Some f) is = is.1
    from None is = absurd (let e = is.0 in cc)

-- those that nothing refuses are of an attached worker, and fit into the journal
pub flushed_fits : (p : Setting) (worker count : ℕ) (j : Journal) → first_of (flush_refusals p j worker count) ≡ None →
    (is_attached j worker ≡ true) × (length (rows j) + count ≤ p.rows)
flushed_fits p worker count j none =
    elim (cases_Bool (is_attached j worker)) [
      | inr absent ↦ absurd (let e : Some NotAttached ≡ None = rw absent at none in cc)
      | inl there ↦ elim (cases_Bool (nat_lt p.rows (length (rows j) + count))) [
        | inl full ↦ absurd (let e : Some RowsFull ≡ None = rw (there, full) at none in cc)
        | inr fits ↦ (there, ltb-false p.rows (length (rows j) + count) fits)
      ]
    ]
