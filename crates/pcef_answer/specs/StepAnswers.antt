-- The answers to commands and to the steps of workers: a JSON object (RFC 8259) for each, its members in
-- the order of their keys (own choice).
use Rattle.std.specs.Prelude.{ℕ, List, codes, map, Bool, true, false, Option, Some, None, Result, Ok, Err}
use Rattle.serde_json.specs.Data.{Data, string, boolean, array, object, Members, member, no_members}
use Rattle.serde_json.specs.View.{items_of}
use Rattle.serde_json.specs.Written.{compact_text}
use Rattle.pcef_rule.specs.declared.quantity.BearerId.{BearerId}
use Rattle.pcef_model.specs.declared.verdict.Verdict.{Verdict}
use Rattle.pcef_model.specs.declared.verdict.Verdict.TheVariants.{Stray, Unmatched, Gated, Passed}
use Rattle.pcef_model.specs.Entries.{Journal}
use Rattle.pcef_model.specs.declared.answer.Accepted.{Accepted}
use Rattle.pcef_model.specs.declared.answer.AttachFault.{AttachFault}
use Rattle.pcef_model.specs.declared.answer.FlushRefusal.{FlushRefusal}
use Rattle.pcef_model.specs.declared.answer.Judged.{Judged}
use Rattle.pcef_model.specs.declared.answer.Refusal.{Refusal}
use Rattle.pcef_model.specs.Outcomes.{FlushAnswer}
use Rattle.pcef_session.specs.declared.batch.BatchFull.{BatchFull}
use Rattle.pcef_world.specs.declared.answer.Abandoned.{Abandoned}
use Rattle.pcef_world.specs.Steps.{Reply, abandon_reply, attach_reply, command_reply, finish_reply, flush_reply, no_worker, refresh_reply, take_reply}
use Rattle.pcef_answer.specs.FaultAnswers.{count}
use Rattle.pcef_answer.specs.RefusalAnswers.{refusal_text, attach_fault_text, batch_full_text, flush_refusal_text, no_worker_text}
use Rattle.pcef_answer.specs.ReportAnswers.{reports_between, reports_data}

-- ---- commands
-- the bearer stands first, where there is one
abbrev pub bearer_before : Option BearerId → Members → Members
bearer_before None members = members
bearer_before (Some bearer) members = member (codes "bearer") (count bearer.0) members

-- where nothing changed, the member that says so stands last
abbrev pub unchanged_last : Bool → Members
unchanged_last true = member (codes "unchanged") (boolean true) no_members
unchanged_last false = no_members

abbrev pub step_members : Data → Option BearerId → ℕ → Bool → Members
step_members report_list bearer generation unchanged =
    bearer_before bearer
    (member (codes "generation") (count generation)
    (member (codes "ok") (boolean true)
    (member (codes "reports") report_list (unchanged_last unchanged))))

abbrev pub accepted_data : Journal → Accepted → Data
accepted_data journal accepted =
    object (step_members (reports_data (reports_between journal accepted.first_report accepted.past_last_report)) accepted.bearer accepted.generation accepted.unchanged)

unfoldable pub command_text : Journal → Result Accepted Refusal → List ℕ
command_text journal (Ok accepted) = compact_text (accepted_data journal accepted)
command_text journal (Err refusal) = refusal_text refusal

-- ---- workers that attach, and packets
abbrev pub attached_data : ℕ → ℕ → Data
attached_data generation worker =
    object (member (codes "generation") (count generation)
    (member (codes "ok") (boolean true)
    (member (codes "worker") (count worker) no_members)))

unfoldable pub attached_text : ℕ → Result ℕ AttachFault → List ℕ
attached_text generation (Ok worker) = compact_text (attached_data generation worker)
attached_text generation (Err fault) = attach_fault_text fault

abbrev pub taken_data : ℕ → Data
taken_data waiting =
    object (member (codes "ok") (boolean true)
    (member (codes "waiting") (count waiting) no_members))

unfoldable pub taken_text : Result ℕ BatchFull → List ℕ
taken_text (Ok waiting) = compact_text (taken_data waiting)
taken_text (Err full) = batch_full_text

-- a worker that takes the newest generation
abbrev pub refreshed_data : ℕ → Data
refreshed_data generation =
    object (member (codes "generation") (count generation)
    (member (codes "ok") (boolean true) no_members))

-- ---- rows that are taken over
abbrev pub verdict_data : ℕ → Verdict → Data
verdict_data generation Stray =
    object (member (codes "generation") (count generation)
    (member (codes "verdict") (string (codes "Stray")) no_members))
verdict_data generation Unmatched =
    object (member (codes "generation") (count generation)
    (member (codes "verdict") (string (codes "Unmatched")) no_members))
verdict_data generation (Gated rule) =
    object (member (codes "generation") (count generation)
    (member (codes "rule") (string rule)
    (member (codes "verdict") (string (codes "Gated")) no_members)))
verdict_data generation (Passed rule bearer) =
    object (member (codes "bearer") (count bearer.0)
    (member (codes "generation") (count generation)
    (member (codes "rule") (string rule)
    (member (codes "verdict") (string (codes "Passed")) no_members))))

abbrev pub judged_data : Judged → Data
judged_data judged = verdict_data judged.generation judged.verdict

abbrev pub verdicts_data : List Judged → Data
verdicts_data rows = array (items_of (map judged_data rows))

abbrev pub flushed_data : Journal → FlushAnswer → Data
flushed_data journal flushed =
    object (member (codes "ok") (boolean true)
    (member (codes "reports") (reports_data (reports_between journal flushed.first_report flushed.past_last_report))
    (member (codes "verdicts") (verdicts_data flushed.rows) no_members)))

unfoldable pub flushed_text : Journal → Result FlushAnswer FlushRefusal → List ℕ
flushed_text journal (Ok flushed) = compact_text (flushed_data journal flushed)
flushed_text journal (Err refusal) = flush_refusal_text refusal

-- ---- workers that leave
abbrev pub finished_data : Journal → FlushAnswer → ℕ → Data
finished_data journal flushed rows =
    object (member (codes "ok") (boolean true)
    (member (codes "reports") (reports_data (reports_between journal flushed.first_report flushed.past_last_report))
    (member (codes "rows") (count rows)
    (member (codes "verdicts") (verdicts_data flushed.rows) no_members))))

unfoldable pub finished_text : Journal → Result (FlushAnswer × ℕ) FlushRefusal → List ℕ
finished_text journal (Ok finished) = compact_text (finished_data journal finished.0 finished.1)
finished_text journal (Err refusal) = flush_refusal_text refusal

abbrev pub abandoned_data : Abandoned → Data
abandoned_data abandoned =
    object (member (codes "abandoned") (count abandoned.waiting)
    (member (codes "ok") (boolean true)
    (member (codes "rows") (count abandoned.rows) no_members)))

-- ---- steps
-- the answer to a step, by the journal and the number of the newest generation after it
abbrev pub reply_text : Journal → ℕ → Reply → List ℕ
reply_text journal generation (command_reply answer) = command_text journal answer
reply_text journal generation (attach_reply answer) = attached_text generation answer
reply_text journal generation (refresh_reply held) = compact_text (refreshed_data held)
reply_text journal generation (take_reply answer) = taken_text answer
reply_text journal generation (flush_reply answer) = flushed_text journal answer
reply_text journal generation (finish_reply answer) = finished_text journal answer
reply_text journal generation (abandon_reply abandoned) = compact_text (abandoned_data abandoned)
reply_text journal generation no_worker = no_worker_text
