use Rattle.std.proofs.Common.{◌∙◌, ap, map, refl, sym}
use Rattle.std.proofs.lemmas.List.{length-map}
use Rattle.pcef_model.specs.Outcomes.{flush_answer_of}
use Rattle.pcef_model.specs.Refusals.{first_of, flush_refusals}
use Rattle.pcef_model.proofs.JournalExtends.{flushed_not, flushed_once}
use Rattle.pcef_session.specs.Following.{row_of}
use Rattle.pcef_session.proofs.Leaving.{flush_refused}
use Rattle.pcef_journaled.specs.Archiving.{rows_added}
use Rattle.pcef_journaled.proofs.Archived.{archives_flushed, archives_same}
use Rattle.pcef_journaled.proofs.state.JournaledState.flush.Goals as goal

pub returns-in-Some-clause-answer : goal.returns-in-Some-clause-answer
returns-in-Some-clause-answer c =
    rw (← c.self.view_is)
    (flush_refused c.self.inside.state.setting c.self.inside.state.journal c.args.worker (map row_of c.args.batch.now) c.in-Some.refusal
    (c.in-Some.ensures ∙ ap (λ n. first_of (flush_refusals c.self.inside.state.setting c.self.inside.state.journal c.args.worker n)) (c.len-then-is_err.ensures.len ∙ sym (length-map c.args.batch.now row_of))))

pub invariant_of-self-in-Ok : goal.invariant_of-self-in-Ok
invariant_of-self-in-Ok c =
    let s = c.self.inside.state in
    let once = flushed_once s.setting c.args.worker (map row_of c.args.batch.now) s.journal c.flush.new.self.journal (flush_answer_of c.in-Ok.verdicts) c.in-Ok.ensures.answer in
    record {
      archives = archives_flushed s.setting s.journal c.flush.new.self.journal c.reserve.new.self c.add_rows.new.archive (map row_of c.args.batch.now) once.1
          (c.add_rows.ensures.rows ∙ ap (λ xs. rows_added (map row_of xs) c.reserve.new.self.rows) c.items.ensures.items) c.add_rows.ensures.commands
          (archives_same s.journal s.journal c.self.inside.archive c.reserve.new.self refl c.reserve.ensures.rows c.reserve.ensures.commands c.self.invariant.archives);
      reports = c.flush.ensures.forgotten ∙ c.self.invariant.reports;
    }

pub invariant_of-self-in-Err : goal.invariant_of-self-in-Err
invariant_of-self-in-Err c =
    let s = c.self.inside.state in
    record {
      archives = archives_same s.journal c.flush.new.self.journal c.self.inside.archive c.reserve.new.self
          (flushed_not s.setting c.args.worker (map row_of c.args.batch.now) s.journal c.flush.new.self.journal c.in-Err.refusal c.in-Err.ensures.answer)
          c.reserve.ensures.rows c.reserve.ensures.commands c.self.invariant.archives;
      reports = c.flush.ensures.forgotten ∙ c.self.invariant.reports;
    }
