use Rattle.std.proofs.Common.{◌∙◌, ap, map, refl, sym}
use Rattle.std.proofs.lemmas.List.{length-map}
use Rattle.pcef_model.specs.Outcomes.{finish_answer_of}
use Rattle.pcef_model.specs.Refusals.{first_of, flush_refusals}
use Rattle.pcef_session.specs.Following.{row_of}
use Rattle.pcef_session.proofs.Leaving.{finish_refused, finished_not, finished_once, flush_refused}
use Rattle.pcef_journaled.specs.Archiving.{rows_added}
use Rattle.pcef_journaled.proofs.Archived.{archives_finished, archives_same}
use Rattle.pcef_journaled.proofs.state.JournaledState.finish.Goals as goal

pub returns-in-Some-clause-answer : goal.returns-in-Some-clause-answer
returns-in-Some-clause-answer c =
    rw (← c.self.view_is)
    (finish_refused c.self.inside.state.setting c.self.inside.state.journal c.self.inside.state.journal c.args.worker (map row_of c.args.batch.now) c.in-Some.refusal
    (flush_refused c.self.inside.state.setting c.self.inside.state.journal c.args.worker (map row_of c.args.batch.now) c.in-Some.refusal
    (c.in-Some.ensures ∙ ap (λ n. first_of (flush_refusals c.self.inside.state.setting c.self.inside.state.journal c.args.worker n)) (c.len-then-is_err.ensures.len ∙ sym (length-map c.args.batch.now row_of)))))

pub invariant_of-self-in-Ok : goal.invariant_of-self-in-Ok
invariant_of-self-in-Ok c =
    let s = c.self.inside.state in
    let once = finished_once s.setting s.journal c.finish.new.self.journal c.args.worker (map row_of c.args.batch.now) (finish_answer_of c.in-Ok.last) c.in-Ok.ensures.answer in
    record {
      archives = archives_finished s.setting s.journal c.finish.new.self.journal c.reserve.new.self c.add_rows.new.archive c.args.worker (map row_of c.args.batch.now) once.1
          (c.add_rows.ensures.rows ∙ ap (λ xs. rows_added (map row_of xs) c.reserve.new.self.rows) c.items.ensures.items) c.add_rows.ensures.commands
          (archives_same s.journal s.journal c.self.inside.archive c.reserve.new.self refl c.reserve.ensures.rows c.reserve.ensures.commands c.self.invariant.archives);
      reports = c.finish.ensures.forgotten ∙ c.self.invariant.reports;
    }

pub invariant_of-self-in-Err : goal.invariant_of-self-in-Err
invariant_of-self-in-Err c =
    let s = c.self.inside.state in
    record {
      archives = archives_same s.journal c.finish.new.self.journal c.self.inside.archive c.reserve.new.self
          (finished_not s.setting s.journal c.finish.new.self.journal c.args.worker (map row_of c.args.batch.now) c.in-Err.refusal c.in-Err.ensures.answer)
          c.reserve.ensures.rows c.reserve.ensures.commands c.self.invariant.archives;
      reports = c.finish.ensures.forgotten ∙ c.self.invariant.reports;
    }
