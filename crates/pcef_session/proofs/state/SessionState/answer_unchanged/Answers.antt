use Rattle.std.proofs.Common.{◌∙◌, ap, refl, subst, sym, true, Ok}
use Rattle.pcef_model.specs.declared.answer.Accepted.{Accepted}
use Rattle.pcef_bearer.specs.Bindings.{Binding, bearer_of_rule}
use Rattle.pcef_model.specs.Outcomes.{Gives, command_outcome}
use Rattle.pcef_model.specs.declared.command.Command.TheVariants.{Activate}
use Rattle.pcef_model.specs.Journals.{now, report_count}
use Rattle.pcef_table.specs.Tables.{TableValue}
use Rattle.pcef_session.specs.Preparing.{IsIdle}
use Rattle.pcef_session.specs.SessionModel.{SessionModel}
use Rattle.pcef_session.specs.private.Soundness.{held_of, model_of}
use Rattle.pcef_session.proofs.BearerLaws.{bearer_bound}
use Rattle.pcef_session.proofs.CommandAgrees.{outcome_idle}
use Rattle.pcef_session.proofs.state.SessionState.answer_unchanged.Goals as goal

pub returns : goal.returns
returns c =
    let s = c.self.inside in
    let v = held_of s in
    let p = v.setting in
    let j = v.journal in
    let agrees = c.self.invariant.agrees in
    let idle : IsIdle (model_of s) c.args.name.now = subst (λ (m : SessionModel). IsIdle m c.args.name.now) (sym c.self.view_is) c.requires in
    let told : Accepted = record {
      generation = c.generation.result;
      bearer = c.bearer_of.result;
      first_report = c.reports_len-reports.result;
      past_last_report = c.reports_len-reports.result;
      unchanged = true;
    } in
    subst (λ (m : SessionModel). Gives (command_outcome m.setting m.journal (Activate c.args.name.now)) (Ok told) m.journal) c.self.view_is
    (outcome_idle p j c.args.name.now told idle.accepted idle.active
    (c.generation.ensures ∙ ap (λ (t : TableValue). t.number) c.deref.ensures ∙ agrees.table_shows.number_is)
    (c.bearer_of.ensures ∙ ap (λ (b : Binding). bearer_of_rule c.args.name.now b.bound) agrees.binding_is ∙ bearer_bound c.args.name.now (now p j) (now p j).rules)
    (c.reports_len-reports.ensures ∙ ap report_count c.journal.ensures.entries)
    (c.reports_len-reports.ensures ∙ ap report_count c.journal.ensures.entries) refl)
