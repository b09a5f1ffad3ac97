use Rattle.std.proofs.Common.{◌∙◌, ◌++◌, ap, subst, sym, ℕ, List}
use Rattle.std.specs.Prelude.{Option}
use Rattle.std.specs.Option.{option_to_list}
use Rattle.pcef_model.specs.declared.command.Command.{Command}
use Rattle.pcef_session.specs.declared.prepared.Prepared.{Prepared}
use Rattle.pcef_session.specs.Answers.{Settles}
use Rattle.pcef_session.specs.Preparing.{IsPreparedFor}
use Rattle.pcef_journaled.specs.Archiving.{Journaled, journaled_of}
use Rattle.pcef_journaled.proofs.Archived.{archives_settled, prepared_within}
use Rattle.pcef_journaled.proofs.state.JournaledState.settle.Goals as goal

pub invariant_of-self : goal.invariant_of-self
invariant_of-self c =
    let s = c.self.inside.state in
    let ready : IsPreparedFor (journaled_of c.self.inside).session c.args.command = subst (λ (v : Journaled). IsPreparedFor v.session c.args.command) (sym c.self.view_is) c.requires in
    let settles : Settles s c.args.command c.settle-accepted.result c.settle-accepted.new.self =
    subst (λ (d : Prepared). Settles s d c.settle-accepted.result c.settle-accepted.new.self) c.into_parts-prepared.ensures.prepared c.settle-accepted.ensures.answer in
    record {
      archives = archives_settled s c.settle-accepted.new.self c.args.command c.settle-accepted.result c.self.inside.archive c.keep.new.archive (prepared_within s c.self.inside.archive.room c.args.command ready) settles
          c.keep.ensures.rows (c.keep.ensures.commands ∙ ap (λ (o : Option Command). option_to_list o ++ c.self.inside.archive.commands) c.into_parts-prepared.ensures.kept) c.self.invariant.archives;
      reports = c.settle-accepted.ensures.forgotten ∙ c.self.invariant.reports;
    }
