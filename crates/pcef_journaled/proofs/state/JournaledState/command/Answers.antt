use Rattle.std.proofs.Common.{rules, subst, sym, Err}
use Rattle.pcef_model.specs.Entries.{Journal}
use Rattle.pcef_model.specs.Outcomes.{CommandStep}
use Rattle.pcef_session.proofs.CommandAgrees.{does_refused}
use Rattle.pcef_journaled.proofs.state.JournaledState.command.Goals as goal

pub returns-in-Err-clause-answer : goal.returns-in-Err-clause-answer
returns-in-Err-clause-answer c =
    subst (λ (j : Journal). CommandStep c.args.self.now.session.setting c.args.command c.args.self.now.session.journal (Err c.in-Err.refusal) j) (sym c.prepare.ensures.journal)
    (does_refused c.args.self.now.session.setting c.args.self.now.session.journal c.args.command c.in-Err.refusal (search rules))
