use Rattle.std.proofs.Common.{◌≡◌, ◌∙◌, ◌++◌, ap, subst, sym}
use Rattle.std.specs.Prelude.{OnOk}
use Rattle.std.specs.Option.{option_copied}
use Rattle.std.proofs.lemmas.Result.{on_ok_weaker}
use Rattle.pcef_model.specs.Commands.{activated}
use Rattle.pcef_model.specs.Reports.{keys_ended}
use Rattle.pcef_session.specs.Preparing.{Activates}
use Rattle.pcef_session.specs.SessionModel.{SessionModel}
use Rattle.pcef_session.specs.private.Soundness.{held_of}
use Rattle.pcef_session.proofs.EndedKeys.{ended_keys}
use Rattle.pcef_session.proofs.state.SessionState.add_ended.Goals as goal

pub returns : goal.returns
returns c =
    let v = held_of c.self.inside in
    let command = c.args.command.now in
    let x = option_copied c.args.rule in
    let rule = subst (λ (m : SessionModel). Activates m.setting (activated m.setting command) x) (sym c.self.view_is) c.requires.rule in
    subst (λ (m : SessionModel). OnOk c.add_ended_keys.result (c.add_ended_keys.new.reports.items ≡ c.args.reports.now.items ++ keys_ended m.setting m.journal command)) c.self.view_is
    (on_ok_weaker c.add_ended_keys.result
    (λ is. is ∙ ap (λ ts. c.args.reports.now.items ++ ts) (ended_keys v.setting v.journal command x v.parts c.self.invariant.agrees rule))
    (rw (c.states.ensures.states, c.usage.ensures, c.entries.ensures.entries, (c.table.ensures ∙ c.deref.ensures)) at c.add_ended_keys.ensures))
