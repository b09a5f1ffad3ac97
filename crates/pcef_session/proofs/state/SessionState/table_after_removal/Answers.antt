use Rattle.std.proofs.Common.{◌≡◌, ◌∙◌, None, subst, sym}
use Rattle.pcef_model.specs.Commands.{activated}
use Rattle.pcef_session.specs.SessionModel.{SessionModel}
use Rattle.pcef_session.specs.private.Entries.{ShowsNext}
use Rattle.pcef_session.specs.private.Soundness.{held_of}
use Rattle.pcef_session.proofs.HeldSound.{held_sound}
use Rattle.pcef_session.proofs.NextTables.{if_ok_is, number_fits, table_left}
use Rattle.pcef_session.proofs.state.SessionState.table_after_removal.Goals as goal
use Rattle.std.specs.Prelude.{IfOk}

pub drop_rules-requires-clause-number : goal.drop_rules-requires-clause-number
drop_rules-requires-clause-number c = let fits = number_fits (held_of c.self.inside) (held_sound c.self.inside c.self.invariant) in rw (c.table.ensures ∙ c.deref.ensures) fits

pub returns : goal.returns
returns c =
    let v = held_of c.self.inside in
    let command = c.args.command.now in
    let none = subst (λ (m : SessionModel). activated m.setting command ≡ None) (sym c.self.view_is) c.requires.none in
    let shows = table_left v command (held_sound c.self.inside c.self.invariant) none c.requires.table c.requires.switched c.in_ok-table.table
    (rw (c.table.ensures ∙ c.deref.ensures) at c.in_ok-table.ensures.number) (rw (c.table.ensures ∙ c.deref.ensures) at c.in_ok-table.ensures.entries) (rw (c.table.ensures ∙ c.deref.ensures) at c.in_ok-table.ensures.session) in
    subst (λ (m : SessionModel). IfOk c.after.result (λ t. ShowsNext m.setting m.journal command t)) c.self.view_is
    (if_ok_is (λ t. ShowsNext v.setting v.journal command t) c.in_ok-table.table c.after.result shows c.after.ensures)
