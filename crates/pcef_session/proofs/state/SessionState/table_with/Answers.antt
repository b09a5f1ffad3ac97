use Rattle.std.proofs.Common.{◌≡◌, ◌∙◌, Some, None, subst, sym, refl, true}
use Rattle.pcef_model.specs.Refusals.{first_of, refusals}
use Rattle.pcef_model.specs.Outcomes.{changes}
use Rattle.pcef_model.specs.Commands.{activated}
use Rattle.pcef_model.proofs.Acceptance.{activation_accepted}
use Rattle.pcef_model.proofs.RulesAfter.{makes_active}
use Rattle.pcef_session.specs.Preparing.{Activates, GetsBearer}
use Rattle.pcef_session.specs.SessionModel.{SessionModel}
use Rattle.pcef_session.specs.private.Entries.{ShowsNext}
use Rattle.pcef_session.specs.private.Soundness.{held_of}
use Rattle.pcef_session.proofs.Activations.{brought}
use Rattle.pcef_session.proofs.HeldSound.{held_sound}
use Rattle.pcef_session.proofs.NextTables.{entry_known, entry_made, if_ok_is, number_fits, room_for_rule, table_with}
use Rattle.pcef_session.proofs.state.SessionState.table_with.Goals as goal
use Rattle.std.specs.Prelude.{IfOk}

pub with-requires-clause-number : goal.with-requires-clause-number
with-requires-clause-number c = let fits = number_fits (held_of c.self.inside) (held_sound c.self.inside c.self.invariant) in rw (c.table.ensures ∙ c.deref.ensures) fits

pub with-requires-clause-known : goal.with-requires-clause-known
with-requires-clause-known c =
    let gets = subst (λ (m : SessionModel). GetsBearer m.setting m.journal (Some c.args.rule.now) (Some c.args.bearer)) (sym c.self.view_is) c.requires.bearer in
    let made = entry_made (held_of c.self.inside) c.args.rule.now c.args.bearer c.in_ok-entry.entry (held_sound c.self.inside c.self.invariant) gets (rw c.usage.ensures at c.in_ok-entry.ensures) in
    let p = (held_of c.self.inside).setting in
    let b = brought p c.args.command.now (Some c.args.rule.now) c.args.rule.now refl (subst (λ (m : SessionModel). Activates m.setting (activated m.setting c.args.command.now) (Some c.args.rule.now)) (sym c.self.view_is) c.requires.rule) in
    entry_known (held_of c.self.inside) b.rule c.args.rule.now c.in_ok-entry.entry b.is_of made

pub with-requires-clause-room : goal.with-requires-clause-room
with-requires-clause-room c =
    let gets = subst (λ (m : SessionModel). GetsBearer m.setting m.journal (Some c.args.rule.now) (Some c.args.bearer)) (sym c.self.view_is) c.requires.bearer in
    let made = entry_made (held_of c.self.inside) c.args.rule.now c.args.bearer c.in_ok-entry.entry (held_sound c.self.inside c.self.invariant) gets (rw c.usage.ensures at c.in_ok-entry.ensures) in
    let v = held_of c.self.inside in
    let command = c.args.command.now in
    let x = c.args.rule.now in
    let accepted = subst (λ (m : SessionModel). first_of (refusals m.setting m.journal command) ≡ None) (sym c.self.view_is) c.requires.accepted in
    let changing = subst (λ (m : SessionModel). changes m.setting m.journal command ≡ true) (sym c.self.view_is) c.requires.changing in
    let b = brought v.setting command (Some x) x refl (subst (λ (m : SessionModel). Activates m.setting (activated m.setting command) (Some x)) (sym c.self.view_is) c.requires.rule) in
    let room = room_for_rule v command b.rule x c.in_ok-entry.entry (held_sound c.self.inside c.self.invariant) (activation_accepted v.setting v.journal command b.rule accepted changing b.becomes)
    (makes_active v.setting command b.rule b.becomes) b.becomes b.is_of made in
    rw (c.table.ensures ∙ c.deref.ensures) room

pub returns : goal.returns
returns c =
    let gets = subst (λ (m : SessionModel). GetsBearer m.setting m.journal (Some c.args.rule.now) (Some c.args.bearer)) (sym c.self.view_is) c.requires.bearer in
    let made = entry_made (held_of c.self.inside) c.args.rule.now c.args.bearer c.in_ok-entry.entry (held_sound c.self.inside c.self.invariant) gets (rw c.usage.ensures at c.in_ok-entry.ensures) in
    let v = held_of c.self.inside in
    let command = c.args.command.now in
    let x = c.args.rule.now in
    let b = brought v.setting command (Some x) x refl (subst (λ (m : SessionModel). Activates m.setting (activated m.setting command) (Some x)) (sym c.self.view_is) c.requires.rule) in
    let accepted = subst (λ (m : SessionModel). first_of (refusals m.setting m.journal command) ≡ None) (sym c.self.view_is) c.requires.accepted in
    let changing = subst (λ (m : SessionModel). changes m.setting m.journal command ≡ true) (sym c.self.view_is) c.requires.changing in
    let shows = table_with v command b.rule x c.in_ok-entry.entry (held_sound c.self.inside c.self.invariant) (activation_accepted v.setting v.journal command b.rule accepted changing b.becomes) (makes_active v.setting command b.rule b.becomes) b.becomes b.is_of made
    c.in_ok-table.table
    (rw (c.table.ensures ∙ c.deref.ensures) at c.in_ok-table.ensures.number) (rw (c.table.ensures ∙ c.deref.ensures) at c.in_ok-table.ensures.entries) (rw (c.table.ensures ∙ c.deref.ensures) at c.in_ok-table.ensures.session) in
    subst (λ (m : SessionModel). IfOk c.after.result (λ t. ShowsNext m.setting m.journal command t)) c.self.view_is
    (if_ok_is (λ t. ShowsNext v.setting v.journal command t) c.in_ok-table.table c.after.result shows c.after.ensures)
