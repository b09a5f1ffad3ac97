use Rattle.std.proofs.Common.{◌≡◌, ◌∙◌, List, None, ap, map, subst, sym}
use Rattle.std.specs.Arc.{arc_value}
use Rattle.pcef_table.specs.declared.entry.TableEntry.{TableEntry}
use Rattle.pcef_table.specs.Tables.{TableValue}
use Rattle.pcef_model.specs.Refusals.{first_of, refusals}
use Rattle.pcef_session.specs.SessionModel.{SessionModel}
use Rattle.pcef_session.specs.private.Entries.{ShowsNext}
use Rattle.pcef_session.specs.private.Soundness.{held_of}
use Rattle.pcef_session.proofs.HeldSound.{held_sound}
use Rattle.pcef_session.proofs.NextTables.{if_ok_is, number_fits, same_rules, switched_slot, table_switched}
use Rattle.pcef_session.proofs.state.SessionState.table_after_switch.Goals as goal
use Rattle.std.specs.Prelude.{IfOk}

pub switch_key-requires-clause-number : goal.switch_key-requires-clause-number
switch_key-requires-clause-number c = let fits = number_fits (held_of c.self.inside) (held_sound c.self.inside c.self.invariant) in rw (c.table.ensures ∙ c.deref.ensures) fits

pub switch_key-requires-clause-slot : goal.switch_key-requires-clause-slot
switch_key-requires-clause-slot c =
    let accepted = subst (λ (m : SessionModel). first_of (refusals m.setting m.journal c.args.command.now) ≡ None) (sym c.self.view_is) c.requires.accepted in
    switched_slot (held_of c.self.inside) c.args.command.now c.args.key.now c.place_of-slot.result (held_sound c.self.inside c.self.invariant) accepted c.requires.switched (rw c.usage.ensures at c.place_of-slot.ensures)

pub with_table-requires : goal.with_table-requires
with_table-requires c =
    ap (λ (es : List TableEntry). map (λ e. e.source) es) (rw (c.table.ensures ∙ c.deref.ensures) at c.in_ok-table.ensures.entries)
    ∙ same_rules _ _ _ (arc_value c.self.inside.newest).entries
    ∙ ap (λ (t : TableValue). map (λ e. e.source) t.entries) (sym c.deref-2.ensures)

pub returns : goal.returns
returns c =
    let v = held_of c.self.inside in
    let command = c.args.command.now in
    let accepted = subst (λ (m : SessionModel). first_of (refusals m.setting m.journal command) ≡ None) (sym c.self.view_is) c.requires.accepted in
    let shows = table_switched v command c.args.key.now c.place_of-slot.result (held_sound c.self.inside c.self.invariant) accepted c.requires.switched (rw c.usage.ensures at c.place_of-slot.ensures)
    c.in_ok-table.table
    (rw (c.table.ensures ∙ c.deref.ensures) at c.in_ok-table.ensures.number)
    (rw ((c.table.ensures ∙ c.deref.ensures), c.switches_on.ensures, c.level_switched-level.ensures, c.usage-2.ensures) at c.in_ok-table.ensures.entries)
    (rw ((c.table.ensures ∙ c.deref.ensures), c.switches_on.ensures, c.level_switched-level.ensures, c.usage-2.ensures) at c.in_ok-table.ensures.session) in
    subst (λ (m : SessionModel). IfOk c.with_table.result (λ t. ShowsNext m.setting m.journal command t)) c.self.view_is
    (if_ok_is (λ t. ShowsNext v.setting v.journal command t) c.in_ok-table.table c.with_table.result shows c.with_table.ensures)
