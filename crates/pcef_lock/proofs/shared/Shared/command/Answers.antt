use Rattle.std.proofs.Common.{rules, ◌≡◌, ◌∙◌, false, true, None, Some, subst, sym}
use Rattle.pcef_model.specs.Lawful.{Lawful}
use Rattle.pcef_model.specs.Refusals.{total_now}
use Rattle.pcef_share.specs.Pools.{room_beside}
use Rattle.pcef_lock.proofs.Commanded.{due_alone}
use Rattle.pcef_lock.specs.Locked.{Locked}
use Rattle.pcef_lock.proofs.shared.Shared.command.Goals as goal

pub returns-in-Some-clause-due : goal.returns-in-Some-clause-due
returns-in-Some-clause-due g c =
    let there : true ≡ g.P.Pooling.is_there = search rules in
    let lawful = subst (λ (v : Locked). Lawful g.N.Naming.setting v.session.journal) (c.deref.ensures ∙ sym c.deref_mut.ensures.value) c.session-lawful.ensures.lawful in (
      Some (room_beside c.deref_mut-in-Some.result.now (total_now g.N.Naming.setting c.deref_mut.result.now.session.journal)),
      there,
      c.deref_mut.result.now.session.journal,
      c.command_within.new.self.session.journal,
      lawful,
      c.command_within.ensures.answer,
    )

pub returns-clause-due : goal.returns-clause-due
returns-clause-due g c =
    let alone : false ≡ g.P.Pooling.is_there = search rules in
    let lawful = subst (λ (v : Locked). Lawful g.N.Naming.setting v.session.journal) (c.deref.ensures ∙ sym c.deref_mut-in-None.ensures.value) c.session-lawful.ensures.lawful in (
      None,
      alone,
      c.deref_mut-in-None.result.now.session.journal,
      c.command.new.self.session.journal,
      lawful,
      due_alone g.N.Naming.setting c.args.command c.deref_mut-in-None.result.now.session.journal c.command.result c.command.new.self.session.journal c.command.ensures.answer,
    )
