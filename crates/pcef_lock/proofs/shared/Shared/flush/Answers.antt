use Rattle.std.proofs.Common.{◌∙◌, subst, sym}
use Rattle.pcef_model.specs.Lawful.{Lawful}
use Rattle.pcef_lock.specs.Locked.{Locked}
use Rattle.pcef_lock.proofs.shared.Shared.flush.Goals as goal

pub returns-clause-due : goal.returns-clause-due
returns-clause-due g c =
    let lawful = subst (λ (v : Locked). Lawful g.N.Naming.setting v.session.journal) (c.deref.ensures ∙ sym c.deref_mut.ensures.value) c.session-lawful.ensures.lawful in
    (c.deref_mut.result.now, c.flush.new.self, lawful, c.flush.ensures.answer)
