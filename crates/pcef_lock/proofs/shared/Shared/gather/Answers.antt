use Rattle.std.proofs.Common.{sym, subst}
use Rattle.pcef_lock.specs.Gathering.{IsAtFault}
use Rattle.pcef_lock.specs.Locked.{Locked}
use Rattle.pcef_lock.proofs.shared.Shared.gather.Goals as goal

pub returns-in-Err-clause-fault : goal.returns-in-Err-clause-fault
returns-in-Err-clause-fault g c =
    subst (λ (s : Locked). IsAtFault s.session.journal c.args.desk.commands c.args.finished.items c.in-Err.ungathered.fault) (sym c.in-Err.ensures.back.0) c.in-Err.ensures.fault
