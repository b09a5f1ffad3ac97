use Rattle.std.proofs.Common.{ap, length}
use Rattle.pcef_lock.proofs.Handing.{sound_left}
use Rattle.pcef_lock.proofs.PoolShares.{due_same}
use Rattle.pcef_model.specs.Journals.{tables}
use Rattle.pcef_lock.proofs.state.State.leave.Goals as goal

pub invariant_of-self : goal.invariant_of-self
invariant_of-self g c = (
  sound_left g.N.Naming.setting g.N.Naming.first c.self.inside.session.session c.detach.new.self.session c.self.inside.publisher c.self.inside.books c.self.inside.places (length c.self.inside.subscribers.items)
      c.args.worker c.detach.ensures.journal c.detach.ensures.setting c.self.invariant.0,
  due_same g.P.Pooling.is_there c.self.inside.session.session.setting c.detach.new.self.session.setting c.self.inside.session.session.journal c.detach.new.self.session.journal c.self.inside.rates c.detach.ensures.setting (ap tables c.detach.ensures.journal) c.self.invariant.1,
)
