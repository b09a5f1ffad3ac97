use Rattle.std.proofs.Common.{length}
use Rattle.pcef_lock.proofs.Handing.{end_fits}
use Rattle.pcef_lock.proofs.state.State.continues_lane.Goals as goal

pub continues-requires : goal.continues-requires
continues-requires g c =
    end_fits g.N.Naming.setting g.N.Naming.first c.self.inside.session.session c.self.inside.publisher c.self.inside.books c.self.inside.places (length c.self.inside.subscribers.items) c.args.worker
    c.end_of-end.result.rows (length c.items.result.now) c.self.invariant.0 c.end_of-end.ensures.rows c.items.ensures.most
