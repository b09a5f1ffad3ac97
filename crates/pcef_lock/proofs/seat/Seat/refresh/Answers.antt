use Rattle.pcef_lock.proofs.Flows.{follows_still}
use Rattle.pcef_lock.proofs.seat.Seat.refresh.Goals as goal

pub returns-else-newest-held-clause-follows : goal.returns-else-newest-held-clause-follows
returns-else-newest-held-clause-follows g c =
    follows_still g.N.Naming.setting _ _ _ g.N.Naming.first _ _ c.refresh-newest.ensures.grows c.current-held.ensures.count c.refresh-newest.ensures.number c.if-newest-held.false c.requires.follows
