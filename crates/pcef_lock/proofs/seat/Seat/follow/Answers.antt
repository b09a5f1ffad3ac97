use Rattle.pcef_lock.proofs.Flows.{follows_end}
use Rattle.pcef_lock.proofs.seat.Seat.follow.Goals as goal

pub returns : goal.returns
returns g c =
    follows_end g.N.Naming.setting c.args.self.now.subscriber c.table.result.now c.follow.new.self
    (rw (c.table.ensures, c.deref.ensures) c.current.ensures.last) (rw (← c.requires) (c.follow.ensures g.N.Naming.setting.ue))
