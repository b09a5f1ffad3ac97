use Rattle.pcef_lock.proofs.seat.Seat.judge.Goals as goal

pub own_place-requires-clause-remembers : goal.own_place-requires-clause-remembers
own_place-requires-clause-remembers g c =
    rw (c.requires.offers, c.requires.ue, c.deref.ensures) (c.requires.follows _ c.current-generation.ensures.last)
