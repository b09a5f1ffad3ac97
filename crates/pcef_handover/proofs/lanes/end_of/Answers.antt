use Rattle.std.proofs.Common.{ap, length, sym}
use Rattle.pcef_model.specs.Lawful.{newest_generation}
use Rattle.pcef_handover.proofs.lanes.end_of.Goals as goal

pub returns-in-None-clause-rows : goal.returns-in-None-clause-rows
returns-in-None-clause-rows c =
    rw (← c.session.ensures.journal) (sym (ap length c.in-None.ensures.none))

pub returns-in-None-clause-generation : goal.returns-in-None-clause-generation
returns-in-None-clause-generation c =
    rw (← c.session.ensures.journal) (sym (ap newest_generation c.in-None.ensures.none))
