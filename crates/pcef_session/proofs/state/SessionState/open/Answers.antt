use Rattle.std.proofs.Common.{rules, refl}
use Rattle.pcef_session.proofs.FirstSession.{triggers_first}
use Rattle.pcef_session.proofs.InvariantKept.{sound_opened}
use Rattle.pcef_session.proofs.state.SessionState.open.Goals as goal

pub invariant_of-result : goal.invariant_of-result
invariant_of-result c =
    sound_opened _ c.new-counted.ensures.journal c.new-counted.ensures.states (search rules) (search rules)
    c.in-Ok-first_table.ensures.number c.in-Ok-first_table.ensures.entries c.in-Ok-first_table.ensures.session
    (triggers_first c.default.result c.default.ensures.0 c.default.ensures.1.0 c.default.ensures.1.1.0 c.default.ensures.1.1.1.0 c.default.ensures.1.1.1.1) c.new-2.ensures refl refl (search rules) (search rules)
