use Rattle.pcef_gx_messages.proofs.Parts.{failed_room_most}
use Rattle.pcef_diameter.specs.Avps.{shown}
use Rattle.pcef_gx_messages.proofs.answering.put_failed_part.Goals as goal

pub returns-clause-room : goal.returns-clause-room
returns-clause-room c = failed_room_most (shown c.args.avp.now) _ _ c.clear.ensures.items c.in-Ok.ensures.written
