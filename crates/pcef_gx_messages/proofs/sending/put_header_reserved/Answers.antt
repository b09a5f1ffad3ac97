use Rattle.pcef_gx_messages.proofs.Parts.{header_room}
use Rattle.pcef_gx_messages.proofs.sending.put_header_reserved.Goals as goal

pub returns-clause-room : goal.returns-clause-room
returns-clause-room c = header_room c.args.header.now _ _ c.in-Ok.ensures.written
