use Rattle.pcef_gx_dialogue.proofs.Requested.{refused_avps}
use Rattle.pcef_gx_dialogue.proofs.asking.read_request.Goals as goal

pub returns-in-Err : goal.returns-in-Err
returns-in-Err c =
    refused_avps c.args.identity.now c.args.header.now c.args.message.now c.in-Err.refused c.in-Err.ensures
