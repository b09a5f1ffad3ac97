use Rattle.pcef_gx_dialogue.proofs.Heard.{heard_dropped}
use Rattle.pcef_gx_dialogue.proofs.cca.read_avps.Goals as goal

pub returns-in-Err : goal.returns-in-Err
returns-in-Err c =
    heard_dropped c.args.identity.now c.args.ccrs.now.out c.args.header.now c.args.message.now c.in-Err.dropped c.in-Err.ensures
