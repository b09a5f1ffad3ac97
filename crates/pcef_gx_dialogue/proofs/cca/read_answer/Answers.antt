use Rattle.pcef_gx_dialogue.proofs.Heard.{some_due}
use Rattle.pcef_gx_dialogue.proofs.cca.read_answer.Goals as goal

pub returns-in-Err : goal.returns-in-Err
returns-in-Err c = some_due c.args.identity.now c.args.ccrs.now.out c.args.header.now c.args.message.now
