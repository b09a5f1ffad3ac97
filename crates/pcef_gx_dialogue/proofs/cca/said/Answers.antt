use Rattle.std.proofs.Common.{◌∙◌, sym, map}
use Rattle.pcef_diameter.specs.Avps.{shown}
use Rattle.pcef_gx_dialogue.proofs.Heard.{said_dropped, said_failed, said_granted}
use Rattle.pcef_gx_dialogue.proofs.cca.said.Goals as goal

pub returns-then-not-is_success : goal.returns-then-not-is_success
returns-then-not-is_success c =
    said_failed c.args.code (map shown c.args.avps.now) (sym c.is_success.ensures ∙ c.if-not-is_success.true)

pub returns-in-Ok : goal.returns-in-Ok
returns-in-Ok c =
    said_granted c.args.code (map shown c.args.avps.now) c.in-Ok.orders (sym c.is_success.ensures ∙ c.if-not-is_success.false) c.in-Ok.ensures

pub returns-in-Err : goal.returns-in-Err
returns-in-Err c =
    said_dropped c.args.code (map shown c.args.avps.now) c.in-Err.dropped (sym c.is_success.ensures ∙ c.if-not-is_success.false) c.in-Err.ensures
