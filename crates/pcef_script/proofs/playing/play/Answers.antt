use Rattle.std.proofs.Common.{◌∙◌, refl, sym}
use Rattle.pcef_script.proofs.LinesPlayed.{fault_played, line_played}
use Rattle.pcef_script.proofs.playing.play.Goals as goal

pub returns-in-Ok-clause-found : goal.returns-in-Ok-clause-found
returns-in-Ok-clause-found g c =
    line_played c.line_found.result c.args.number c.args.world.now c.line_found.new.world c.args.bytes.now c.in-Ok.line
    (sym c.is_blank.ensures ∙ c.if-is_blank.false) c.in-Ok.ensures c.line_found.ensures.found

pub returns-in_ok-read_fault-in-Err : goal.returns-in_ok-read_fault-in-Err
returns-in_ok-read_fault-in-Err g c =
    let x = c.in_ok-read_fault-in-Err in
    record {
      found = fault_played c.args.number c.args.world.now c.args.bytes.now c.in-Err.fault x.field-0
          (sym c.is_blank.ensures ∙ c.if-is_blank.false) x.ensures.0 c.in-Err.ensures x.ensures.1;
      setting = refl;
    }
