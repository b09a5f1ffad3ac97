use Rattle.std.proofs.Common.{◌∙◌, subst}
use Rattle.std.specs.Io.KnownBytes.{Appends}
use Rattle.pcef_script.specs.ScriptLines.{AppendsFront}
use Rattle.pcef_run.proofs.Tellings.{name_then, name_told}
use Rattle.pcef_run.proofs.reporting.put_reason.Goals as goal

pub returns-in-Ok : goal.returns-in-Ok
returns-in-Ok g c =
    let contents = g.E.Write.contents in
    let old = contents c.args.faults.now in
    let between = contents c.put_all.new.writer in
    let is = c.as_bytes.ensures.value ∙ c.reason_front.ensures in
    name_then c.args.end.now old between (contents c.put_explanation.new.faults) (subst (Appends old between) is c.in-Ok.ensures.all) c.put_explanation.ensures

pub returns-in-Err : goal.returns-in-Err
returns-in-Err g c =
    let contents = g.E.Write.contents in
    let old = contents c.args.faults.now in
    let new = contents c.put_all.new.writer in
    let is = c.as_bytes.ensures.value ∙ c.reason_front.ensures in
    name_told c.args.end.now old new (subst (AppendsFront old new) is c.in-Err.ensures.front.1)
