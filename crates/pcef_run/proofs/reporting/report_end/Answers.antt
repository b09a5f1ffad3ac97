use Rattle.std.proofs.Common.{◌∙◌, subst, sym}
use Rattle.std.specs.Io.KnownBytes.{Appends}
use Rattle.pcef_script.specs.ScriptLines.{AppendsFront}
use Rattle.pcef_run.proofs.Tellings.{not_empty, told_line, told_more, told_nothing}
use Rattle.pcef_run.proofs.reporting.report_end.Goals as goal

pub returns-then-is_empty : goal.returns-then-is_empty
returns-then-is_empty g c = told_nothing c.args.end.now (g.E.Write.contents c.args.faults.now)

pub returns-in-Ok : goal.returns-in-Ok
returns-in-Ok g c =
    let contents = g.E.Write.contents in
    let old = contents c.args.faults.now in
    let between = contents c.put_all.new.writer in
    let is = c.as_bytes.ensures.value ∙ c.text-line.ensures in
    told_more c.args.end.now old between (contents c.put_reason.new.faults)
    (not_empty c.text-line.result.now c.is_empty.result (sym c.text-line.ensures) c.is_empty.ensures c.if-is_empty.false)
    (subst (Appends old between) is c.in-Ok.ensures.all) c.put_reason.ensures

pub returns-in-Err : goal.returns-in-Err
returns-in-Err g c =
    let contents = g.E.Write.contents in
    let old = contents c.args.faults.now in
    let new = contents c.put_all.new.writer in
    let is = c.as_bytes.ensures.value ∙ c.text-line.ensures in
    told_line c.args.end.now old new (subst (AppendsFront old new) is c.in-Err.ensures.front.1)
