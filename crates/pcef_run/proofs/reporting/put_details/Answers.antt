use Rattle.pcef_run.proofs.Tellings.{more_some}
use Rattle.pcef_run.proofs.reporting.put_details.Goals as goal

pub returns-then-not-put_text : goal.returns-then-not-put_text
returns-then-not-put_text g c =
    let contents = g.E.Write.contents in
    more_some (contents c.args.faults.now) (contents c.put_line.new.faults) (contents c.put_text.new.faults) c.put_line.ensures c.put_text.ensures

pub returns : goal.returns
returns g c =
    let contents = g.E.Write.contents in
    let old = contents c.args.faults.now in
    let between = contents c.put_text.new.faults in
    more_some old between (contents c.put_line-2.new.faults)
    (more_some old (contents c.put_line.new.faults) between c.put_line.ensures c.put_text.ensures) c.put_line-2.ensures
