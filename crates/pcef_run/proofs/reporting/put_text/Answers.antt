use Rattle.pcef_run.proofs.Tellings.{put_some}
use Rattle.pcef_run.proofs.reporting.put_text.Goals as goal

pub returns : goal.returns
returns g c =
    let contents = g.E.Write.contents in
    put_some c.put_all.result (contents c.args.faults.now) (contents c.put_all.new.writer) c.as_bytes.result.now c.put_all.ensures.all c.put_all.ensures.front
