use Rattle.pcef_run.proofs.PoolAnswers.{ended_by, ended_early}
use Rattle.pcef_run.proofs.answering.answer_orders.Goals as goal

pub returns-in-Ok : goal.returns-in-Ok
returns-in-Ok g c =
    let contents = g.W.Write.contents in
    ended_by c.write_granted.result c.args.pooled.now c.do_orders.new.pooled c.args.orders.items c.granted.result (contents c.args.writer.now) (contents c.do_orders.new.writer) (contents c.write_granted.new.writer)
    c.granted.ensures.sums c.in-Ok.ensures.all c.write_granted.ensures.all c.write_granted.ensures.front

pub returns-in-Err : goal.returns-in-Err
returns-in-Err g c = ended_early c.in-Err.end c.args.pooled.now c.args.orders.items _ _ c.in-Err.ensures.front
