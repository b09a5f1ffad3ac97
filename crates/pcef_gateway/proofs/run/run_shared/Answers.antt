use Rattle.pcef_gateway.proofs.Ends.{ends_so}
use Rattle.pcef_gateway.proofs.run.run_shared.Goals as goal

pub returns-in-Ok : goal.returns-in-Ok
returns-in-Ok g c = λ before own.
    let worked = c.in-Ok.worked in
    ends_so c.end.result _ before c.args.load.arrivals.items c.args.load.commands.items c.args.desk.commands worked.desk.commands c.args.load.workers worked.handed.dropped worked.handed.finished.items worked.answers.items
    c.end.ensures.add_up c.end.ensures.compared c.in-Ok.ensures.handed c.end.ensures.lawful c.end.ensures.rest c.in-Ok.ensures.answers own c.end.ensures.reports
