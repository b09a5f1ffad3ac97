use Rattle.std.specs.Arc.{arc_value}
use Rattle.pcef_model.specs.ProfileModel.{setting_of}
use Rattle.pcef_run.proofs.Obeyings.{nobody_attached}
use Rattle.pcef_run.proofs.RunFaults.{fails_run, opens_not}
use Rattle.pcef_run.proofs.run.run_plan.Goals as goal

pub run_session-requires-clause-fresh : goal.run_session-requires-clause-fresh
run_session-requires-clause-fresh g c = λ κs within.
    nobody_attached c.in-Ok.session.session.setting c.in-Ok.session.session.journal c.obey.new.session.session.journal c.args.plan.first.items c.in-Ok-obey.answers.items
    c.in-Ok.ensures.made.1 c.in-Ok-obey.ensures.answers

pub returns-in-Err-clause-fault : goal.returns-in-Err-clause-fault
returns-in-Err-clause-fault g c =
    opens_not (setting_of c.args.profile (g.C.Offers.offers (arc_value c.args.catalog))) c.args.plan c.args.workers c.in-Err.end c.in-Err.ensures.fault

pub returns-in-Err-run_session-clause-fault : goal.returns-in-Err-run_session-clause-fault
returns-in-Err-run_session-clause-fault g c =
    c.run_fault.ensures.ends (setting_of c.args.profile (g.C.Offers.offers (arc_value c.args.catalog))) c.args.plan c.args.workers
    (fails_run c.args.plan c.args.workers c.in-Err-run_session.fault c.in-Err-run_session.ensures.workers c.in-Err-run_session.ensures.strange)
