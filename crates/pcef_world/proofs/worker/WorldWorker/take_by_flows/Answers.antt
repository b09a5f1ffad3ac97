use Rattle.pcef_world.proofs.worker.WorldWorker.take_by_flows.Goals as goal

pub returns-in_default-clause-taken : goal.returns-in_default-clause-taken
returns-in_default-clause-taken g c =
    c.in_ok-wait_stray.ensures.taken (g.C.Offers.offers c.args.catalog.now) c.args.ue c.in_default.ensures.stray
