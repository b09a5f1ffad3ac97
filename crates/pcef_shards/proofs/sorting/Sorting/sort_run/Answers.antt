use Rattle.std.proofs.Common.{refl}
use Rattle.std.proofs.lemmas.Result.{on_ok_weaker}
use Rattle.pcef_shards.proofs.Sortings.{run_led}
use Rattle.pcef_shards.proofs.sorting.Sorting.sort_run.Goals as goal

pub returns-in-Some : goal.returns-in-Some
returns-in-Some c = on_ok_weaker c.lead.result (λ led. run_led c.args.self.now _ c.in-Some.thread c.args.run.now c.requires c.in-Some.is refl refl refl led) c.lead.ensures
