use Rattle.std.proofs.Common.{subst}
use Rattle.pcef_built_in.specs.BuiltIn.{built_in_offers}
use Rattle.pcef_model.specs.ProfileModel.{setting_of}
use Rattle.pcef_shards.specs.Served.{EachServes}
use Rattle.pcef_shards.proofs.Starts.{all_serve}
use Rattle.pcef_shards.proofs.run.run_named.Goals as goal

pub returns : goal.returns
returns g c =
    let contents = g.W.Write.contents in
    let profile = c.args.tasks.profile.now in
    let writers = c.args.tasks.writers.items in
    let all = c.join_all-threads.result.items in
    subst (λ part. EachServes (setting_of profile built_in_offers) contents part 0 writers all) c.requires.parts
    (all_serve contents g.N.Leading.part profile 0 writers c.in_ok-started.started.handles.items all c.in_ok-started.ensures.handles c.join_all-threads.ensures)
