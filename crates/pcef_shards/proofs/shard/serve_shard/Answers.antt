use Rattle.std.proofs.Common.{[]}
use Rattle.std.proofs.KnownBytes.{Consumes-nil}
use Rattle.pcef_built_in.specs.BuiltIn.{built_in_offers}
use Rattle.pcef_model.specs.ProfileModel.{setting_of}
use Rattle.pcef_script.specs.declared.fault.ScriptFault.TheVariants.{NoMemory}
use Rattle.pcef_sessions.proofs.Servings.{open_fails}
use Rattle.pcef_shards.proofs.shard.serve_shard.Goals as goal

pub returns-in-Err : goal.returns-in-Err
returns-in-Err g c =
    let remaining = g.R.Read.remaining c.args.reader.now in
    ([], Consumes-nil remaining, open_fails (setting_of c.args.profile built_in_offers) NoMemory (g.W.Write.contents c.args.writer.now) remaining tt)
