use Rattle.std.proofs.Common.{[], arith}
use Rattle.std.proofs.lemmas.Result.{err_from_is_err_and}
use Rattle.std.specs.Arc.{arc_value}
use Rattle.std.proofs.KnownBytes.{Consumes-nil}
use Rattle.pcef_model.specs.ProfileModel.{setting_of}
use Rattle.pcef_catalog.specs.Catalogs.{offers_of}
use Rattle.pcef_script.proofs.ReadBlocks.{open_within}
use Rattle.pcef_script.proofs.ScriptSteps.{open_fails}
use Rattle.pcef_script.proofs.run.run_script.Goals as goal

pub returns-in_err-world-clause-answers : goal.returns-in_err-world-clause-answers
returns-in_err-world-clause-answers g c =
    let q = err_from_is_err_and c.from_residual.result c.from_residual.ensures.1 in
    let remaining = g.R.Read.remaining c.args.reader.now in
    let p = setting_of c.args.profile (offers_of (arc_value c.args.catalog)) in
    let fails = open_fails p c.in_err-world.field-0.0 (g.W.Write.contents c.args.writer.now) remaining c.in_err-world.ensures.fault in
    rw (q.1, q.2) ([], Consumes-nil remaining, open_within c.in_err-world.field-0.0 [] (omega arith) c.in_err-world.ensures.fault, fails)
