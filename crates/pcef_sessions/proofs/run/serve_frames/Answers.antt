use Rattle.std.proofs.Common.{[]}
use Rattle.std.proofs.lemmas.Result.{err_from_is_err_and}
use Rattle.std.proofs.KnownBytes.{Consumes-nil}
use Rattle.pcef_model.specs.ProfileModel.{setting_of}
use Rattle.pcef_sessions.proofs.FrameRuns.{frames_open_fails}
use Rattle.pcef_sessions.proofs.run.serve_frames.Goals as goal

pub returns-in_err-sessions-clause-answers : goal.returns-in_err-sessions-clause-answers
returns-in_err-sessions-clause-answers g c =
    let q = err_from_is_err_and c.from_residual.result c.from_residual.ensures.1 in
    let remaining = g.R.Read.remaining c.args.reader.now in
    let p = setting_of c.args.profile c.args.catalog in
    let fails = frames_open_fails p c.in_err-sessions.field-0.0 (g.W.Write.contents c.args.writer.now) remaining c.in_err-sessions.ensures.fault in
    rw (q.1, q.2) ([], Consumes-nil remaining, fails)
