use Rattle.std.proofs.Common.{◌<◌, arith, length}
use Rattle.std.proofs.lemmas.Result.{err_from_is_err_and}
use Rattle.pcef_capture_script.proofs.Progress.{fails_in_front}
use Rattle.pcef_capture_script.proofs.writing.read_front.Goals as goal

pub returns-in_err-read_more-clause-end : goal.returns-in_err-read_more-clause-end
returns-in_err-read_more-clause-end g c =
    let q = err_from_is_err_and c.from_residual.result c.from_residual.ensures.1 in
    let remaining = g.R.Read.remaining in
    let front = c.loop-reader.waiting.items in
    let few : length front < 24 = omega arith in
    rw (q.1, q.2) (fails_in_front c.in_err-read_more.field-0.0 (remaining c.args.reader.now) (remaining c.loop-reader.reader) (remaining c.read_more.new.reader) front c.loop-reader.invariant few c.in_err-read_more.ensures.end)
