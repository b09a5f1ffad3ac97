use Rattle.std.proofs.Common.{◌≡◌, ◌∙◌, ◌++◌, ap, subst}
use Rattle.std.proofs.lemmas.Result.{err_from_is_err_and}
use Rattle.pcef_capture_file.specs.Captured.{captured}
use Rattle.pcef_capture_script.specs.Turns.{lines_if}
use Rattle.pcef_base.specs.Writing.{AppendsFront}
use Rattle.pcef_capture_script.proofs.Fates.{fate_there}
use Rattle.pcef_base.proofs.Fronts.{front_none}
use Rattle.pcef_capture_script.proofs.takes.put_packet.Goals as goal

-- nothing was put
pub returns-in_err-outcome-clause-front : goal.returns-in_err-outcome-clause-front
returns-in_err-outcome-clause-front g c =
    let e = err_from_is_err_and c.from_residual.result c.from_residual.ensures.1 in
    let fate = fate_there c.args.plan.now.ue c.args.plan.now.pads (captured c.args.packet.now) in
    rw e.1 (fate.0, fate.1, front_none (g.W.Write.contents c.args.writer.now) (lines_if c.args.turn.now fate.0.1))

-- a front of the lines was put
pub returns-in_err-put_all-clause-front : goal.returns-in_err-put_all-clause-front
returns-in_err-put_all-clause-front g c =
    let e = err_from_is_err_and c.from_residual-in_err-put_all.result c.from_residual-in_err-put_all.ensures.1 in
    let contents = g.W.Write.contents in
    let wrote = c.in_ok-outcome.ensures in
    let lines = lines_if c.args.turn.now wrote.0.1 in
    let same : c.as_slice.result.now ≡ lines = c.as_slice.ensures.value ∙ wrote.2.2 ∙ ap (λ t. t ++ lines) c.new-lines.ensures.items in
    rw e.1 (wrote.0, wrote.1, subst (AppendsFront (contents c.args.writer.now) (contents c.put_all.new.writer)) same c.in_err-put_all.ensures.front)
