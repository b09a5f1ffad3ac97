use Rattle.std.proofs.Common.{◌++◌, ◌∷◌, [], refl, subst, sym}
use Rattle.std.proofs.lemmas.Result.{err_from_is_err_and}
use Rattle.pcef_capture_file.specs.Captured.{captured}
use Rattle.pcef_capture_script.specs.Turns.{WroteSoFar}
use Rattle.pcef_capture_script.proofs.Fronts.{frame_front}
use Rattle.pcef_capture_script.proofs.Writings.{one_frame_more}
use Rattle.pcef_capture_script.proofs.writing.put_frame.Goals as goal

pub returns-in_err-outcome-in-Some-clause-front : goal.returns-in_err-outcome-in-Some-clause-front
returns-in_err-outcome-in-Some-clause-front g c = λ frames rest start rota so_far.
    let e = err_from_is_err_and c.from_residual.result c.from_residual.ensures.1 in
    let contents = g.W.Write.contents in
    let plan = c.args.plan.now in
    rw (e.1, c.in-Some.is) (frame_front plan.ue plan.pads rota frames rest (frames ++ captured c.in-Some.packet ∷ rest) (captured c.in-Some.packet)
    start (contents c.args.writer.now) (contents c.put_packet.new.writer) c.args.written.now.turn c.args.written.now.counts so_far c.in_err-outcome-in-Some.ensures.front refl)

pub returns-in_ok-outcome-in-Some-clause-lines : goal.returns-in_ok-outcome-in-Some-clause-lines
returns-in_ok-outcome-in-Some-clause-lines g c = λ frames start rota so_far.
    let contents = g.W.Write.contents in
    let plan = c.args.plan.now in
    let more = frames ++ captured c.in-Some.packet ∷ [] in
    let whole = one_frame_more plan.ue plan.pads rota frames more start (contents c.args.writer.now) (contents c.put_packet.new.writer)
    c.args.written.now.turn c.put_packet.new.turn c.args.written.now.counts (captured c.in-Some.packet) c.in_ok-outcome-in-Some.outcome so_far c.in_ok-outcome-in-Some.ensures.lines refl in
    rw c.in-Some.is (subst (WroteSoFar plan.ue plan.pads rota more start (contents c.put_packet.new.writer) c.put_packet.new.turn) (sym c.count.ensures) whole)
