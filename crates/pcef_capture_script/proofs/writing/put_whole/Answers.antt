use Rattle.std.proofs.Common.{◌∙◌, ◌+◌, ◌++◌, ◌∷◌, [], ap, drop, drop-drop}
use Rattle.std.specs.Prelude.{option_map}
use Rattle.std.proofs.lemmas.Result.{err_from_is_err_and}
use Rattle.pcef_capture_file.specs.Captured.{captured}
use Rattle.pcef_capture_file.specs.PcapNg.{packets_among}
use Rattle.pcef_capture_script.proofs.Progress.{front_further, goes_further, pauses}
use Rattle.pcef_capture_script.proofs.writing.put_whole.Goals as goal

pub returns-in_err-put_frame-in-Ok-clause-front : goal.returns-in_err-put_frame-in-Ok-clause-front
returns-in_err-put_frame-in-Ok-clause-front g c = λ start rota input after.
    let q = err_from_is_err_and c.from_residual.result c.from_residual.ensures.1 in
    let plan = c.args.plan.now in
    let h = c.loop-packet.invariant.after start rota input after in
    rw q.1 (front_further plan.ue plan.pads rota start (g.W.Write.contents c.put_frame.new.writer) input h.0 c.loop-packet.stream c.step.new.self c.loop-packet.rest.now c.in-Ok.others.now (option_map captured c.in-Ok.packet)
    h.1 c.in-Ok.ensures.goes_on (λ behind. c.in_err-put_frame-in-Ok.ensures.front h.0 behind start rota h.2))

pub loop-packet-preserved : goal.loop-packet-preserved
loop-packet-preserved g c = record {
  after = λ start rota input after.
      let h = c.loop-packet.invariant.after start rota input after in
      let p = option_map captured c.in-Ok.packet in (
        h.0 ++ packets_among (p ∷ []),
        goes_further input h.0 c.loop-packet.stream c.step.new.self c.loop-packet.rest.now c.in-Ok.others.now p h.1 c.in-Ok.ensures.goes_on,
        c.in_ok-put_frame-in-Ok.ensures.lines h.0 start rota h.2,
      );
  behind =
      let before = c.loop-packet.invariant.behind in
      let now = c.in-Ok.ensures.behind in
      (before.0 + now.0, now.1 ∙ ap (drop now.0) before.1 ∙ drop-drop now.0 before.0 c.args.octets.now);
}

pub returns-in-Err-clause-lines : goal.returns-in-Err-clause-lines
returns-in-Err-clause-lines g c = λ start rota input after.
    let plan = c.args.plan.now in
    pauses plan.ue plan.pads rota start (g.W.Write.contents c.loop-packet.writer) c.loop-packet.written c.loop-packet.stream c.step.new.self c.in-Err.stop c.loop-packet.rest.now input
    (c.loop-packet.invariant.after start rota input after) c.in-Err.ensures.stops
