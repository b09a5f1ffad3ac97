use Rattle.std.proofs.Common.{◌≡◌, ◌∙◌, ◌-◌, ap, drop, length, refl, subst, sym}
use Rattle.pcef_capture_script.specs.Progress.{IsWrittenAfter, Paused}
use Rattle.pcef_capture_script.proofs.Progress.{kept, pause_fails, pause_kept}
use Rattle.pcef_capture_script.proofs.writing.put_waiting.Goals as goal

pub returns-in-Err-flush-clause-front : goal.returns-in-Err-flush-clause-front
returns-in-Err-flush-clause-front g c = λ start rota input after.
    let contents = g.W.Write.contents in
    let plan = c.args.plan.now in
    let here = subst (λ o. IsWrittenAfter plan.ue plan.pads rota start (contents c.args.writer.now) c.args.written.now c.args.stream.now o input) (sym c.as_slice-octets.ensures.value) after in
    pause_fails plan.ue plan.pads rota start (contents c.put_whole.new.writer) (contents c.flush.new.self) c.put_whole.new.written c.put_whole.new.stream c.in-Ok.stop c.in-Ok.rest.now input
    (c.in-Ok.ensures.lines start rota input here) c.flush.ensures.bytes

pub returns-in-Ok-forget-clause-lines : goal.returns-in-Ok-forget-clause-lines
returns-in-Ok-forget-clause-lines g c = λ start rota input after.
    let contents = g.W.Write.contents in
    let plan = c.args.plan.now in
    let octets = c.as_slice-octets.result.now in
    let rest = c.in-Ok.rest.now in
    let here = subst (λ o. IsWrittenAfter plan.ue plan.pads rota start (contents c.args.writer.now) c.args.written.now c.args.stream.now o input) (sym c.as_slice-octets.ensures.value) after in
    let paused = pause_kept plan.ue plan.pads rota start (contents c.put_whole.new.writer) (contents c.flush.new.self) c.put_whole.new.written c.put_whole.new.stream c.in-Ok.stop rest input
    (c.in-Ok.ensures.lines start rota input here) c.flush.ensures.bytes in
    let same : c.forget.new.octets.items ≡ rest =
    c.in-Ok-forget.ensures ∙ ap (λ n. drop n c.args.waiting.now.items) c.saturating_sub.ensures ∙ ap (drop (length octets - length rest)) (sym c.as_slice-octets.ensures.value)
    ∙ kept octets rest (length rest) c.in-Ok.ensures.behind refl in
    subst (λ o. Paused plan.ue plan.pads rota start (contents c.flush.new.self) c.put_whole.new.written c.put_whole.new.stream c.in-Ok.stop o input) (sym same) paused

pub returns-in-Err-forget-clause-front : goal.returns-in-Err-forget-clause-front
returns-in-Err-forget-clause-front g c = λ start rota input after.
    let contents = g.W.Write.contents in
    let plan = c.args.plan.now in
    let here = subst (λ o. IsWrittenAfter plan.ue plan.pads rota start (contents c.args.writer.now) c.args.written.now c.args.stream.now o input) (sym c.as_slice-octets.ensures.value) after in
    pause_fails plan.ue plan.pads rota start (contents c.put_whole.new.writer) (contents c.flush.new.self) c.put_whole.new.written c.put_whole.new.stream c.in-Ok.stop c.in-Ok.rest.now input
    (c.in-Ok.ensures.lines start rota input here) c.flush.ensures.bytes
