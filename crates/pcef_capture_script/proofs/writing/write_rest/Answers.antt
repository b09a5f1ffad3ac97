use Rattle.std.proofs.Common.{◌≡◌, ◌∙◌, ◌++◌, [], inl, ap, append-nil, subst, sym}
use Rattle.std.proofs.KnownBytes.{Consumes-trans}
use Rattle.std.specs.Io.KnownBytes.{Consumes}
use Rattle.std.proofs.lemmas.List.{nil_from_length}
use Rattle.std.proofs.lemmas.Result.{err_from_is_err_and}
use Rattle.pcef_capture_script.specs.Progress.{IsWrittenAfter, Paused, rota_of}
use Rattle.pcef_capture_script.proofs.Progress.{after_more, ends, ends_faulty, ends_reading, ends_waiting, front_so_far}
use Rattle.pcef_capture_script.proofs.writing.write_rest.Goals as goal

pub returns-in_err-fault : goal.returns-in_err-fault
returns-in_err-fault g c = λ before first read reached.
    let q = err_from_is_err_and c.from_residual.result c.from_residual.ensures.1 in
    let contents = g.W.Write.contents in
    let plan = c.args.plan.now in
    let rota = rota_of plan in
    let h = c.loop.invariant before first read reached in
    rw (q.1, q.2) (
      h.0,
      h.1,
      ends plan.ue plan.pads rota c.in_err-fault.field-0.0 (g.R.Read.remaining c.loop.reader) (contents c.args.writer.now) (contents c.put_waiting.new.writer) h.0 c.in_err-fault.ensures.end
          (inl (c.in_err-fault.ensures.front (contents c.args.writer.now) rota h.0 h.2)),
    )

pub returns-in_err-read_more-in-Waits : goal.returns-in_err-read_more-in-Waits
returns-in_err-read_more-in-Waits g c = λ before first read reached.
    let residual = c.from_residual-in_err-read_more-in-Waits in
    let q = err_from_is_err_and residual.result residual.ensures.1 in
    let contents = g.W.Write.contents in
    let remaining = g.R.Read.remaining in
    let plan = c.args.plan.now in
    let rota = rota_of plan in
    let start = contents c.args.writer.now in
    let put = c.put_waiting.new in
    let h = c.loop.invariant before first read reached in
    let paused = subst (λ why. Paused plan.ue plan.pads rota start (contents put.writer) put.written put.stream why put.waiting.items h.0) c.in-Waits.is (c.in_ok-fault.ensures.lines start rota h.0 h.2) in
    rw (q.1, q.2) (ends_reading plan.ue plan.pads rota c.in_err-read_more-in-Waits.field-0.0 before (remaining c.loop.reader) (remaining c.read_more.new.reader) start (contents put.writer) put.written put.stream put.waiting.items h.0 c.in-Waits.fault
    h.1 paused c.in_err-read_more-in-Waits.ensures.end)

pub returns-then-branch-eq0 : goal.returns-then-branch-eq0
returns-then-branch-eq0 g c = λ before first read reached.
    let contents = g.W.Write.contents in
    let remaining = g.R.Read.remaining in
    let plan = c.args.plan.now in
    let rota = rota_of plan in
    let start = contents c.args.writer.now in
    let put = c.put_waiting.new in
    let h = c.loop.invariant before first read reached in
    let paused = subst (λ why. Paused plan.ue plan.pads rota start (contents put.writer) put.written put.stream why put.waiting.items h.0) c.in-Waits.is (c.in_ok-fault.ensures.lines start rota h.0 h.2) in
    let more = c.in_ok-read_more-in-Waits.ensures.more in
    let none : more.0 ≡ [] = nil_from_length more.0 (more.3 ∙ c.if-branch-eq0.true) in
    let all : Consumes before (remaining c.read_more.new.reader) h.0 =
    subst (Consumes before (remaining c.read_more.new.reader)) (ap (λ t. h.0 ++ t) none ∙ append-nil h.0) (Consumes-trans before (remaining c.loop.reader) (remaining c.read_more.new.reader) h.0 more.0 h.1 more.1) in (
      h.0,
      all,
      ends_waiting plan.ue plan.pads rota c.finish.result start (contents put.writer) (contents c.finish.new.writer) (remaining c.read_more.new.reader) put.written put.stream put.waiting.items h.0 c.in-Waits.fault
          paused (more.4 c.if-branch-eq0.true) c.finish.ensures.lines c.finish.ensures.front,
    )

pub returns-in-Fault : goal.returns-in-Fault
returns-in-Fault g c = λ before first read reached.
    let contents = g.W.Write.contents in
    let plan = c.args.plan.now in
    let rota = rota_of plan in
    let start = contents c.args.writer.now in
    let put = c.put_waiting.new in
    let h = c.loop.invariant before first read reached in
    let paused = subst (λ why. Paused plan.ue plan.pads rota start (contents put.writer) put.written put.stream why put.waiting.items h.0) c.in-Fault.is (c.in_ok-fault.ensures.lines start rota h.0 h.2) in (
      h.0,
      h.1,
      ends_faulty plan.ue plan.pads rota c.finish-in-Fault.result start (contents put.writer) (contents c.finish-in-Fault.new.writer) (g.R.Read.remaining c.loop.reader) put.written put.stream put.waiting.items h.0 c.in-Fault.fault
          paused c.finish-in-Fault.ensures.lines c.finish-in-Fault.ensures.front,
    )

pub returns-in-NoMemory : goal.returns-in-NoMemory
returns-in-NoMemory g c = λ before first read reached.
    let contents = g.W.Write.contents in
    let plan = c.args.plan.now in
    let rota = rota_of plan in
    let start = contents c.args.writer.now in
    let put = c.put_waiting.new in
    let h = c.loop.invariant before first read reached in
    let paused = subst (λ why. Paused plan.ue plan.pads rota start (contents put.writer) put.written put.stream why put.waiting.items h.0) c.in-NoMemory.is (c.in_ok-fault.ensures.lines start rota h.0 h.2) in
    (h.0, h.1, inl paused)

pub loop-preserved : goal.loop-preserved
loop-preserved g c = λ before first read reached.
    let contents = g.W.Write.contents in
    let remaining = g.R.Read.remaining in
    let plan = c.args.plan.now in
    let rota = rota_of plan in
    let start = contents c.args.writer.now in
    let put = c.put_waiting.new in
    let h = c.loop.invariant before first read reached in
    let paused = subst (λ why. Paused plan.ue plan.pads rota start (contents put.writer) put.written put.stream why put.waiting.items h.0) c.in-Waits.is (c.in_ok-fault.ensures.lines start rota h.0 h.2) in
    let more = c.in_ok-read_more-in-Waits.ensures.more in (
      h.0 ++ more.0,
      Consumes-trans before (remaining c.loop.reader) (remaining c.read_more.new.reader) h.0 more.0 h.1 more.1,
      subst (λ o. IsWrittenAfter plan.ue plan.pads rota start (contents put.writer) put.written put.stream o (h.0 ++ more.0)) (sym more.2)
          (after_more plan.ue plan.pads rota start (contents put.writer) put.written put.stream put.waiting.items h.0 more.0 paused.0),
    )

pub returns : goal.returns
returns g c = λ before first read reached.
    let contents = g.W.Write.contents in
    let plan = c.args.plan.now in
    let h = c.loop.invariant before first read reached in
    (h.0, h.1, inl (front_so_far plan.ue plan.pads (rota_of plan) (contents c.args.writer.now) (contents c.loop.writer) c.loop.written c.loop.stream c.loop.waiting.items h.0 h.2))
