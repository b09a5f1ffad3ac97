use Rattle.std.proofs.Common.{◌≡◌, ◌∙◌, ◌∷◌, ◌++◌, [], append_assoc, ap, sym}
use Rattle.pcef_run.proofs.PoolAnswers.{stopped_at, written_more}
use Rattle.pcef_run.proofs.answering.do_orders.Goals as goal

pub loop-order-preserved : goal.loop-order-preserved
loop-order-preserved g c =
    let contents = g.W.Write.contents in
    let at = c.loop-order in
    let rest = c.next.new.self.rest.items in
    record {
      written = written_more c.args.pooled.now at.pooled c.do_order.new.pooled at.yielded c.in-Some.order (contents c.args.writer.now) (contents at.writer) (contents c.do_order.new.writer) at.invariant.written
          c.in-Ok.ensures.all;
      left = at.invariant.left ∙ ap (λ t. at.yielded ++ t) c.in-Some.ensures.steps.0 ∙ sym (append_assoc at.yielded (c.in-Some.order ∷ []) rest);
      many = c.do_order.ensures.many ∙ at.invariant.many;
    }

pub returns-in-Err-clause-front : goal.returns-in-Err-clause-front
returns-in-Err-clause-front g c =
    let contents = g.W.Write.contents in
    let at = c.loop-order in
    let rest = c.next.new.self.rest.items in
    stopped_at c.in-Err.end c.args.pooled.now at.pooled at.yielded rest c.args.orders.items c.in-Some.order (contents c.args.writer.now) (contents at.writer) (contents c.do_order.new.writer)
    (at.invariant.left ∙ ap (λ t. at.yielded ++ t) c.in-Some.ensures.steps.0) at.invariant.written c.in-Err.ensures.front
