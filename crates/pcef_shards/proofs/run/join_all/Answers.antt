use Rattle.std.proofs.Common.{◌+◌, ◌++◌, ◌∷◌, ◌∙◌, ◌≤◌, [], ap, append_assoc, subst, sym, vec_len}
use Rattle.pcef_shards.specs.private.Started.{HaveKept}
use Rattle.pcef_shards.proofs.Starts.{kept_more, length_more}
use Rattle.pcef_shards.proofs.run.join_all.Goals as goal

pub loop-handle-preserved : goal.loop-handle-preserved
loop-handle-preserved g c =
    let contents = g.W.Write.contents in
    let part = g.N.Leading.part in
    let at = c.loop-handle in
    let handle = c.in-Some.handle in
    let rest = c.next.new.self.rest.items in
    record {
      kept = subst (HaveKept contents part (at.yielded ++ handle ∷ [])) (sym c.push_reserved.ensures.items)
          (kept_more contents part at.yielded at.all.items handle c.join.result at.invariant.kept c.join.ensures);
      left = at.invariant.left ∙ ap (λ t. at.yielded ++ t) c.in-Some.ensures.steps.0 ∙ sym (append_assoc at.yielded (handle ∷ []) rest);
      many = c.push_reserved.ensures.len ∙ ap (λ k. k + 1) at.invariant.many ∙ sym (length_more at.yielded handle);
      room = subst (λ k. vec_len c.args.handles ≤ k) (sym c.push_reserved.ensures.capacity) at.invariant.room;
    }
