use Rattle.std.proofs.Common.{◌≡◌, ◌∙◌, ◌+◌, ◌++◌, ◌∷◌, [], List, ap, arith, length, subst, sym, ℕ}
use Rattle.std.specs.Prelude.{All}
use Rattle.std.proofs.lemmas.List.Elements.{All-push}
use Rattle.pcef_shards.specs.private.Started.{AreFor}
use Rattle.pcef_shards.proofs.Starts.{length_more, started_more}
use Rattle.pcef_shards.proofs.run.start_each.Goals as goal

pub loop-writer-preserved : goal.loop-writer-preserved
loop-writer-preserved g c =
    let i = c.loop-writer.invariant in
    let ys = c.loop-writer.yielded in
    let w = c.in-Some.writer in
    let shard = c.in_ok-shard.shard in
    let lanes = c.loop-writer.started.lanes.items in
    let handles = c.loop-writer.started.handles.items in
    let added = c.in_ok-add.ensures in
    let n = c.len.result in (
      ap length added.lanes ∙ length_more lanes shard.lane ∙ ap (λ k. k + 1) i.0 ∙ sym (length_more ys w),
      ap length added.handles ∙ length_more handles shard.handle ∙ ap (λ k. k + 1) i.1 ∙ sym (length_more ys w),
      subst (All (λ (lane : List ℕ). lane ≡ [])) (sym added.lanes) (All-push (λ (lane : List ℕ). lane ≡ []) lanes shard.lane i.2 c.in_ok-shard.ensures.lane),
      subst (AreFor c.args.tasks.profile.now 0 (ys ++ w ∷ [])) (sym added.handles)
          (started_more c.args.tasks.profile.now 0 n ys handles w shard.handle i.3 c.in_ok-shard.ensures.thread (omega (arith, c.len.ensures, i.1)) (c.in_ok-shard.ensures.profile ∙ c.same.ensures) c.in_ok-shard.ensures.writer),
    )
