use Rattle.std.proofs.lemmas.Result.{IfOk-weaker}
use Rattle.pcef_shards.proofs.Sortings.{had_end, settles_end}
use Rattle.pcef_shards.proofs.sorting.Sorting.settle_lines.Goals as goal

pub returns-in-Some : goal.returns-in-Some
returns-in-Some c = had_end c.args.self.now c.in-Some.thread c.in-Some.is

pub returns-in-None : goal.returns-in-None
returns-in-None c =
    IfOk-weaker c.settle.result _ _ (λ t h. settles_end c.args.self.now c.settle.new.self t c.in-None.is h) c.settle.ensures
