use Rattle.std.proofs.Common.{◌∙◌}
use Rattle.bench_pcef.proofs.NoRows.{with_no_items}
use Rattle.bench_pcef.proofs.workers.alone.without_rows.Goals as goal

pub new-requires-2 : goal.new-requires-2
new-requires-2 g c = c.requires ∙ with_no_items _ c.new.result.items c.new.ensures.items
