use Rattle.pcef_shards.proofs.sorting.Sorting.end.Goals as goal

pub returns : goal.returns
returns c = λ keys threads taken input h. (c.in_ok-settle_lines.ensures keys threads taken input h).0
