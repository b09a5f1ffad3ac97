use Rattle.pcef_index.proofs.based.reach_at.Goals as goal

pub returns-else-contains : goal.returns-else-contains
returns-else-contains c b k behind there = c.len.ensures c.args.place b k behind there
