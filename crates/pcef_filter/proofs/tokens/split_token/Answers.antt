use Rattle.pcef_filter.proofs.TokenLaws.{tokens_cut}
use Rattle.pcef_filter.proofs.tokens.split_token.Goals as goal

pub returns : goal.returns
returns c = tokens_cut _ _ _ _ _ c.in-Some.ensures c.filled_len.ensures.first c.split_at.ensures.front c.split_at.ensures.back
