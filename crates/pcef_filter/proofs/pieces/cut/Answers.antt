use Rattle.std.proofs.Common.{arith}
use Rattle.pcef_filter.proofs.PieceLaws.{cut_whole, cut_parts, pieces_some}
use Rattle.pcef_filter.proofs.pieces.cut.Goals as goal

pub returns-then-len-token-clause-pieces : goal.returns-then-len-token-clause-pieces
returns-then-len-token-clause-pieces c = cut_whole _ _ _ c.first_len-len.ensures.first (omega arith)

pub returns-clause-pieces : goal.returns-clause-pieces
returns-clause-pieces c = cut_parts _ _ _ c.first_len-len.ensures.first (omega arith)

pub returns-clause-some_left : goal.returns-clause-some_left
returns-clause-some_left c = pieces_some _ _
