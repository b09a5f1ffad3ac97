use Rattle.std.proofs.Common.{arith}
use Rattle.pcef_script.proofs.KeptLines.{one_more, no_more}
use Rattle.pcef_script.proofs.input.keep.Goals as goal

pub returns-then-len-ge-MAX_LINE-clause-ok : goal.returns-then-len-ge-MAX_LINE-clause-ok
returns-then-len-ge-MAX_LINE-clause-ok c = λ line kept. no_more _ line _ c.args.byte kept (omega arith)

pub returns-in-Ok-clause-ok : goal.returns-in-Ok-clause-ok
returns-in-Ok-clause-ok c = λ line kept. rw c.in-Ok.ensures.items (one_more _ line _ c.args.byte kept (omega arith))
