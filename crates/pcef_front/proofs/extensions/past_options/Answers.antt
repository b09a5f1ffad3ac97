use Rattle.std.proofs.Common.{arith}
use Rattle.pcef_front.proofs.FrontExtensions.{options_cut, options_passed}
use Rattle.pcef_front.proofs.extensions.past_options.Goals as goal

pub returns-then-room-len : goal.returns-then-room-len
returns-then-room-len c = λ kind extends other. options_cut kind c.args.room c.args.left.now extends other (let more = c.if-left-eq1.false in let some = c.requires.some in omega arith) (let short = c.if-room-len.true in let is = c.from.ensures in omega arith)

pub returns-else-room-len : goal.returns-else-room-len
returns-else-room-len c = λ kind extends other.
    rw (c.requires.next_is, c.from.ensures) (options_passed kind c.args.room c.args.left.now other (let more = c.if-left-eq1.false in let some = c.requires.some in omega arith) (let fits = c.if-room-len.false in let is = c.from.ensures in omega arith))
