use Rattle.std.proofs.Common.{◌∙◌, ◌/◌, ◌==◌, ap, arith, sym}
use Rattle.std.specs.Prelude.{not}
use Rattle.pcef_front.proofs.FrontExtensions.{later_at_hand, later_by_third}
use Rattle.pcef_front.proofs.extensions.is_later.Goals as goal

pub returns-then-left-ge4 : goal.returns-then-left-ge4
returns-then-left-ge4 c = λ rest. later_at_hand c.args.left.now c.if-left-ge4.true rest ∙ ap (λ n. not ((n / 8) == 0)) (sym c.offset_of.ensures)

pub returns-then-left-ne0 : goal.returns-then-left-ne0
returns-then-left-ne0 c = later_by_third c.args.left.now c.if-left-eq3.true (let some = c.if-left-ne0.true in omega arith)
