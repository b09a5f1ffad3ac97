use Rattle.std.proofs.Common.{◌≡◌, ◌==◌, arith, length}
use Rattle.pcef_bearer.specs.declared.bearers.Bound.{Bound}
use Rattle.pcef_bearer.specs.Bindings.{rules_on}
use Rattle.pcef_bearer.proofs.Sums.{part_length}
use Rattle.pcef_bearer.proofs.bearers.Bearers.rules_on.Goals as goal

pub overflow_cast-result : goal.overflow_cast-result
overflow_cast-result c =
    let count : c.count_on.result ≡ length (rules_on c.args.id.0 c.self.inside.bound.items) = rw c.deref.ensures.value at c.count_on.ensures in
    omega (arith, count, part_length (λ (b : Bound). b.bearer.0 == c.args.id.0) c.self.inside.bound.items, c.self.invariant.0.few)
