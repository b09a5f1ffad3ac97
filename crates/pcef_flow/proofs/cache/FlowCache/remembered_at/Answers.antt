use Rattle.std.proofs.Common.{rules, ◌≡◌, ◌∙◌, ◌<◌, ap, sym, Some, length, arith}
use Rattle.std.specs.Prelude.{slice_get}
use Rattle.std.proofs.lemmas.Option.{slice_get-get_or}
use Rattle.std.proofs.lemmas.Bool.Decides.{nat_tests}
use Rattle.pcef_flow.proofs.Remembering.{noted}
use Rattle.pcef_flow.proofs.cache.FlowCache.remembered_at.Goals as goal

pub returns-in-Some-Some : goal.returns-in-Some-Some
returns-in-Some-Some c =
    let found = c.in-Some-Some.ensures.lookup in
    let within : c.args.at < length c.deref.result.now = grind (arith, nat_tests, found.0) in
    let there : slice_get c.deref.result.now c.args.at ≡ Some (Some c.in-Some-Some.remembered) =
    slice_get-get_or c.deref.result.now c.args.at _ within ∙ ap (λ x. Some x) (sym found.1 ∙ c.in-Some-Some.field-0-is) in
    rw (← c.self.view_is)
    (noted c.self.inside.flows.items c.args.at c.in-Some-Some.remembered c.args.header.now
    (ap (λ xs. slice_get xs c.args.at) (sym c.deref.ensures.value) ∙ there) (search rules))
