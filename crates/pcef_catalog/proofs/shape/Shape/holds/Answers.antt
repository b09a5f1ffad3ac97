use Rattle.std.proofs.Common.{◌∙◌, sym, ap}
use Rattle.std.specs.List.{list_all, list_any}
use Rattle.pcef_catalog.specs.Shapes.{test_holds}
use Rattle.pcef_catalog.proofs.Alternatives.{list_any_map}
use Rattle.pcef_catalog.proofs.shape.Shape.holds.Goals as goal

pub returns : goal.returns
returns c =
    rw (← c.self.view_is)
    (c.any_holds.ensures ∙ ap (list_any (λ a. list_all (test_holds c.args.header.now) a.tests.items)) c.as_slice.ensures.value
    ∙ sym (list_any_map (list_all (test_holds c.args.header.now)) (λ a. a.tests.items) c.self.inside.alternatives.items))
