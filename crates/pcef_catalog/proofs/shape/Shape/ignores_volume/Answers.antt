use Rattle.std.proofs.Common.{◌∙◌, sym, ap}
use Rattle.std.specs.List.{list_all}
use Rattle.std.proofs.lemmas.List.Folds.{list_all-map}
use Rattle.pcef_catalog.specs.Shapes.{test_ignores_volume}
use Rattle.pcef_catalog.proofs.shape.Shape.ignores_volume.Goals as goal

pub returns : goal.returns
returns c =
    rw (← c.self.view_is)
    (c.all_ignore_volume.ensures ∙ ap (list_all (λ a. list_all test_ignores_volume a.tests.items)) c.as_slice.ensures.value
    ∙ sym (list_all-map (list_all test_ignores_volume) (λ a. a.tests.items) c.self.inside.alternatives.items))
