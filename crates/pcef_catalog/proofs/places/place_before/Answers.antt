use Rattle.std.proofs.Common.{◌≡◌, ◌∙◌, Some, ap, arith, below_more, refl}
use Rattle.pcef_catalog.proofs.Views.{read_name}
use Rattle.pcef_catalog.proofs.places.place_before.Goals as goal

pub loop-place-preserved : goal.loop-place-preserved
loop-place-preserved g c =
    below_more _ _ c.loop-place.invariant (λ e.
    let stands = read_name c.args.rules.now c.loop-place.place c.index-rules-place.result (omega arith) c.index-rules-place.is in
    let same : c.index-rules-place.result.properties.name ≡ c.args.name.now = cc in
    let no = c.if-has_name.ensures.1 same in
    cc)

pub returns-then-has_name-clause-found : goal.returns-then-has_name-clause-found
returns-then-has_name-clause-found g c =
    read_name c.args.rules.now c.loop-place.place c.index-rules-place.result (omega arith) c.index-rules-place.is ∙ ap Some (c.if-has_name.ensures.0 refl)
