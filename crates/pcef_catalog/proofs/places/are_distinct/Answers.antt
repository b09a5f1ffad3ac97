use Rattle.std.proofs.Common.{◌≡◌, ◌∙◌, Some, arith, below_more, sym, ap}
use Rattle.std.proofs.lemmas.List.{length-map}
use Rattle.std.specs.List.{slice_get}
use Rattle.pcef_rule.specs.declared.rule.Properties.{Properties}
use Rattle.pcef_catalog.specs.Offers.{names_of}
use Rattle.pcef_catalog.specs.PlainRules.{offers_in}
use Rattle.pcef_catalog.proofs.Views.{read_name}
use Rattle.pcef_catalog.proofs.places.are_distinct.Goals as goal

pub returns-in-Some : goal.returns-in-Some
returns-in-Some g c =
    let stands = read_name c.args.rules.now c.loop-place.place c.index-rules-place.result (omega arith) c.index-rules-place.is in
    let same : slice_get (names_of (offers_in c.args.rules.now)) c.in-Some._twin ≡ slice_get (names_of (offers_in c.args.rules.now)) c.loop-place.place = let f = c.in-Some.ensures.found in cc in
    (λ f. absurd cc, λ d. absurd (d c.in-Some._twin c.loop-place.place c.in-Some.ensures.within (rw (length-map, length-map) (omega arith)) same))

pub loop-place-preserved : goal.loop-place-preserved
loop-place-preserved g c =
    below_more _ _ c.loop-place.invariant (λ k h e.
    let stands = read_name c.args.rules.now c.loop-place.place c.index-rules-place.result (omega arith) c.index-rules-place.is in
    c.in_default.ensures.none k h (e ∙ (stands ∙ ap Some (ap (λ (p : Properties). p.name) (sym c.properties.ensures)))))
