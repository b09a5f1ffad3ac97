use Rattle.std.proofs.Common.{◌≡◌, ◌∙◌, ℕ, List, ap, sym}
use Rattle.std.specs.Prelude.{slice_get}
use Rattle.pcef_journaled.specs.KeptNames.{KeptNames}
use Rattle.pcef_journaled.proofs.Named.{stays}
use Rattle.pcef_journaled.proofs.names.Names.place_of.Goals as goal

pub returns-then-stands_at-clause-names : goal.returns-then-stands_at-clause-names
returns-then-stands_at-clause-names c =
    let names = c.args.self.now.names in
    let place = c.self.inside.last in
    let slice : c.as_slice.result.now ≡ names = c.as_slice.ensures.keys ∙ ap (λ (k : KeptNames). k.names) c.self.view_is in
    stays c.args.name.now names place
    (ap (λ (ns : List (List ℕ)). slice_get ns place) (sym slice) ∙ c.stands_at.ensures c.if-stands_at.true)
