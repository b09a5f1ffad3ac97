use Rattle.std.proofs.Common.{◌≡◌, ◌∙◌, ℕ, List, ap}
use Rattle.pcef_journaled.specs.KeptNames.{KeptNames, with_name}
use Rattle.pcef_journaled.proofs.Named.{goes_on}
use Rattle.pcef_journaled.proofs.names.Names.find.Goals as goal

pub returns-clause-more : goal.returns-clause-more
returns-clause-more c =
    let name = c.args.name.now in
    let names = c.args.self.now.names in
    let old : c.self.inside.names.keys ≡ names = ap (λ (k : KeptNames). k.names) c.self.view_is in
    let more = goes_on name names in
    (more.0, c.in-Ok.ensures.keys ∙ ap (λ (n : List ℕ). with_name n c.self.inside.names.keys) c.copy.ensures ∙ ap (λ (ns : List (List ℕ)). with_name name ns) old ∙ more.1)
