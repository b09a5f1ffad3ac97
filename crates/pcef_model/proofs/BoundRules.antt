-- Active rules with a name each.
use Rattle.std.specs.Prelude.{List}
use Rattle.pcef_model.specs.ActiveRules.{Active}
use Rattle.pcef_model.proofs.Names.{Once}

-- each name once
abbrev pub NamesOnce : List Active → Type 0
NamesOnce rules = Once (λ r. r.properties.name) rules
