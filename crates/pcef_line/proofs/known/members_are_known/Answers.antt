use Rattle.std.proofs.Common.{rules, tests, ◌∙◌}
use Rattle.std.specs.Prelude.{string_bytes}
use Rattle.std.proofs.lemmas.Iterator.Consumers.{YieldsList-from_rest}
use Rattle.std.proofs.lemmas.Iterator.Search.{all_from_yields_List}
use Rattle.pcef_line.specs.LineWords.{field_text}
use Rattle.pcef_base.specs.Readings.{names_one_of}
use Rattle.pcef_line.proofs.Objects.{all_members}
use Rattle.pcef_line.proofs.known.members_are_known.Goals as goal

pub returns : goal.returns
returns c =
    all_from_yields_List (λ key. names_one_of field_text c.args.fields.now (string_bytes key)) _ _ _ c.all.ensures.ran (YieldsList-from_rest _ c.keys.ensures.rest) (λ x b q k. search (rules, tests))
    ∙ all_members c.args.fields.now c.args.members.now.entries
