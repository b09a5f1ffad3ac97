use Rattle.std.proofs.Common.{rules, tests, ◌∙◌}
use Rattle.std.specs.Prelude.{string_bytes}
use Rattle.std.proofs.lemmas.Iterator.Consumers.{YieldsList-from_rest}
use Rattle.std.proofs.lemmas.Iterator.Search.{all_from_yields_List}
use Rattle.pcef_profile.specs.ProfileKeys.{key_text}
use Rattle.pcef_base.specs.Readings.{names_one_of}
use Rattle.pcef_profile.proofs.Tables.{all_keys}
use Rattle.pcef_profile.proofs.shape.keys_are_known.Goals as goal

pub returns : goal.returns
returns c =
    all_from_yields_List (λ text. names_one_of key_text c.args.keys.now (string_bytes text)) _ _ _ c.all.ensures.ran (YieldsList-from_rest _ c.keys.ensures.rest) (λ x b q k. search (rules, tests))
    ∙ all_keys c.args.keys.now c.args.table.now.entries
