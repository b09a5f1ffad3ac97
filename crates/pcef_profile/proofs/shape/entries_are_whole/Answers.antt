use Rattle.std.proofs.Common.{rules, tests, ◌∙◌}
use Rattle.std.proofs.lemmas.Iterator.{YieldsList-from_slice}
use Rattle.std.proofs.lemmas.Iterator.Search.{all_from_yields_List}
use Rattle.toml.specs.Data.{as_table}
use Rattle.toml.specs.View.{view}
use Rattle.pcef_profile.specs.ProfileKeys.{keys_of_declared, keys_there}
use Rattle.pcef_base.specs.Readings.{if_there}
use Rattle.pcef_profile.proofs.Tables.{all_tables}
use Rattle.pcef_profile.proofs.shape.entries_are_whole.Goals as goal

pub returns : goal.returns
returns c =
    all_from_yields_List (λ value. if_there (keys_there keys_of_declared) (as_table (view value))) _ _ _ c.all.ensures.ran (YieldsList-from_slice c.args.values.now cc) (λ x b q k. search (rules, tests))
    ∙ all_tables (keys_there keys_of_declared) c.args.values.now
