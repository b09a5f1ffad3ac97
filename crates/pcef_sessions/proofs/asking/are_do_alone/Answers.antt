use Rattle.std.proofs.Common.{rules, tests, ◌∙◌}
use Rattle.std.specs.Prelude.{string_bytes}
use Rattle.std.proofs.lemmas.Iterator.Consumers.{YieldsList-from_rest}
use Rattle.std.proofs.lemmas.Iterator.Search.{all_from_yields_List}
use Rattle.pcef_sessions.specs.Asked.{is_do_field}
use Rattle.pcef_sessions.proofs.Fields.{all_keys}
use Rattle.pcef_sessions.proofs.asking.are_do_alone.Goals as goal

pub returns : goal.returns
returns c =
    all_from_yields_List (λ key. is_do_field (string_bytes key)) _ _ _ c.all.ensures.ran (YieldsList-from_rest _ c.keys.ensures.rest) (λ x b q k. search (rules, tests))
    ∙ all_keys is_do_field c.args.members.now.entries
