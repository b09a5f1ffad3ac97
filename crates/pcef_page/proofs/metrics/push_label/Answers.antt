use Rattle.std.proofs.Common.{◌∙◌, ◌++◌, ap, string_bytes, sym}
use Rattle.std.specs.List.{flat_map}
use Rattle.std.proofs.lemmas.Iterator.{YieldsList-from_chars}
use Rattle.std.proofs.lemmas.Iterator.Consumers.{YieldsList-end}
use Rattle.std.proofs.lemmas.List.{flat_map_more}
use Rattle.std.proofs.lemmas.List.Folds.{flat_map-map}
use Rattle.pcef_page.specs.Labels.{label_character}
use Rattle.pcef_page.proofs.metrics.push_label.Goals as goal

pub loop-character-preserved : goal.loop-character-preserved
loop-character-preserved c =
    c.in_ok-push_character.ensures ∙ ap (λ t. t ++ label_character c.in-Some.character) c.loop-character.invariant
    ∙ flat_map_more label_character (string_bytes c.args.text.now) c.loop-character.yielded c.in-Some.character

pub returns : goal.returns
returns c =
    let told = c.loop-character in
    let all = YieldsList-end (YieldsList-from_chars c.args.value.now c.utf8.value cc) told.yielded _ told.yielded_by _ _ c.in-None.is c.next.ensures.steps in
    told.invariant
    ∙ ap (λ t. string_bytes c.args.text.now ++ t)
    (sym (flat_map-map label_character (λ x. x) told.yielded) ∙ ap (flat_map label_character) all.0)
