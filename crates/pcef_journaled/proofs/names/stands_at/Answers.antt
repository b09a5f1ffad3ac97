use Rattle.std.proofs.Common.{◌∙◌, Some, ap, length, refl, sym}
use Rattle.std.proofs.lemmas.Bool.{ltb-true}
use Rattle.std.proofs.lemmas.Option.{slice_get_read}
use Rattle.std.specs.Cmp.Lexicographic.{same_text}
use Rattle.pcef_journaled.proofs.names.stands_at.Goals as goal

pub returns-in-Some : goal.returns-in-Some
returns-in-Some c same =
    let names = c.args.names.now in
    let found = c.in-Some.found.now in
    let stands = slice_get_read names (length names) c.args.place found refl (ltb-true _ _ (sym c.in-Some.ensures.lookup.0)) c.in-Some.ensures.lookup.1 in
    stands ∙ ap Some (same_text found c.args.name.now (sym same ∙ c.eq.ensures))
