use Rattle.std.specs.Prelude.{codes}
use Rattle.std.proofs.lemmas.List.{drop_all}
use Rattle.pcef_answer.proofs.WrittenTexts.{begun, closed}
use Rattle.pcef_answer.proofs.show.push_active.Goals as goal

pub loop-entry-init : goal.loop-entry-init
loop-entry-init c = begun _ _ (codes "{\"active\":[") _ c.in_ok-push_str.ensures.bytes

pub returns : goal.returns
returns c =
    let none = drop_all c.loop-entry.entry-index c.args.entries.now c.loop-entry-test.false in
    closed c.push_str-2.result _ _ _ (rw none at c.loop-entry.invariant) c.push_str-2.ensures.bytes
