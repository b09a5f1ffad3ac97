use Rattle.std.proofs.Common.{◌∙◌, arith, sym}
use Rattle.std.proofs.lemmas.List.{length-map}
use Rattle.pcef_usage.specs.declared.usage.KeyState.{KeyState}
use Rattle.pcef_usage.proofs.Slots.{without_slot}
use Rattle.pcef_usage.proofs.Tells.{has_slot_is}
use Rattle.pcef_usage.proofs.usage.Usage.keep_slot.Goals as goal

pub add-requires-clause-places : goal.add-requires-clause-places
add-requires-clause-places c =
    let absent = without_slot c.args.key.now c.args.self.now c.find.result c.find.ensures c.if-is_none.ensures in
    omega (arith, length-map c.args.self.now (λ (s : KeyState). s.key), c.requires.places (sym (has_slot_is c.args.key.now c.args.self.now) ∙ absent))
