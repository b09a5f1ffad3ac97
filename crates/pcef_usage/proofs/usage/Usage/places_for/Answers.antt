use Rattle.std.proofs.Common.{◌∙◌, sym}
use Rattle.pcef_usage.proofs.Tells.{has_slot_is}
use Rattle.pcef_usage.proofs.usage.Usage.places_for.Goals as goal

pub returns-in-Some : goal.returns-in-Some
returns-in-Some c absent =
    let there = sym (has_slot_is c.args.key.now c.args.self.now) ∙ c.in-Some.ensures.0 in cc
