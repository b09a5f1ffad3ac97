use Rattle.std.proofs.Common.{◌∙◌, ap, List, Some}
use Rattle.pcef_model.specs.Commands.{is_among}
use Rattle.pcef_usage.specs.declared.usage.KeyState.{KeyState}
use Rattle.pcef_usage.specs.Keys.{keys_of}
use Rattle.pcef_usage.proofs.Slots.{keys_with_slot}
use Rattle.pcef_model.proofs.SlotPlaces.{add_among}
use Rattle.pcef_session.proofs.applying.enter_key.Goals as goal

pub start-requires : goal.start-requires
start-requires c =
    ap (λ (ss : List KeyState). is_among c.in-Monitor.key (keys_of ss)) c.keep_slot.ensures.states
    ∙ ap (is_among c.in-Monitor.key) (keys_with_slot (Some c.in-Monitor.key) c.in-Monitor.level c.args.counted.now.states)
    ∙ add_among c.in-Monitor.key (keys_of c.args.counted.now.states)
