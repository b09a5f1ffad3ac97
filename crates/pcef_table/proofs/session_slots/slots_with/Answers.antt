use Rattle.std.proofs.Common.{◌≡◌, ◌∙◌, Bool, false, List, ap, replicate, sym}
use Rattle.pcef_table.specs.SessionSlots.{no_slots, slots_up, with_flag_up}
use Rattle.pcef_table.proofs.Flags.{none_up}
use Rattle.pcef_table.proofs.session_slots.slots_with.Goals as goal

pub returns-else-any_up : goal.returns-else-any_up
returns-else-any_up c =
    let none : c.args.flags.now ≡ no_slots =
    none_up c.args.flags.now (sym c.any_up.ensures ∙ c.if-any_up.false) ∙ ap (λ n. replicate n false) c.told-flags in
    c.alone.ensures ∙ ap (λ (flags : List Bool). slots_up (with_flag_up c.args.slot flags)) (sym none)
