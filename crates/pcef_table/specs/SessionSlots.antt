-- Slots that count for every packet that passes: those of the keys of session level that are on.
use Rattle.std.specs.Prelude.{ℕ, suc, Bool, true, false, List, [], ◌∷◌, Option, Some, None, replicate, set, if◌then◌else◌}
use Rattle.pcef_rule.specs.declared.quantity.Slot.{Slot}
use Rattle.pcef_catalog.specs.declared.listing.Offer.{Offer}
use Rattle.pcef_model.specs.declared.verdict.Verdict.{Verdict}
use Rattle.pcef_model.specs.declared.verdict.Verdict.TheVariants.{Passed}
use Rattle.pcef_table.specs.Tables.{TableValue}
use Rattle.pcef_table.specs.Verdicts.{slot_for}

-- none of eight
abbrev pub no_slots : List Bool
no_slots = replicate 8 false

-- the slots from a number on whose flags are up, in slot order
abbrev pub slots_from : ℕ → List Bool → List Slot
slots_from n [] = []
slots_from n (up ∷ flags) = if up then record { 0 = n } ∷ slots_from (suc n) flags else slots_from (suc n) flags

abbrev pub slots_up : List Bool → List Slot
slots_up flags = slots_from 0 flags

-- the flags with that of this slot up
abbrev pub with_flag_up : Option Slot → List Bool → List Bool
with_flag_up None flags = flags
with_flag_up (Some slot) flags = set flags slot.0 true

-- the slots that a packet with this verdict counts for, in slot order: where it passed, the counted slot of its rule, and
-- those of the keys of session level that are on
abbrev pub slots_counted : List Offer → TableValue → Verdict → List Slot
slots_counted offers t (Passed rule bearer) = slots_up (with_flag_up (slot_for offers t.entries (Passed rule bearer)) t.session)
slots_counted offers t _ = []

-- the same, where the counted slot of the rule that let it pass is known
abbrev pub slots_beside : Option Slot → List Bool → Verdict → List Slot
slots_beside slot flags (Passed rule bearer) = slots_up (with_flag_up slot flags)
slots_beside slot flags _ = []
