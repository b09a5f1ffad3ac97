-- The slots that rows count for.
use Rattle.std.specs.Prelude.{◌<◌, ◌≤◌, List, All, length, ◌^◌}
use Rattle.pcef_rule.specs.declared.quantity.Slot.{Slot}
use Rattle.pcef_model.specs.declared.row.Row.{Row}
use Rattle.pcef_model.specs.Setting.{Setting, most_keys}
use Rattle.pcef_model.specs.Entries.{Journal}
use Rattle.pcef_model.specs.Journals.{slots}
use Rattle.pcef_session.specs.declared.batch.Item.{Item}
use Rattle.pcef_model.specs.Slots.{CountsFor}

abbrev pub row_of : Item → Row
row_of i = i.row

abbrev pub row_slots : Item → List Slot
row_slots i = i.slots.items

-- each row's slots are those of the keys that it counts for
abbrev pub HasItsSlots : Setting → Journal → List Item → Type 0
HasItsSlots p j items = All (λ i. CountsFor p j i.row i.slots.items) items

-- as many keys as may have a slot, or fewer
abbrev pub HasFewKeys : Setting → Journal → Type 0
HasFewKeys p j = length (slots p j) ≤ most_keys

-- the octets of each row fit 32 bits
abbrev pub HasSmallRows : List Item → Type 0
HasSmallRows items = All (λ i. i.row.header.octets < 2 ^ 32) items
