-- What the books of a session hold, and what is counted into books and shares (TS 29.212, clause 4.5.16).
use Rattle.std.specs.Prelude.{ℕ, ◌≡◌, ◌≤◌, ◌<◌, ◌*◌, Bool, true, false, List, [], ◌∷◌, Result, Ok, Err, length, slice_get, slice_index}
use Rattle.std.specs.Option.{option_map_or}
use Rattle.pcef_rule.specs.declared.quantity.Slot.{Slot}
use Rattle.pcef_model.specs.Setting.{Setting}
use Rattle.pcef_model.specs.Entries.{Journal, commands, rows}
use Rattle.pcef_model.specs.Journals.{counted, slots}
use Rattle.pcef_model.specs.declared.answer.Accepted.{Accepted}
use Rattle.pcef_model.specs.declared.answer.Refusal.{Refusal}
use Rattle.pcef_session.specs.declared.batch.Item.{Item}
use Rattle.pcef_share.specs.Amounts.{Account, command_ledger, plus, row_ledger}

-- ---- what the books hold
-- what the journal counts for the key of a slot, 0 where no key has it
abbrev pub slot_total : Setting → Journal → ℕ → ℕ
slot_total p j n = option_map_or (counted p j) (slice_get (slots p j) n) 0

-- ten totals: of the eight slots, of the rows and of the commands; no slot has more octets than its rows can have
pub record AreCounted (p : Setting) (j : Journal) (totals : List ℕ) : Type 0 where
  pub ten : length totals ≡ 10
  pub slots_are : (n : ℕ) → n < 8 → slice_index totals n ≡ slot_total p j n
  pub rows_are : slice_index totals row_ledger ≡ length (rows j)
  pub commands_are : slice_index totals command_ledger ≡ length (commands j)
  pub within : (n : ℕ) → n < 8 → slice_index totals n ≤ 4294967295 * length (rows j)

-- ---- what a command counts
-- a command more, unless it changed nothing
abbrev pub one_more : Bool → List ℕ → List ℕ
one_more true totals = totals
one_more false totals = plus totals command_ledger 1

-- a command that was answered so
abbrev pub with_command : Result Accepted Refusal → List ℕ → List ℕ
with_command (Ok a) totals = one_more a.unchanged totals
with_command (Err r) totals = totals

-- ---- what rows count
-- octets for each of these slots
abbrev pub with_slots : List ℕ → List Slot → ℕ → List ℕ
with_slots totals [] octets = totals
with_slots totals (slot ∷ own) octets = with_slots (plus totals slot.0 octets) own octets

-- a row: its octets for each of its slots, and one row
abbrev pub with_item : List ℕ → Item → List ℕ
with_item totals i = plus (with_slots totals i.slots.items i.row.header.octets) row_ledger 1

unfoldable pub with_items : List ℕ → List Item → List ℕ
with_items totals [] = totals
with_items totals (i ∷ items) = with_items (with_item totals i) items

-- rows of which it was answered so whether they were taken over
abbrev pub with_taken : {A E : Type 0} → Result A E → List ℕ → List Item → List ℕ
with_taken (Ok a) totals items = with_items totals items
with_taken (Err e) totals items = totals

-- ---- books
-- after a command that was answered so
abbrev pub books_with_command : Result Accepted Refusal → Account → Account
books_with_command result books = record books { totals = with_command result books.totals }

-- after rows of which it was answered so whether they were taken over
abbrev pub books_with_taken : {A E : Type 0} → Result A E → Account → List Item → Account
books_with_taken result books items = record books { totals = with_taken result books.totals items }
