-- When a table shows a generation of the journal.
use Rattle.std.specs.Prelude.{ℕ, ◌≡◌, ◌<◌, Bool, false, ◌&&◌, IfSome, List, Option, Some, get_or, length, slice_get, Contains}
use Rattle.std.specs.Option.{option_map, option_map_or}
use Rattle.pcef_table.specs.declared.entry.TableEntry.{TableEntry}
use Rattle.pcef_table.specs.declared.entry.Source.{Source}
use Rattle.pcef_table.specs.declared.entry.Source.TheVariants.{Dynamic, Predefined}
use Rattle.pcef_catalog.specs.declared.listing.Offer.{Offer}
use Rattle.pcef_table.specs.Tables.{IsTable, TableValue}
use Rattle.pcef_model.specs.Setting.{Setting, most_keys}
use Rattle.pcef_model.specs.Commands.{is_among}
use Rattle.pcef_model.specs.Generations.{Generation}
use Rattle.pcef_model.specs.ActiveRules.{Active, dynamic, predefined}
use Rattle.pcef_model.specs.Entries.{Journal}
use Rattle.pcef_model.specs.Journals.{at, slots}
use Rattle.pcef_model.specs.Slots.{counts_now, slot_of}

-- the rule of an entry
abbrev pub entry_rule : List Offer → Source → Option Active
entry_rule offers (Dynamic rule) = Some (dynamic rule)
entry_rule offers (Predefined index) = option_map predefined (slice_get offers index)

-- an entry that stands for a rule: its bearer, the slot of its key, which is one of eight, and whether the key is on
pub record StandsFor (p : Setting) (j : Journal) (g : ℕ) (e : TableEntry) (r : Active) : Type 0 where
  pub rule_is : entry_rule p.catalog e.source ≡ Some r
  pub bearer_is : e.bearer.0 ≡ (at p j g).id_of r.properties.qos
  pub slot_is : option_map (λ s. s.0) e.slot ≡ slot_of (slots p j) r.properties.key
  pub slot_low : IfSome e.slot (λ s. s.0 < most_keys)
  pub counted_is : e.counted ≡ counts_now (at p j g).on r.properties.key

-- a key of session level is on
abbrev pub is_session_on : Generation → List ℕ → Bool
is_session_on g key = is_among key g.session && is_among key g.on

-- the flags of eight slots: flag n is up exactly where the key of slot n is of session level and on
pub record ShowsSessionKeys (p : Setting) (j : Journal) (g : ℕ) (flags : List Bool) : Type 0 where
  pub eight : length flags ≡ most_keys
  pub up_is : (n : ℕ) → get_or flags n false ≡ option_map_or (is_session_on (at p j g)) (slice_get (slots p j) n) false

-- the table of generation g: its entries stand for the active rules, and for no others, in precedence order, and its
-- slots for all packets are those of the keys of session level that are on
pub record Shows (p : Setting) (j : Journal) (g : ℕ) (t : TableValue) : Type 0 where
  pub number_is : t.number ≡ g
  pub ordered : IsTable p.catalog t.entries
  pub session : ShowsSessionKeys p j g t.session
  pub each : (r : Active) → Contains (at p j g).rules r → (e : TableEntry) × Contains t.entries e × StandsFor p j g e r
  pub only : (e : TableEntry) → Contains t.entries e → (r : Active) × Contains (at p j g).rules r × StandsFor p j g e r
