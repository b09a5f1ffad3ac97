-- Entries of tables for rules that become active.
use Rattle.std.specs.Prelude.{◌≡◌, ◌∷◌, List, Some}
use Rattle.std.specs.Option.{option_map}
use Rattle.pcef_model.specs.declared.command.Command.{Command}
use Rattle.pcef_model.specs.declared.entry.Entry.TheVariants as entry
use Rattle.pcef_model.specs.Entries.{Journal}
use Rattle.pcef_model.specs.Journals.{gen}
use Rattle.pcef_model.specs.Setting.{Setting}
use Rattle.pcef_rule.specs.declared.quantity.BearerId.{BearerId}
use Rattle.pcef_bearer.specs.Bindings.{Binding}
use Rattle.pcef_bearer.specs.BindingSteps.{id_excluding, without_bound}
use Rattle.pcef_table.specs.declared.entry.TableEntry.{TableEntry}
use Rattle.pcef_table.specs.Tables.{TableValue}
use Rattle.pcef_usage.specs.declared.usage.KeyState.{KeyState}
use Rattle.pcef_usage.specs.Keys.{slot_place}
use Rattle.pcef_session.specs.declared.prepared.Activation.{Activation}
use Rattle.pcef_session.specs.Shown.{Shows}
use Rattle.pcef_session.specs.private.Keys.{is_on}

-- the journal with a command, before its reports
abbrev pub with_command : Command → Journal → Journal
with_command c j = entry.Command c ∷ j

-- a table of the generation that a command makes
abbrev pub ShowsNext : Setting → Journal → Command → TableValue → Type 0
ShowsNext p j c t = Shows p (with_command c j) (gen (with_command c j)) t

-- an entry for a rule that becomes active on this bearer: the slot that its key has or gets, and whether the key
-- is on
pub record IsEntryOn (id : BearerId) (keys : List KeyState) (x : Activation) (e : TableEntry) : Type 0 where
  pub source_is : e.source ≡ x.source
  pub bearer_is : e.bearer ≡ id
  pub slot_is : option_map (λ s. s.0) e.slot ≡ option_map (λ k. slot_place k keys) x.properties.key
  pub counted_is : e.counted ≡ is_on x.properties.key keys

-- an entry for a rule that becomes active: the bearer of its pair, the slot that its key has or gets, and whether
-- the key is on
pub record IsEntryOf (b : Binding) (keys : List KeyState) (x : Activation) (e : TableEntry) : Type 0 where
  pub source_is : e.source ≡ x.source
  pub bearer_is : id_excluding b.default_qos b.bound (without_bound x.properties.name b.bound) x.properties.qos ≡ Some e.bearer.0
  pub slot_is : option_map (λ s. s.0) e.slot ≡ option_map (λ k. slot_place k keys) x.properties.key
  pub counted_is : e.counted ≡ is_on x.properties.key keys
