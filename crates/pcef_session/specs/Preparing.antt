-- Commands that a session has prepared, and will accept next.
use Rattle.std.specs.Prelude.{ℕ, ◌≡◌, ◌≤◌, ◌<◌, ◌+◌, true, List, Option, Some, None, IfSome, is_some, length}
use Rattle.std.specs.Arc.{arc_value}
use Rattle.std.specs.Option.{option_map}
use Rattle.pcef_bearer.specs.Bindings.{Binding}
use Rattle.pcef_bearer.specs.BindingSteps.{GetsId, HasRoom}
use Rattle.pcef_bearer.specs.Standing.{binding_of}
use Rattle.pcef_rule.specs.declared.quantity.BearerId.{BearerId}
use Rattle.pcef_model.specs.declared.command.Command.{Command}
use Rattle.pcef_model.specs.declared.command.Command.TheVariants.{Activate}
use Rattle.pcef_model.specs.Outcomes.{changes}
use Rattle.pcef_model.specs.ActiveRules.{Active}
use Rattle.pcef_model.specs.Commands.{activated, is_table, key_named}
use Rattle.pcef_model.specs.Entries.{Journal}
use Rattle.pcef_model.specs.Journals.{attached, gen, now, slots}
use Rattle.pcef_model.specs.Refusals.{first_of, is_active, refusals}
use Rattle.pcef_model.specs.Reports.{after_command, plan}
use Rattle.pcef_model.specs.Setting.{Setting}
use Rattle.pcef_table.specs.Tables.{TableValue}
use Rattle.pcef_usage.specs.Keys.{HasPlaceFor}
use Rattle.pcef_session.specs.declared.prepared.Activation.{Activation}
use Rattle.pcef_session.specs.declared.prepared.Prepared.{Prepared}
use Rattle.pcef_session.specs.declared.prepared.Prepared.TheVariants.{Changing, Unchanged}
use Rattle.pcef_session.specs.declared.prepared.PreparedChange.{PreparedChange}
use Rattle.pcef_session.specs.SessionModel.{SessionModel}
use Rattle.pcef_session.specs.Shown.{Shows, entry_rule}

-- what is prepared of a rule stands for it
pub record IsActivationOf (p : Setting) (r : Active) (x : Activation) : Type 0 where
  pub properties_are : x.properties ≡ r.properties
  pub rule_is : entry_rule p.catalog x.source ≡ Some r

-- a rule is prepared where the command makes one active, and it is that one
abbrev pub Activates : Setting → Option Active → Option Activation → Type 0
Activates p None None = Unit {0}
Activates p None (Some x) = ⊥
Activates p (Some r) None = ⊥
Activates p (Some r) (Some x) = IsActivationOf p r x

-- the bearer that a rule gets: the one of its pair of QCI and ARP, or else the least id that is free
abbrev pub IsBearerOf : Binding → Activation → BearerId → Type 0
IsBearerOf b x id = GetsId b x.properties.name x.properties.qos id.0

-- a bearer is prepared where a rule becomes active, and it is the one that this rule gets
abbrev pub IsBearerFor : Binding → Option Activation → Option BearerId → Type 0
IsBearerFor b None bearer = bearer ≡ None
IsBearerFor b (Some x) None = ⊥
IsBearerFor b (Some x) (Some id) = IsBearerOf b x id

abbrev pub GetsBearer : Setting → Journal → Option Activation → Option BearerId → Type 0
GetsBearer p j x bearer = IsBearerFor (binding_of p (now p j)) x bearer

-- memory is prepared to bind a rule where one becomes active
abbrev pub HasPlacesFor : Binding → Option Activation → ℕ → Type 0
HasPlacesFor b None places = Unit {0}
HasPlacesFor b (Some x) places = HasRoom x.properties.name places b.bound

-- memory is prepared for the key that a command names to get a slot
abbrev pub HasKeyPlaces : Setting → Journal → Command → ℕ → Type 0
HasKeyPlaces p j c places = HasPlaceFor (key_named p c) places (slots p j)

-- a table is made exactly by a table command, and shows the newest generation of the journal after it
pub record IsTableAfter (p : Setting) (after : Journal) (c : Command) (made : Option TableValue) : Type 0 where
  pub makes : is_some made ≡ is_table c
  pub shows : IfSome made (λ t. Shows p after (gen after) t)

-- A command that the session accepts next and that changes something. With it stand the table of the journal after it;
-- the rule that it makes active, the bearer of this rule and memory to bind it; memory for the key that it names; and what
-- it reports by itself. There is room in the journal for that, for the thresholds of eight keys and for the leaving of each
-- worker, and a place for a rule.
pub record IsReady (s : SessionModel) (d : PreparedChange) : Type 0 where
  pub accepted : first_of (refusals s.setting s.journal d.command) ≡ None
  pub changing : changes s.setting s.journal d.command ≡ true
  pub table : IsTableAfter s.setting (after_command s.setting s.journal d.command) d.command (option_map (λ t. arc_value t) d.table)
  pub rule : Activates s.setting (activated s.setting d.command) d.rule
  pub bearer : GetsBearer s.setting s.journal d.rule d.bearer
  pub places : HasPlacesFor (binding_of s.setting (now s.setting s.journal)) d.rule d.places
  pub key_places : HasKeyPlaces s.setting s.journal d.command d.key_places
  pub plan_is : d.reports.items ≡ plan s.setting s.journal d.command
  pub has_room : length d.reports.items + 9 + length (attached s.journal) ≤ s.room.entries
  pub has_place : 0 < s.room.rules

-- an Activate that the session accepts next, of a rule that is active
pub record IsIdle (s : SessionModel) (name : List ℕ) : Type 0 where
  pub accepted : first_of (refusals s.setting s.journal (Activate name)) ≡ None
  pub active : is_active s.setting s.journal name ≡ true

abbrev pub IsPreparedFor : SessionModel → Prepared → Type 0
IsPreparedFor s (Changing change) = IsReady s change
IsPreparedFor s (Unchanged name) = IsIdle s name

-- the command that was prepared
abbrev pub command_of : Prepared → Command
command_of (Changing change) = change.command
command_of (Unchanged name) = Activate name

-- the table that a command makes, if it makes one
abbrev pub table_made : Prepared → Option TableValue
table_made (Changing change) = option_map (λ t. arc_value t) change.table
table_made (Unchanged name) = None
