-- All that a session keeps beside its journal, and when it agrees with it.
use Rattle.std.specs.Prelude.{ℕ, ◌≡◌, List, map}
use Rattle.std.specs.List.{AllByRecursion}
use Rattle.pcef_bearer.specs.Bindings.{Binding}
use Rattle.pcef_model.specs.declared.trigger.TriggerSet.{TriggerSet}
use Rattle.pcef_model.specs.Setting.{Setting}
use Rattle.pcef_model.specs.Entries.{Journal}
use Rattle.pcef_model.specs.Journals.{gen, now, slots, subscribed}
use Rattle.pcef_table.specs.declared.entry.Source.{Source}
use Rattle.pcef_table.specs.Tables.{TableValue}
use Rattle.pcef_usage.specs.declared.usage.KeyState.{KeyState}
use Rattle.pcef_bearer.specs.Standing.{binding_of}
use Rattle.pcef_model.specs.Lawful.{Lawful}
use Rattle.pcef_session.specs.Shown.{Shows}
use Rattle.pcef_session.specs.Agreement.{AreKept, KeyAgrees}

-- what a session keeps beside its journal: the active rules by name, in the order in which they became
-- active, the bearers that they are bound to, the keys that have a slot, the triggers, and the table
-- of the newest generation
pub record Parts : Type 0 where
  pub rules : List (List ℕ × Source)
  pub binding : Binding
  pub keys : List KeyState
  pub triggers : TriggerSet
  pub table : TableValue

-- the journal may be, and each part is as it says; each active rule is bound to one bearer, that of its
-- pair of QCI and ARP (TS 23.203, clause 6.1.1.4)
pub record Agrees (p : Setting) (j : Journal) (parts : Parts) : Type 0 where
  pub lawful : Lawful p j
  pub rules_are : AreKept p.catalog parts.rules (now p j).rules
  pub binding_is : parts.binding ≡ binding_of p (now p j)
  pub keys_are : map (λ s. s.key) parts.keys ≡ slots p j
  pub usage_is : AllByRecursion (KeyAgrees p j) parts.keys
  pub triggers_are : parts.triggers ≡ subscribed j
  pub table_shows : Shows p j (gen j) parts.table

-- what is fixed for a session, its journal, and what it keeps beside it
pub record Held : Type 0 where
  pub setting : Setting
  pub journal : Journal
  pub parts : Parts
