-- What a session keeps, and when its rules, bearers and octets are exact: the one statement that all others serve. What
-- a key's level and grant are, and whether it is on, `KeysAgree` says.
use Rattle.std.specs.Prelude.{ℕ, ◌≡◌, ◌≤◌, ◌+◌, true, List, Some, AllPairs, Contains, map}
use Rattle.std.specs.List.{AllByRecursion}
use Rattle.pcef_rule.specs.declared.quantity.Qos.{Qos}
use Rattle.pcef_bearer.specs.Bindings.{Agree, Binding, DifferInName, bearer_of_rule, guaranteed, bound_down, bound_up}
use Rattle.pcef_bearer.specs.Standing.{binding_of}
use Rattle.pcef_model.specs.ActiveRules.{Active}
use Rattle.pcef_model.specs.Entries.{Journal, rows}
use Rattle.pcef_model.specs.Generations.{has_bearer}
use Rattle.pcef_model.specs.Journals.{counted, gen, now, reported, slots}
use Rattle.pcef_model.specs.Lawful.{Lawful}
use Rattle.pcef_model.specs.Laws.{HasItsVerdict}
use Rattle.pcef_model.specs.Refusals.{rate_of}
use Rattle.pcef_model.specs.Setting.{Setting}
use Rattle.pcef_session.specs.Agreement.{AreKept}
use Rattle.pcef_session.specs.Shown.{Shows}
use Rattle.pcef_table.specs.declared.entry.Source.{Source}
use Rattle.pcef_table.specs.Tables.{TableValue}
use Rattle.pcef_usage.specs.declared.usage.KeyState.{KeyState}

-- what a session keeps: its journal, the active rules by name, what is bound to its bearers, the keys with their
-- counters, and the table that judges packets
pub record KeptBySession : Type 0 where
  pub journal : Journal
  pub rules : List (List ℕ × Source)
  pub binding : Binding
  pub keys : List KeyState
  pub table : TableValue

pub record SessionIsExact (p : Setting) (s : KeptBySession) : Type 0 where
  -- each entry of the journal was due where it was made
  pub lawful : Lawful p s.journal
  -- the active rules are those of the journal's newest generation
  pub rules_are : AreKept p.catalog s.rules (now p s.journal).rules
  -- these are the bound rules, each with its own QCI, ARP and rates, and no other is bound
  pub binding_is : s.binding ≡ binding_of p (now p s.journal)
  -- each is bound once
  pub names : AllPairs DifferInName s.binding.bound
  -- each is bound to one bearer, that of its QCI and ARP (TS 23.203, clause 6.1.1.4)
  pub bound : (r : Active) → Contains (now p s.journal).rules r →
      bearer_of_rule r.properties.name s.binding.bound ≡ Some (record { 0 = (now p s.journal).id_of r.properties.qos })
  -- two rules are on one bearer exactly where they have the same QCI and ARP
  pub shared : AllPairs Agree s.binding.bound
  -- a bearer guarantees the exact sums of the rates of the active rules with its QCI and ARP
  pub sums : (q : Qos) → has_bearer p (now p s.journal).rules q ≡ true →
      guaranteed ((now p s.journal).id_of q) s.binding.bound ≡ Some (rate_of (now p s.journal) q)
  -- all rates together are within the capacity
  pub within_up : bound_up s.binding.bound ≤ p.capacity.up
  pub within_down : bound_down s.binding.bound ≤ p.capacity.down
  -- the keys are those that were ever named, in the order of their first naming
  pub keys_are : map (λ k. k.key) s.keys ≡ slots p s.journal
  -- the reported octets of each are those of the journal's reports; with the unreported ones they are those of the packet
  -- rows that count for the key, each row by its own generation (TS 29.212, clause 4.5.16)
  pub reported_octets : AllByRecursion (λ k. k.reported ≡ reported s.journal k.key) s.keys
  pub octets : AllByRecursion (λ k. k.reported + k.unreported ≡ counted p s.journal k.key) s.keys
  -- each row has the verdict of its own generation
  pub judged : AllByRecursion (HasItsVerdict p s.journal) (rows s.journal)
  -- the table shows the newest generation, and so judges and counts as that does
  pub table_is : Shows p s.journal (gen s.journal) s.table
