-- Laws of lawful journals, for whoever reads the definitions.
use Rattle.std.specs.Prelude.{ℕ, ◌≡◌, ◌≤◌, true, List, ◌∷◌, Some, Contains}
use Rattle.pcef_packet.specs.declared.header.Header.{Header}
use Rattle.pcef_bearer.specs.Bindings.{bearer_of_rule, guaranteed}
use Rattle.pcef_model.specs.declared.verdict.Verdict.{Verdict}
use Rattle.pcef_table.specs.Tables.{TableValue}
use Rattle.pcef_table.specs.SessionSlots.{slots_counted}
use Rattle.pcef_table.specs.Verdicts.{IsVerdict}
use Rattle.pcef_model.specs.declared.command.Command.{Command}
use Rattle.pcef_model.specs.declared.entry.Entry.TheVariants as entry
use Rattle.pcef_model.specs.ActiveRules.{Active}
use Rattle.pcef_model.specs.Setting.{Setting}
use Rattle.pcef_model.specs.Entries.{Journal}
use Rattle.pcef_model.specs.Journals.{at, counts_in, gen, verdict_at, now, slots}
use Rattle.pcef_model.specs.Refusals.{rate_of}
use Rattle.pcef_model.specs.Slots.{AreSlotsOf}
use Rattle.pcef_model.specs.Lawful.{Lawful}
use Rattle.pcef_session.specs.Shown.{Shows}
use Rattle.pcef_bearer.specs.Standing.{binding_of}
use Rattle.pcef_rule.specs.declared.quantity.Qos.{Qos}
use Rattle.pcef_model.specs.Generations.{has_bearer}

-- a table that shows a generation gives its verdict on each packet
abbrev pub ShownTablesJudge : Type 0
ShownTablesJudge = (p : Setting) (j : Journal) (g : ℕ) (t : TableValue) (header : Header) (v : Verdict) → Shows p j g t →
    IsVerdict p.catalog t.entries p.ue header v → v ≡ verdict_at p (at p j g) header

-- a table goes on showing its generation as commands come
abbrev pub ShownTablesStay : Type 0
ShownTablesStay = (p : Setting) (j : Journal) (c : Command) (g : ℕ) (t : TableValue) → g ≤ gen j → Shows p j g t →
    Shows p (entry.Command c ∷ j) g t

-- a table that shows a generation counts each packet for the keys that the generation says
abbrev pub ShownTablesCount : Type 0
ShownTablesCount = (p : Setting) (j : Journal) (g : ℕ) (t : TableValue) (header : Header) (v : Verdict) → Shows p j g t →
    IsVerdict p.catalog t.entries p.ue header v →
    AreSlotsOf (slots p j) (λ key. counts_in p (at p j g) key header) (slots_counted p.catalog t v)

-- ---- bearers (TS 23.203, clause 6.1.1.4)
-- each active rule stands on one bearer, that of its pair of QCI and ARP
abbrev pub RulesStandOnTheirBearers : Type 0
RulesStandOnTheirBearers = (p : Setting) (j : Journal) (r : Active) → Contains (now p j).rules r →
    bearer_of_rule r.properties.name (binding_of p (now p j)).bound ≡ Some (record { 0 = (now p j).id_of r.properties.qos })

-- the bearer of a pair guarantees the exact sums of the rates of the active rules with that pair
abbrev pub RatesAreSums : Type 0
RatesAreSums = (p : Setting) (j : Journal) → Lawful p j → (q : Qos) → has_bearer p (now p j).rules q ≡ true →
    guaranteed ((now p j).id_of q) (binding_of p (now p j)).bound ≡ Some (rate_of (now p j) q)
