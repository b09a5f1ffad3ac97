-- What a journal says. It is the list of its entries, the newest first.
use Rattle.std.specs.Prelude.{ℕ, ◌+◌, ◌-◌, ◌==◌, Bool, true, false, not, ◌&&◌, ◌||◌, List, [], ◌∷◌, Option, Some, None, filter, length, if◌then◌else◌}
use Rattle.std.specs.List.{filter_map}
use Rattle.pcef_packet.specs.declared.header.Header.{Header}
use Rattle.pcef_packet.specs.Addresses.{is_assigned, ue_side}
use Rattle.pcef_rule.specs.Gate.{opens}
use Rattle.pcef_model.specs.declared.verdict.Verdict.{Verdict}
use Rattle.pcef_model.specs.declared.verdict.Verdict.TheVariants.{Stray, Unmatched, Gated, Passed}
use Rattle.pcef_model.specs.declared.command.Command.{Command}
use Rattle.pcef_model.specs.declared.command.Command.TheVariants.{Monitor, Triggers}
use Rattle.pcef_model.specs.declared.entry.Entry.{Entry}
use Rattle.pcef_model.specs.declared.entry.Entry.TheVariants as entry
use Rattle.pcef_model.specs.declared.report.Body.{Body}
use Rattle.pcef_model.specs.declared.report.Body.TheVariants.{Usage}
use Rattle.pcef_model.specs.declared.report.Cause.{Cause}
use Rattle.pcef_model.specs.declared.report.Cause.TheVariants.{Requested}
use Rattle.pcef_model.specs.declared.row.Row.{Row}
use Rattle.pcef_model.specs.declared.trigger.TriggerSet.{TriggerSet}
use Rattle.pcef_model.specs.declared.level.Level.{Level}
use Rattle.pcef_model.specs.declared.level.Level.TheVariants.{Rule, Session}
use Rattle.pcef_model.specs.Setting.{Setting, same_name}
use Rattle.pcef_model.specs.ActiveRules.{Active, decisive, is_key}
use Rattle.pcef_model.specs.Generations.{Generation, made_by, oldest, slots_of}
use Rattle.pcef_model.specs.Commands.{is_among, is_table}
use Rattle.pcef_model.specs.Entries.{Journal, lane, reports, rows}

-- ---- generations
abbrev pub as_table : Entry → Option Command
as_table (entry.Command c) = if is_table c then Some c else None
as_table _ = None

-- the table commands, the newest first
abbrev pub tables : Journal → List Command
tables j = filter_map as_table j

-- the number of the newest generation
abbrev pub gen : Journal → ℕ
gen j = length (tables j)

-- the newest generation
abbrev pub now : Setting → Journal → Generation
now p j = made_by p (tables j)

-- generation g: what the first g table commands made
abbrev pub at : Setting → Journal → ℕ → Generation
at p j g = made_by p (oldest g (tables j))

-- the keys that have a slot, in slot order
abbrev pub slots : Setting → Journal → List (List ℕ)
slots p j = slots_of p (tables j)

-- the level of a key that has a slot
abbrev pub level_of : Generation → List ℕ → Level
level_of g key = if is_among key g.session then Session else Rule

-- ---- grants and subscriptions (TS 29.212, clauses 4.5.16 and 5.3.7)
-- a report that was only asked for leaves the grant (own choice)
abbrev pub ends_grant : Cause → Bool
ends_grant Requested = false
ends_grant _ = true

abbrev pub takes_grant : List ℕ → Body → Bool
takes_grant key (Usage other octets cause) = same_name key other && ends_grant cause
takes_grant key _ = false

-- the amount of the last Monitor of a key, unless a report has taken it since
unfoldable pub grant : Journal → List ℕ → Option ℕ
grant [] key = None
grant (entry.Command (Monitor other amount level) ∷ before) key = if same_name key other then Some amount else grant before key
grant (entry.Report r ∷ before) key = if takes_grant key r.body then None else grant before key
grant (_ ∷ before) key = grant before key

abbrev pub no_triggers : TriggerSet
no_triggers = record {
  usage_report = false;
  rat_change = false;
  plmn_change = false;
  user_location_change = false;
  ue_time_zone_change = false;
}

-- the set of the last Triggers
unfoldable pub subscribed : Journal → TriggerSet
subscribed [] = no_triggers
subscribed (entry.Command (Triggers set) ∷ before) = set
subscribed (_ ∷ before) = subscribed before

-- ---- verdicts (TS 23.203, clause 6.2.2; a stray is an own choice)
-- how a packet is decided, and by which rule
pub data Decision : Type 0 where
  stray : Decision
  unmatched : Decision
  gated : Active → Decision
  passed : Active → Decision

abbrev pub decided_by : Header → Option Active → Decision
decided_by header None = unmatched
decided_by header (Some r) = if opens r.properties.gate header.dir then passed r else gated r

abbrev pub decision : Setting → Generation → Header → Decision
decision p g header = if is_assigned (ue_side header) p.ue then decided_by header (decisive g.rules p.ue header) else stray

abbrev pub verdict_of : Generation → Decision → Verdict
verdict_of g stray = Stray
verdict_of g unmatched = Unmatched
verdict_of g (gated r) = Gated r.properties.name
verdict_of g (passed r) = Passed r.properties.name (record { 0 = g.id_of r.properties.qos })

-- the verdict on a packet in a generation
abbrev pub verdict_at : Setting → Generation → Header → Verdict
verdict_at p g header = verdict_of g (decision p g header)

-- ---- counting (TS 29.212, clauses 4.5.16 and 4.5.17)
-- a packet that passed counts for the key of the rule that let it pass, and for each key of session level
abbrev pub passed_for : Generation → List ℕ → Decision → Bool
passed_for g key (passed r) = is_key key r.properties.key || is_among key g.session
passed_for g key _ = false

-- if the key was on
abbrev pub counts_in : Setting → Generation → List ℕ → Header → Bool
counts_in p g key header = passed_for g key (decision p g header) && is_among key g.on

-- a row counts by the generation that judged it
abbrev pub counts : Setting → Journal → List ℕ → Row → Bool
counts p j key row = counts_in p (at p j row.generation) key row.header

-- the octets of the rows that pass a test
unfoldable pub octets_of : (Row → Bool) → List Row → ℕ
octets_of test [] = 0
octets_of test (r ∷ rs) = (if test r then r.header.octets else 0) + octets_of test rs

abbrev pub counted : Setting → Journal → List ℕ → ℕ
counted p j key = octets_of (counts p j key) (rows j)

abbrev pub octets_of_report : List ℕ → Body → ℕ
octets_of_report key (Usage other octets cause) = if same_name key other then octets else 0
octets_of_report key _ = 0

-- the octets of a key that usage reports have
unfoldable pub reported : Journal → List ℕ → ℕ
reported [] key = 0
reported (entry.Report r ∷ before) key = octets_of_report key r.body + reported before key
reported (_ ∷ before) key = reported before key

abbrev pub unreported : Setting → Journal → List ℕ → ℕ
unreported p j key = counted p j key - reported j key

-- ---- workers (own choice)
-- how many workers were ever attached
unfoldable pub attach_count : Journal → ℕ
attach_count [] = 0
attach_count (entry.Attach w ∷ before) = attach_count before + 1
attach_count (_ ∷ before) = attach_count before

-- the workers that are attached, the newest first
unfoldable pub attached : Journal → List ℕ
attached [] = []
attached (entry.Attach w ∷ before) = w ∷ attached before
attached (entry.Leave w ∷ before) = filter (λ v. not (v == w)) (attached before)
attached (_ ∷ before) = attached before

-- how many reports were made, which is the number of the next one
abbrev pub report_count : Journal → ℕ
report_count j = length (reports j)

-- how many rows of a worker there are
abbrev pub lane_len : Journal → ℕ → ℕ
lane_len j worker = length (lane j worker)
