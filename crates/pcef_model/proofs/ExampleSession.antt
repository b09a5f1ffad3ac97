-- A session for worked examples of what journals say.
use Rattle.std.specs.Prelude.{ℕ, ⊤, true, false, List, [], ◌∷◌, None, Some, codes, map, reverse}
use Rattle.pcef_packet.specs.declared.header.Addr.TheVariants.{V4}
use Rattle.pcef_packet.specs.declared.header.Dir.TheVariants.{Down}
use Rattle.pcef_packet.specs.declared.header.Header.{Header}
use Rattle.pcef_filter.specs.declared.filter.Direction.TheVariants.{Out}
use Rattle.pcef_filter.specs.declared.filter.Filter.{Filter}
use Rattle.pcef_filter.specs.declared.filter.Place.TheVariants.{Any, Assigned}
use Rattle.pcef_rule.specs.Definition.{Definition}
use Rattle.pcef_rule.specs.declared.gate.Gate.{Gate}
use Rattle.pcef_rule.specs.declared.quantity.Qos.{Qos}
use Rattle.pcef_model.specs.declared.verdict.Verdict.{Verdict}
use Rattle.pcef_model.specs.declared.verdict.Verdict.TheVariants.{Passed}
use Rattle.pcef_model.specs.declared.command.Command.{Command}
use Rattle.pcef_model.specs.declared.entry.Entry.TheVariants as entry
use Rattle.pcef_model.specs.declared.report.Report.{Report}
use Rattle.pcef_model.specs.declared.row.Row.{Row}
use Rattle.pcef_model.specs.Setting.{Setting}
use Rattle.pcef_model.specs.Entries.{Journal, reports}
use Rattle.pcef_model.specs.Generations.{made_by, oldest, slots_of}
use Rattle.pcef_model.specs.Journals.{attach_count, attached, grant, octets_of, reported, subscribed}
use Rattle.pcef_model.specs.Reports.{after_attach, after_command, after_flush, after_leave, with_reports, thresholds, with_rows}

abbrev pub vid : List ℕ
vid = codes "vid"

abbrev pub web : List ℕ
web = codes "web"

-- a QCI with ARP level 8, which may be pre-empted
abbrev pub qos_of : ℕ → Qos
qos_of qci = record { qci = record { 0 = qci }; arp = record { level = 8; capability = false; vulnerability = true } }

-- a session of 10.0.0.2 with no predefined rules, whose default bearer has this QCI
abbrev pub session_on : ℕ → Setting
session_on qci = record {
  ue = V4 167772162;
  default_qos = qos_of qci;
  capacity = record { up = 0; down = 0 };
  qcis = [];
  rows = 1000;
  commands = 1000;
  catalog = [];
}

-- a UDP packet of `octets` octets from 198.51.100.7 port 53 to 10.0.0.2 port 5000
abbrev pub packet_of : ℕ → Header
packet_of octets = record {
  dir = Down;
  src = V4 3325256711;
  dst = V4 167772162;
  proto = 17;
  ports = Some (record { src = 53; dst = 5000 });
  octets = octets;
  dscp = 0;
}

-- permit out PROTO from any to assigned
abbrev pub to_assigned : ℕ → Filter
to_assigned proto = record {
  direction = Out;
  flow = None;
  proto = Some proto;
  source = record { place = Any; ports = record { items = [] } };
  target = record { place = Assigned; ports = record { items = [] } };
}

-- a rule with a QCI for packets of a protocol
abbrev pub rule_of : ℕ → Gate → List ℕ → ℕ → List ℕ → Definition
rule_of qci gate name proto key = record {
  properties = record { name = name; precedence = 100; qos = qos_of qci; rates = None; gate = gate; key = Some key };
  filters = to_assigned proto ∷ [];
}

-- how generation 2 judges the packet where the rule `web` stands on the default bearer
abbrev pub on_default : Verdict
on_default = Passed web (record { 0 = 5 })

-- a row of worker 0, judged so by generation 2
abbrev pub row_of : ℕ → Row
row_of octets = record { worker = 0; seq = 0; generation = 2; header = packet_of octets; verdict = on_default }

-- what happens: a command is accepted, worker 0 flushes packets of these numbers of octets, the next worker is
-- attached, or one leaves
pub data Event : Type 0 where
  accept : Command → Event
  flush : List ℕ → Event
  attach : Event
  leave : ℕ → Event

abbrev pub after : Setting → Event → Journal → Journal
after p (accept c) j = after_command p j c
after p (flush octets) j = after_flush p j (map row_of octets)
after p attach j = after_attach j
after p (leave worker) j = after_leave worker j

abbrev pub after_all : Setting → List Event → Journal → Journal
after_all p [] j = j
after_all p (e ∷ events) j = after_all p events (after p e j)

-- the journal of worker 0 and of what happens after it came
abbrev pub history : Setting → List Event → Journal
history p events = after_all p events (entry.Attach 0 ∷ [])

-- the reports, the oldest first
abbrev pub told : Journal → List Report
told j = reverse (reports j)

-- what an example unfolds to work the definitions out
unfoldable pub worked_out : ⊤
unfolding after_command attach_count attached grant made_by octets_of oldest reported slots_of subscribed with_reports thresholds with_rows
worked_out = tt
