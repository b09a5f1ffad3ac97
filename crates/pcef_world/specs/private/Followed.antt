-- What always holds of the flows that a world remembers.
use Rattle.std.specs.Prelude.{ℕ, ◌≡◌, Bool, false, List, Option, Some, None, map, slice_get, if◌then◌else◌}
use Rattle.std.specs.Arc.{arc_value}
use Rattle.std.specs.Option.{option_map_or}
use Rattle.pcef_packet.specs.declared.header.Addr.{Addr}
use Rattle.pcef_packet.specs.declared.header.Dir.{Dir}
use Rattle.pcef_packet.specs.declared.header.Dir.TheVariants.{Down, Up}
use Rattle.pcef_rule.specs.Gate.{opens}
use Rattle.pcef_catalog.specs.declared.listing.Offer.{Offer}
use Rattle.pcef_table.specs.declared.entry.TableEntry.{TableEntry}
use Rattle.pcef_table.specs.SessionSlots.{slots_up, with_flag_up}
use Rattle.pcef_table.specs.Sources.{properties_of}
use Rattle.pcef_table.specs.Tables.{TableValue}
use Rattle.pcef_table.specs.Verdicts.{counted_slot}
use Rattle.pcef_flow.specs.Flows.{Remembers}
use Rattle.pcef_session.specs.Answers.{ShowsNewest}
use Rattle.pcef_session.specs.SessionModel.{SessionModel}
use Rattle.pcef_world.specs.declared.newest.JudgedFlows.{JudgedFlows}
use Rattle.pcef_world.specs.declared.newest.RuleBrief.{RuleBrief}
use Rattle.pcef_world.specs.declared.newest.Brief.{Brief}
use Rattle.pcef_world.specs.declared.newest.Outcome.{Outcome}
use Rattle.pcef_world.specs.declared.newest.Outcome.TheVariants.{Gated, Passed, Unmatched}
use Rattle.pcef_world.specs.Newest.{flags_of}

-- whether the gate of an entry's rule lets packets of a direction pass
abbrev pub entry_opens : List Offer → TableEntry → Dir → Bool
entry_opens offers e dir = option_map_or (λ p. opens p.gate dir) (properties_of offers e.source) false

-- what the rule of an entry decides of the packets that it fits
abbrev pub rule_brief : List Offer → List Bool → TableEntry → RuleBrief
rule_brief offers session e = record {
  bearer = e.bearer.0;
  opens_up = entry_opens offers e Up;
  opens_down = entry_opens offers e Down;
  slots = flags_of (slots_up (with_flag_up (counted_slot e) session)) 0;
}

abbrev pub rule_briefs : List Offer → TableValue → List RuleBrief
rule_briefs offers t = map (rule_brief offers t.session) t.entries

-- ---- what is decided by them
-- where no rule decides
abbrev pub undecided : ℕ → Outcome → Brief
undecided generation outcome = record { generation = generation; outcome = outcome; place = None; slots = 0 }

abbrev pub opens_in : RuleBrief → Dir → Bool
opens_in r Up = r.opens_up
opens_in r Down = r.opens_down

-- where the rule at a place does
abbrev pub rule_decides : ℕ → ℕ → Dir → RuleBrief → Brief
rule_decides generation place dir r =
    if opens_in r dir
    then record { generation = generation; outcome = Passed (record { 0 = r.bearer }); place = Some place; slots = r.slots }
    else record { generation = generation; outcome = Gated; place = Some place; slots = 0 }

abbrev pub decided_at : ℕ → List RuleBrief → Option ℕ → Dir → Brief
decided_at generation rules None dir = undecided generation Unmatched
decided_at generation rules (Some place) dir = option_map_or (rule_decides generation place dir) (slice_get rules place) (undecided generation Unmatched)

-- ---- what always holds of them
-- this table is held, with what its rules decide and with flows that are right by it
pub record Follows (offers : List Offer) (ue : Addr) (t : TableValue) (f : JudgedFlows) : Type 0 where
  pub held : arc_value f.held ≡ t
  pub rules : f.rules.items ≡ rule_briefs offers t
  pub remembers : Remembers offers t.entries ue f.flows

-- the table that is held is of the newest generation
abbrev pub FollowsNewest : SessionModel → JudgedFlows → Type 0
FollowsNewest s f = ShowsNewest s (arc_value f.held) × Follows s.setting.catalog s.setting.ue (arc_value f.held) f
