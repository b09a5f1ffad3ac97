-- What always holds of a session's parts.
use Rattle.std.specs.Prelude.{Bool, ◌+◌, if◌then◌else◌}
use Rattle.pcef_journal.specs.Lanes.{LanesAgree}
use Rattle.std.specs.Prelude.{ℕ, ◌≡◌, ◌≤◌, ◌<◌, ◌^◌, All, length}
use Rattle.std.specs.Arc.{arc_value}
use Rattle.pcef_model.specs.declared.row.Row.{Row}
use Rattle.pcef_model.specs.Entries.{Journal, commands, rows}
use Rattle.pcef_model.specs.Journals.{attached}
use Rattle.pcef_session.specs.private.Parts.{Agrees, Parts, Held}
use Rattle.pcef_model.specs.Refusals.{was_closed, was_terminated}
use Rattle.pcef_model.specs.ProfileModel.{setting_of}
use Rattle.pcef_session.specs.declared.state.SessionState.TheInside.{Inside}
use Rattle.pcef_session.specs.SessionModel.{SessionModel}

abbrev pub parts_of : Inside → Parts
parts_of s = record {
  rules = s.active.rules;
  binding = s.bearers;
  keys = s.counted.states;
  triggers = s.subscribed;
  table = arc_value s.newest;
}

abbrev pub model_of : Inside → SessionModel
model_of s = record {
  setting = setting_of s.profile s.listing;
  journal = s.counted.journal;
  forgotten = s.counted.forgotten;
  room = record { entries = s.counted.room; rules = s.active.room };
}

abbrev pub held_of : Inside → Held
held_of s = record { setting = setting_of s.profile s.listing; journal = s.counted.journal; parts = parts_of s }

-- which ends the journal has met
pub record EndsAgree (j : Journal) (closed terminated : Bool) : Type 0 where
  pub closed_is : was_closed j ≡ closed
  pub terminated_is : was_terminated j ≡ terminated

-- how many commands that have no budget there may be: one Close and one Terminate
abbrev pub ends_met : Bool → Bool → ℕ
ends_met closed terminated = (if closed then 1 else 0) + (if terminated then 1 else 0)

-- the journal is within the profile's limits, and the octets of each row fit 32 bits
pub record IsLimited (s : Inside) : Type 0 where
  pub few_commands : length (commands s.counted.journal) ≤ s.profile.commands + ends_met s.closed s.terminated
  pub most_commands : s.profile.commands ≤ 1000000
  pub few_rows : length (rows s.counted.journal) ≤ s.profile.rows
  pub most_rows : s.profile.rows ≤ 4294967295
  pub octets : All (λ (r : Row). r.header.octets < 2 ^ 32) (rows s.counted.journal)

-- at most 64 rules are active, and at most 8 keys have a slot
pub record IsSmall (s : Inside) : Type 0 where
  pub few_rules : length s.active.rules ≤ 64
  pub few_keys : length s.counted.states ≤ 8

-- there is room for the leaving of each worker that is attached
pub record IsSound (s : Inside) : Type 0 where
  pub agrees : Agrees (setting_of s.profile s.listing) s.counted.journal (parts_of s)
  pub lanes : LanesAgree s.counted.journal s.lanes
  pub ends : EndsAgree s.counted.journal s.closed s.terminated
  pub leaving : length (attached s.counted.journal) ≤ s.counted.room
  pub limited : IsLimited s
  pub small : IsSmall s
