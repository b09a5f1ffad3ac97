-- Laws of journals, for whoever reads the definitions.
use Rattle.std.specs.Prelude.{[], length}
use Rattle.std.specs.List.{AllByRecursion}
use Rattle.pcef_model.specs.Entries.{lane, rows}
use Rattle.pcef_model.specs.Journals.{verdict_at}
use Rattle.pcef_model.specs.Lawful.{newest_generation}
use Rattle.std.specs.Prelude.{◌≢◌, None, Some}
use Rattle.pcef_model.specs.declared.answer.FlushRefusal.TheVariants as flush
use Rattle.pcef_model.specs.declared.answer.Refusal.TheVariants as refusal
use Rattle.pcef_model.specs.declared.command.Command.TheVariants.{Terminate}
use Rattle.pcef_model.specs.Commands.{is_among}
use Rattle.pcef_model.specs.Journals.{slots}
use Rattle.pcef_model.specs.Refusals.{attach_faults, first_of, flush_refusals, limited_count, refusals}
use Rattle.pcef_model.specs.Reports.{after_command}
use Rattle.std.specs.Prelude.{ℕ, ◌≡◌, ◌≤◌, ◌+◌, true, List, ◌∷◌, if◌then◌else◌, ◌==◌, false}
use Rattle.pcef_model.specs.declared.command.Command.{Command}
use Rattle.pcef_model.specs.declared.entry.Entry.TheVariants as entry
use Rattle.pcef_model.specs.declared.report.Report.{Report}
use Rattle.pcef_model.specs.declared.row.Row.{Row}
use Rattle.pcef_model.specs.Setting.{Setting, most_keys, same_qos}
use Rattle.pcef_model.specs.Generations.{next, has_bearer}
use Rattle.pcef_model.specs.Entries.{Journal}
use Rattle.pcef_model.specs.declared.level.Level.TheVariants.{Session}
use Rattle.pcef_model.specs.ActiveRules.{has_key}
use Rattle.pcef_model.specs.Journals.{at, counted, counts_in, gen, level_of, now, reported, slots, unreported}
use Rattle.pcef_model.specs.Commands.{is_table}
use Rattle.pcef_rule.specs.declared.quantity.Qos.{Qos}
use Rattle.pcef_rule.specs.declared.quantity.Slot.{Slot}
use Rattle.pcef_model.specs.Refusals.{refusals_within, total_down, total_now, total_up}
use Rattle.pcef_model.specs.Outcomes.{changes}
use Rattle.pcef_rule.specs.declared.quantity.Sums.{Sums}
use Rattle.pcef_model.specs.Slots.{CountsFor}
use Rattle.pcef_model.specs.Lawful.{BatchFollows, Lawful}

-- an earlier generation stays as it was made
abbrev pub EarlierGenerationsStay : Type 0
EarlierGenerationsStay = (p : Setting) (j : Journal) (c : Command) (g : ℕ) → g ≤ gen j → at p (entry.Command c ∷ j) g ≡ at p j g

-- a table command makes the next generation
abbrev pub TableCommandsMakeTheNext : Type 0
TableCommandsMakeTheNext = (p : Setting) (j : Journal) (c : Command) → is_table c ≡ true → now p (entry.Command c ∷ j) ≡ next p (now p j) c

-- neither a row nor a report changes a generation
abbrev pub RowsLeaveGenerations : Type 0
RowsLeaveGenerations = (p : Setting) (j : Journal) (r : Row) (g : ℕ) → at p (entry.Row r ∷ j) g ≡ at p j g

abbrev pub ReportsLeaveGenerations : Type 0
ReportsLeaveGenerations = (p : Setting) (j : Journal) (r : Report) (g : ℕ) → at p (entry.Report r ∷ j) g ≡ at p j g

-- a row adds its octets to a key where the generation that judged it says so, however late it comes
abbrev pub RowsCountByTheirOwnGeneration : Type 0
RowsCountByTheirOwnGeneration = (p : Setting) (j : Journal) (key : List ℕ) (r : Row) →
    counted p (entry.Row r ∷ j) key ≡ (if counts_in p (at p j r.generation) key r.header then r.header.octets else 0) + counted p j key

-- in sum no more octets of a key are reported than were counted for it
abbrev pub NothingIsReportedTwice : Type 0
NothingIsReportedTwice = (p : Setting) (j : Journal) → Lawful p j → (key : List ℕ) → reported j key ≤ counted p j key

-- so the difference, which is what is unreported, cuts nothing off
abbrev pub NothingIsLost : Type 0
NothingIsLost = (p : Setting) (j : Journal) → Lawful p j → (key : List ℕ) → reported j key + unreported p j key ≡ counted p j key

-- two pairs of QCI and ARP with a bearer have different ids
abbrev pub IdsAreDistinct : Type 0
IdsAreDistinct = (p : Setting) (j : Journal) → Lawful p j → (q r : Qos) →
    has_bearer p (now p j).rules q ≡ true → has_bearer p (now p j).rules r ≡ true → (now p j).id_of q ≡ (now p j).id_of r →
    same_qos q r ≡ true

-- each pair with a bearer has an id of 5 to 15
abbrev pub IdsAreInRange : Type 0
IdsAreInRange = (p : Setting) (j : Journal) → Lawful p j → (q : Qos) → has_bearer p (now p j).rules q ≡ true →
    (5 ≤ (now p j).id_of q) × ((now p j).id_of q ≤ 15)

-- rows that wait may still come next after a command, and after a row of another worker; and a row goes on
-- counting for the keys of its slots
abbrev pub WaitingRowsStay : Type 0
WaitingRowsStay = (p : Setting) (j : Journal) (c : Command) (worker : ℕ) (rs : List Row) → BatchFollows p j worker rs →
    BatchFollows p (entry.Command c ∷ j) worker rs

abbrev pub WaitingRowsStayBesideOthers : Type 0
WaitingRowsStayBesideOthers = (p : Setting) (j : Journal) (other : Row) (worker : ℕ) (rs : List Row) → (other.worker == worker) ≡ false → BatchFollows p j worker rs →
    BatchFollows p (entry.Row other ∷ j) worker rs

abbrev pub SlotsStay : Type 0
SlotsStay = (p : Setting) (j : Journal) (c : Command) (row : Row) (own : List Slot) → row.generation ≤ gen j →
    CountsFor p j row own → CountsFor p (entry.Command c ∷ j) row own

-- at most eight keys have a slot
abbrev pub KeysAreFew : Type 0
KeysAreFew = (p : Setting) (j : Journal) → Lawful p j → length (slots p j) ≤ most_keys

-- ---- levels
-- an accepted command leaves the level of each key that has a slot
abbrev pub LevelsStay : Type 0
LevelsStay = (p : Setting) (j : Journal) (c : Command) → first_of (refusals p j c) ≡ None → (key : List ℕ) → is_among key (slots p j) ≡ true →
    level_of (now p (entry.Command c ∷ j)) key ≡ level_of (now p j) key

-- no active rule has a key of session level, so such a key doesn't go off for want of rules
abbrev pub SessionKeysHaveNoRule : Type 0
SessionKeysHaveNoRule = (p : Setting) (j : Journal) → Lawful p j → (key : List ℕ) → level_of (now p j) key ≡ Session → has_key key (now p j).rules ≡ false

-- all guaranteed rates together are within the capacity (own choice)
abbrev pub RatesAreWithinCapacity : Type 0
RatesAreWithinCapacity = (p : Setting) (j : Journal) → Lawful p j →
    (total_up (now p j).rules ≤ p.capacity.up) × (total_down (now p j).rules ≤ p.capacity.down)

-- a command that is accepted in a room leaves the rates within it, where they were within it (own choice)
pub record IsInRoom (rates room : Sums) : Type 0 where
  pub up : rates.up ≤ room.up
  pub down : rates.down ≤ room.down

abbrev pub RatesStayInTheRoom : Type 0
RatesStayInTheRoom = (p : Setting) (j : Journal) (c : Command) (room : Sums) → first_of (refusals_within p j c (Some room)) ≡ None → changes p j c ≡ true →
    IsInRoom (total_now p j) room → IsInRoom (total_now p (after_command p j c)) room

-- ---- the end of a session (TS 29.212, clauses 4.5.16 and 4.5.17; own choice)
-- after a Terminate no key that has a slot has unreported octets
abbrev pub NothingIsUnreportedAtTheEnd : Type 0
NothingIsUnreportedAtTheEnd = (p : Setting) (j : Journal) → Lawful p j → (key : List ℕ) → is_among key (slots p j) ≡ true →
    unreported p (after_command p j Terminate) key ≡ 0

-- no row, no worker and no command is accepted any more
pub record IsOver (p : Setting) (j : Journal) : Type 0 where
  pub no_row : (worker count : ℕ) → first_of (flush_refusals p j worker count) ≡ Some flush.NotAttached
  pub no_worker : first_of (attach_faults j) ≢ None
  pub no_command : (c : Command) → first_of (refusals p j c) ≡ Some refusal.Terminated

abbrev pub NothingFollowsTheEnd : Type 0
NothingFollowsTheEnd = (p : Setting) (j : Journal) → first_of (refusals p j Terminate) ≡ None → IsOver p (after_command p j Terminate)

-- ---- rows
-- each row has the verdict of its own generation, which is one of the journal's; `RowFollows` says that it was there when
-- the row came
pub record HasItsVerdict (p : Setting) (j : Journal) (r : Row) : Type 0 where
  pub known : r.generation ≤ gen j
  pub verdict_is : r.verdict ≡ verdict_at p (at p j r.generation) r.header

abbrev pub RowsHaveTheirVerdicts : Type 0
RowsHaveTheirVerdicts = (p : Setting) (j : Journal) → Lawful p j → AllByRecursion (HasItsVerdict p j) (rows j)

-- the rows of a lane are numbered from 0 on, and their generations never fall
abbrev pub IsNumberedLane : List Row → Type 0
IsNumberedLane [] = Unit {0}
IsNumberedLane (r ∷ before) = (r.seq ≡ length before) × (newest_generation before ≤ r.generation) × IsNumberedLane before

abbrev pub LanesAreNumbered : Type 0
LanesAreNumbered = (p : Setting) (j : Journal) → Lawful p j → (worker : ℕ) → IsNumberedLane (lane j worker)

abbrev pub RowsAreWithinTheProfile : Type 0
RowsAreWithinTheProfile = (p : Setting) (j : Journal) → Lawful p j → length (rows j) ≤ p.rows

-- ---- commands
-- no more than the profile allows, Close and Terminate apart
abbrev pub CommandsAreWithinTheProfile : Type 0
CommandsAreWithinTheProfile = (p : Setting) (j : Journal) → Lawful p j → limited_count j ≤ p.commands
