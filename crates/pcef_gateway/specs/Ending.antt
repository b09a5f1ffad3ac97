-- The outcome of a session's run (TS 29.212, clause 4.5.16, for the octets that are reported).
use Rattle.std.specs.Prelude.{ℕ, ◌≡◌, ◌+◌, ◌++◌, ◌<◌, List, All, Result, Ok, Err, length}
use mathlib.Core.List.{IsPrefix}
use Rattle.pcef_model.specs.declared.command.Command.{Command}
use Rattle.pcef_model.specs.Setting.{Setting}
use Rattle.pcef_model.specs.Entries.{Journal, rows}
use Rattle.pcef_model.specs.Journals.{attach_count}
use Rattle.pcef_lock.specs.Gathering.{AreGathered, HaveLanes, key_totals, rows_abandoned}
use Rattle.pcef_lock.specs.declared.gathering.Totals.{Totals}
use Rattle.pcef_gateway.specs.Arriving.{headers_for}
use Rattle.pcef_gateway.specs.Commanding.{FoundMemory, changing}
use Rattle.pcef_gateway.specs.InOrder.{commands_of, lane_headers, reports_of}
use Rattle.pcef_gateway.specs.declared.arrivals.Arrival.{Arrival}
use Rattle.pcef_gateway.specs.declared.ended.Ended.{Ended}
use Rattle.pcef_gateway.specs.declared.fault.RunFault.{RunFault}

-- what the workers handed in: each list is a lane, and together they have what was counted for each key
pub record ListsFit {l : Type 0} (t : Totals l) : Type 0 where
  pub many : length t.lists ≡ attach_count t.session.journal
  pub lanes : HaveLanes t.session.journal t.lists
  pub gathered : AreGathered t.keys t.lists
  pub abandoned_are : t.abandoned ≡ rows_abandoned t.lists

-- it failed for this reason
abbrev pub FailsBy : {A : Type 0} → RunFault → Result A RunFault → Type 0
FailsBy fault (Ok a) = ⊥
FailsBy fault (Err e) = e ≡ fault

-- a session of this setting and journal ran with these packets, commands and `workers` workers, and this is the
-- outcome
pub record RunsTo (p : Setting) (before : Journal) (arrivals : List Arrival) (given : List Command) (workers : ℕ) (e : Ended) : Type 0 where
  pub setting_is : e.totals.session.setting ≡ p
  pub attached : attach_count e.totals.session.journal ≡ workers
  pub keys : e.totals.keys ≡ key_totals p e.totals.session.journal
  pub sums : All (λ k. k.counted ≡ k.reported + k.unreported) e.totals.keys
  pub gathered : ListsFit e.totals
  pub rows_are : e.totals.rows ≡ length (rows e.totals.session.journal)
  pub lanes : (w : ℕ) → w < workers → IsPrefix (lane_headers e.totals.session.journal w) (headers_for w arrivals)
  pub whole : e.totals.rows + e.totals.abandoned + e.dropped ≡ length arrivals
  pub answers : length e.answers.items ≡ length given
  pub memory : All FoundMemory e.answers.items
  pub commands_are : commands_of e.totals.session.journal ≡ commands_of before ++ changing given e.answers.items
  pub reports_are : e.reports.items ≡ reports_of e.totals.session.journal
