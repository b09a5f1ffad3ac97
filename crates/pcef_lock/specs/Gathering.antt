-- What is handed in when all workers have left, and what it adds up to (TS 29.212, clause 4.5.16).
use Rattle.std.specs.Prelude.{ℕ, ◌≡◌, ◌↔◌, ◌+◌, ◌≤◌, ◌<◌, ◌==◌, All, Bool, true, List, Option, Some, find, length, map, reverse, slice_get, sum_by, if◌then◌else◌}
use Rattle.std.specs.Option.{option_map}
use Rattle.pcef_model.specs.declared.command.Command.{Command}
use Rattle.pcef_model.specs.declared.row.Row.{Row}
use Rattle.pcef_model.specs.Setting.{Setting}
use Rattle.pcef_model.specs.Entries.{Journal, commands, lane, rows}
use Rattle.pcef_model.specs.Journals.{attach_count, counted, reported, slots, unreported}
use Rattle.pcef_journaled.specs.Archiving.{Archives}
use Rattle.pcef_share.specs.Pools.{rates_due}
use Rattle.pcef_session.specs.declared.batch.Item.{Item}
use Rattle.pcef_session.specs.Following.{row_of}
use Rattle.pcef_lock.specs.declared.gathering.GatherFault.{GatherFault}
use Rattle.pcef_lock.specs.declared.gathering.GatherFault.TheVariants.{DeskDiffers, LaneDiffers, WorkersOut}
use Rattle.pcef_lock.specs.declared.gathering.Totals.{Totals}
use Rattle.pcef_lock.specs.declared.key_totals.KeyTotal.{KeyTotal}
use Rattle.pcef_lock.specs.HandedIn.{HandedIn, abandoned_by}

-- ---- what the workers' own lists say
-- the rows by the own list of a worker, if it is handed in
abbrev pub own_list : ℕ → List HandedIn → Option (List Row)
own_list worker handed = option_map (λ h. map row_of h.items) (find (λ h. h.worker == worker) handed)

-- a worker is handed in, and its own list is its lane: each of its rows once, in order
abbrev pub HasLane : Journal → List HandedIn → ℕ → Type 0
HasLane j handed worker = own_list worker handed ≡ Some (reverse (lane j worker))

-- so it is for every worker that was ever attached
abbrev pub HaveLanes : Journal → List HandedIn → Type 0
HaveLanes j handed = (worker : ℕ) → worker < attach_count j → HasLane j handed worker

-- the octets of a row, for each of its slots that is this one
abbrev pub row_octets : ℕ → Item → ℕ
row_octets slot i = sum_by (λ s. if slot == s.0 then i.row.header.octets else 0) i.slots.items

-- the octets of rows that count for a slot
abbrev pub octets_for : ℕ → List Item → ℕ
octets_for slot items = sum_by (row_octets slot) items

-- over all that is handed in: the octets that count for a slot, and the rows that were abandoned
abbrev pub gathered : ℕ → List HandedIn → ℕ
gathered slot handed = sum_by (λ h. octets_for slot h.items) handed

abbrev pub rows_abandoned : List HandedIn → ℕ
rows_abandoned handed = sum_by abandoned_by handed

-- ---- what the journal says
-- the totals of a key
abbrev pub key_total : Setting → Journal → List ℕ → KeyTotal
key_total p j key = record {
  key = key;
  counted = counted p j key;
  reported = reported j key;
  unreported = unreported p j key;
}

-- the totals of the keys that have a slot, in slot order
abbrev pub key_totals : Setting → Journal → List KeyTotal
key_totals p j = map (key_total p j) (slots p j)

-- what was counted for the key of each slot is what the own lists have for it
abbrev pub AreGathered : List KeyTotal → List HandedIn → Type 0
AreGathered keys handed = (n : ℕ) (k : KeyTotal) → slice_get keys n ≡ Some k → k.counted ≡ gathered n handed

-- ---- whether there are totals
-- the session stores its rows, and each worker its own list: so lists are compared
abbrev pub AreCompared : Bool → List HandedIn → Type 0
AreCompared keeps handed = (keeps ≡ true) × All (λ h. h.keeps ≡ true) handed

-- each worker has its lane, and the desk the journal's commands
abbrev pub AgreeWith : Journal → List Command → List HandedIn → Type 0
AgreeWith j listed handed = HaveLanes j handed × (listed ≡ reverse (commands j))

-- what else the totals tell: of the session, all of its reports; its archive; what the workers handed in, and whether it
-- was compared; how many rows there are, and how many were abandoned; and the rates that it has of a pool, if one is there
pub record TellTheRest {l : Type 0} (p : Setting) (is_there : Bool) (handed : List HandedIn) (t : Totals l) : Type 0 where
  pub setting_is : t.session.setting ≡ p
  pub all_reports : t.session.forgotten ≡ 0
  pub archived : Archives t.session.journal t.archive
  pub lists_are : t.lists ≡ handed
  pub compared_is : (t.compared ≡ true) ↔ AreCompared t.archive.keeps handed
  pub rows_are : t.rows ≡ length (rows t.session.journal)
  pub abandoned_are : t.abandoned ≡ rows_abandoned handed
  pub rates_are : t.rates ≡ rates_due is_there p t.session.journal

-- what the desk and the workers handed in adds up to this, with the session's journal
pub record AddUpTo {l : Type 0} (p : Setting) (is_there : Bool) (listed : List Command) (handed : List HandedIn) (t : Totals l) : Type 0 where
  -- for each key three sums of octets are the same: those of the journal's rows that count for it, those of all own
  -- lists, and the reported with the unreported ones
  pub keys_are : t.keys ≡ key_totals p t.session.journal
  pub gathered : AreGathered t.keys handed
  pub sums : All (λ k. k.counted ≡ k.reported + k.unreported) t.keys
  -- all workers that were attached are there, and where lists are compared, they agree
  pub many : length handed ≡ attach_count t.session.journal
  pub agree : t.compared ≡ true → AgreeWith t.session.journal listed handed
  pub rest : TellTheRest p is_there handed t

-- as many are handed in as workers were attached, and what is compared agrees with the journal
abbrev pub CanGather : Bool → Journal → List Command → List HandedIn → Type 0
CanGather compared j listed handed = (attach_count j ≤ length handed) × (compared ≡ true → AgreeWith j listed handed)

-- Why there are no totals, the first reason that holds: `n` of the workers that were attached weren't handed in (that
-- none is handed in twice is the caller's condition); the lane of this worker isn't its own list; the desk's list isn't
-- the journal's commands.
abbrev pub IsAtFault : Journal → List Command → List HandedIn → GatherFault → Type 0
IsAtFault j listed handed (WorkersOut n) = (n + length handed ≡ attach_count j) × (0 < n)
IsAtFault j listed handed (LaneDiffers w) = (attach_count j ≤ length handed) × (w < attach_count j) × (HasLane j handed w → ⊥)
IsAtFault j listed handed DeskDiffers = (attach_count j ≤ length handed) × HaveLanes j handed × (listed ≡ reverse (commands j) → ⊥)
