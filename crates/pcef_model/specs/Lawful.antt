-- The journals that there may be (own choice). They grow event by event: each event is accepted from
-- the journal before it, and brings its reports with it. So two flushes with no report between them
-- stay two, though their rows stand side by side.
use Rattle.std.specs.Prelude.{ℕ, ◌≡◌, ◌≤◌, true, List, [], ◌∷◌, None, All, length}
use Rattle.pcef_model.specs.declared.command.Command.{Command}
use Rattle.pcef_model.specs.declared.entry.Entry.TheVariants as entry
use Rattle.pcef_model.specs.declared.row.Row.{Row}
use Rattle.pcef_model.specs.Setting.{Setting}
use Rattle.pcef_model.specs.Entries.{Journal, lane}
use Rattle.pcef_model.specs.Journals.{at, gen, verdict_at}
use Rattle.pcef_model.specs.Reports.{after_attach, after_command, after_flush, after_leave}
use Rattle.pcef_model.specs.Outcomes.{changes}
use Rattle.pcef_model.specs.Refusals.{attach_faults, first_of, flush_refusals, is_attached, refusals}

-- the generation of a lane's newest row
abbrev pub newest_generation : List Row → ℕ
newest_generation [] = 0
newest_generation (r ∷ rs) = r.generation

-- a row that may come next: it follows its lane, doesn't go back in generations, and has the verdict
-- of its own generation
pub record RowFollows (p : Setting) (j : Journal) (r : Row) : Type 0 where
  pub in_lane : r.seq ≡ length (lane j r.worker)
  pub not_older : newest_generation (lane j r.worker) ≤ r.generation
  pub known : r.generation ≤ gen j
  pub verdict : r.verdict ≡ verdict_at p (at p j r.generation) r.header

-- rows that may come one after the other
unfoldable pub RowsFollow : Setting → Journal → List Row → Type 0
RowsFollow p j [] = Unit {0}
RowsFollow p j (r ∷ rs) = RowFollows p j r × RowsFollow p (entry.Row r ∷ j) rs

-- a batch of a worker's rows that may come next
pub record BatchFollows (p : Setting) (j : Journal) (worker : ℕ) (rows : List Row) : Type 0 where
  pub own : All (λ r. r.worker ≡ worker) rows
  pub follow : RowsFollow p j rows

pub data Lawful (p : Setting) : Journal → Type 0 where
  at_first : Lawful p []
  by_command : (j : Journal) (c : Command) → Lawful p j → first_of (refusals p j c) ≡ None → changes p j c ≡ true →
      Lawful p (after_command p j c)
  by_attach : (j : Journal) → Lawful p j → first_of (attach_faults j) ≡ None → Lawful p (after_attach j)
  by_leave : (j : Journal) (worker : ℕ) → Lawful p j → is_attached j worker ≡ true → Lawful p (after_leave worker j)
  by_flush : (j : Journal) (worker : ℕ) (rows : List Row) → Lawful p j →
      first_of (flush_refusals p j worker (length rows)) ≡ None → BatchFollows p j worker rows → Lawful p (after_flush p j rows)
