-- Steps of sorting.
use Rattle.std.specs.Prelude.{ℕ, ◌≡◌, ◌==◌, ◌<◌, List, [], ◌++◌, Some, length, slice_index_or, if◌then◌else◌}
use Rattle.std.specs.declared.hash.RandomState.{RandomState}
use Rattle.pcef_script.specs.Scripts.{last_line}
use Rattle.pcef_shards.specs.declared.sorting.Sorting.{Sorting}
use Rattle.pcef_shards.specs.Picks.{thread_of}
use Rattle.pcef_shards.specs.Sorted.{IsSorted, IsSortedWhole}

-- octets were put behind what waits for a thread
pub record Leads (old : List (List ℕ)) (thread : ℕ) (octets : List ℕ) (new : List (List ℕ)) : Type 0 where
  pub many : length new ≡ length old
  pub parts : (t : ℕ) → t < length old → slice_index_or new t [] ≡ slice_index_or old t [] ++ (if thread == t then octets else [])

-- the thread of the line that is coming was settled
pub record Settles (old new : Sorting) (thread : ℕ) : Type 0 where
  pub own : thread ≡ thread_of old.picking.keys old.picking.threads old.line.items
  pub picking_stays : new.picking ≡ old.picking
  pub line_is : new.line.items ≡ []
  pub thread_is : new.thread ≡ Some thread
  pub parts : Leads old.parts.items thread old.line.items new.parts.items

-- the end was sorted, and this is the thread of the last line
abbrev pub Ends : Sorting → Sorting → ℕ → Type 0
Ends old new thread =
    (keys : RandomState) (threads : ℕ) (taken : ℕ → List ℕ) (input : List ℕ)
    → IsSorted keys threads taken old input → IsSortedWhole keys threads taken new input × (thread ≡ thread_of keys threads (last_line input))
