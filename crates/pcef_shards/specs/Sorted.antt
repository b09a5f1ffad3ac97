-- How lines are sorted by their threads (own choice).
use Rattle.std.specs.Prelude.{ℕ, ◌≡◌, ◌<◌, List, [], ◌++◌, Some, None, length, slice_index_or, ◌≢◌, if◌then◌else◌}
use Rattle.std.specs.declared.hash.RandomState.{RandomState}
use Rattle.pcef_script.specs.Scripts.{last_line}
use Rattle.pcef_shards.specs.declared.sorting.Sorting.{Sorting}
use Rattle.pcef_shards.specs.Parts.{part_of, part_so_far}
use Rattle.pcef_shards.specs.Picks.{is_settled, thread_of}

-- what waits for a thread
abbrev pub waits : Sorting → ℕ → List ℕ
waits s t = slice_index_or s.parts.items t []

-- for each thread: what was taken for it, and then what waits for it
abbrev pub HaveParts : Sorting → ℕ → (ℕ → List ℕ) → (ℕ → List ℕ) → Type 0
HaveParts s threads taken parts = (t : ℕ) → t < threads → taken t ++ waits s t ≡ parts t

-- so it stands after an input: each thread has its part of it so far
pub record IsSorted (keys : RandomState) (threads : ℕ) (taken : ℕ → List ℕ) (s : Sorting) (input : List ℕ) : Type 0 where
  pub keys_are : s.picking.keys ≡ keys
  pub threads_are : s.picking.threads ≡ threads
  pub many : length s.parts.items ≡ threads
  pub line_is : s.line.items ≡ (if is_settled (last_line input) then [] else last_line input)
  pub thread_is : s.thread ≡ (if is_settled (last_line input) then Some (thread_of keys threads (last_line input)) else None)
  pub parts_are : HaveParts s threads taken (λ t. part_so_far (thread_of keys threads) t input)

-- and so after its end
pub record IsSortedWhole (keys : RandomState) (threads : ℕ) (taken : ℕ → List ℕ) (s : Sorting) (input : List ℕ) : Type 0 where
  pub keys_are : s.picking.keys ≡ keys
  pub threads_are : s.picking.threads ≡ threads
  pub many : length s.parts.items ≡ threads
  pub line_is : s.line.items ≡ []
  pub thread_is : s.thread ≡ Some (thread_of keys threads (last_line input))
  pub parts_are : HaveParts s threads taken (λ t. part_of (thread_of keys threads) t input)

-- more octets are sorted, whatever was sorted before
abbrev pub SortsOn : Sorting → Sorting → List ℕ → Type 0
SortsOn old new octets =
    (keys : RandomState) (threads : ℕ) (taken : ℕ → List ℕ) (input : List ℕ)
    → IsSorted keys threads taken old input → IsSorted keys threads taken new (input ++ octets)

-- the end is sorted
abbrev pub SortsEnd : Sorting → Sorting → Type 0
SortsEnd old new =
    (keys : RandomState) (threads : ℕ) (taken : ℕ → List ℕ) (input : List ℕ)
    → IsSorted keys threads taken old input → IsSortedWhole keys threads taken new input

-- but for what waits, nothing changes
pub record Stays (old new : Sorting) : Type 0 where
  pub picking_stays : new.picking ≡ old.picking
  pub many_stay : length new.parts.items ≡ length old.parts.items
  pub line_stays : new.line.items ≡ old.line.items
  pub thread_stays : new.thread ≡ old.thread

-- what waited for a thread was taken, and nothing else
abbrev pub Takes : Sorting → Sorting → ℕ → List ℕ → Type 0
Takes old new thread part = (part ≡ waits old thread) × (waits new thread ≡ []) × ((t : ℕ) → t ≢ thread → waits new t ≡ waits old t)
