-- The script for some packets.
use Rattle.std.specs.Prelude.{ℕ, ◌+◌, ◌/◌, ◌%◌, ◌==◌, max, List, [], ◌++◌, length, if◌then◌else◌}
use Rattle.std.specs.List.{enumerate_from, flat_map}
use Rattle.pcef_capture_script.specs.Lines.{Item, flush_line, take_line}

-- how many workers there are, and how many packets each takes in its turn
pub record Rota : Type 0 where
  pub workers : ℕ
  pub batch : ℕ

-- a batch of 0 packets counts as one of 1
abbrev pub batch_of : Rota → ℕ
batch_of rota = max rota.batch 1

-- workers in turn take a batch each; 0 workers count as 1
abbrev pub worker_of : Rota → ℕ → ℕ
worker_of rota n = (n / batch_of rota) % max rota.workers 1

-- a flush stands behind the last packet of a batch
abbrev pub flush_behind : Rota → ℕ → List ℕ
flush_behind rota n = if (n + 1) % batch_of rota == 0 then flush_line (worker_of rota n) else []

-- the lines for the packet of this number
abbrev pub numbered_lines : Rota → ℕ × Item → List ℕ
numbered_lines rota numbered =
    take_line (worker_of rota numbered.0) numbered.1 ++ flush_behind rota numbered.0

-- and a flush at the end, where packets wait
abbrev pub last_flush : Rota → ℕ → List ℕ
last_flush rota count = if count % batch_of rota == 0 then [] else flush_line (worker_of rota count)

-- the lines for packets after which more may come
abbrev pub take_lines : Rota → List Item → List ℕ
take_lines rota items = flat_map (numbered_lines rota) (enumerate_from 0 items)

abbrev pub script_of : Rota → List Item → List ℕ
script_of rota items = take_lines rota items ++ last_flush rota (length items)
