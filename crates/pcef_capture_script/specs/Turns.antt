-- Whose turn it is: for private clauses.
use Rattle.std.specs.Prelude.{◌≡◌, ℕ, Bool, ◌+◌, ◌%◌, ◌==◌, ◌++◌, nat_lt, max, List, length, [], Option, Some, None, if◌then◌else◌}
use Rattle.std.specs.Io.KnownBytes.{Appends}
use Rattle.pcef_packet.specs.declared.header.Addr.{Addr}
use Rattle.pcef_capture_file.specs.Captured.{Captured}
use Rattle.pcef_capture_script.specs.Counting.{counts_of}
use Rattle.pcef_capture_script.specs.Fates.{AreFates, Fate, IsFate, items_of, outcomes_of}
use Rattle.pcef_capture_script.specs.Lines.{Item, flush_line, take_line}
use Rattle.pcef_capture_script.specs.Scripts.{Rota, batch_of, take_lines, worker_of}
use Rattle.pcef_base.specs.Writing.{AppendsFront}
use Rattle.pcef_capture_script.specs.declared.counts.Counts.{Counts}
use Rattle.pcef_capture_script.specs.declared.counts.Outcome.{Outcome}
use Rattle.pcef_capture_script.specs.declared.turn.Turn.{Turn}

-- the worker behind this one, and the first behind the last
abbrev pub next_worker : ℕ → ℕ → ℕ
next_worker workers worker = if nat_lt (worker + 1) workers then worker + 1 else 0

-- the worker that is to flush, once its batch is full
abbrev pub full_after : Turn → Option ℕ
full_after turn = if nat_lt (turn.waiting + 1) (max turn.batch 1) then None else Some turn.worker

-- and the turn after a packet was taken
abbrev pub taken_after : Turn → Turn
taken_after turn =
    if nat_lt (turn.waiting + 1) (max turn.batch 1)
    then record { workers = turn.workers; batch = turn.batch; worker = turn.worker; waiting = turn.waiting + 1 }
    else record { workers = turn.workers; batch = turn.batch; worker = next_worker turn.workers turn.worker; waiting = 0 }

-- the turn after this number of packets
abbrev pub turn_at : Rota → ℕ → Turn
turn_at rota n = record { workers = rota.workers; batch = rota.batch; worker = worker_of rota n; waiting = n % batch_of rota }

abbrev pub flush_if : Option ℕ → List ℕ
flush_if None = []
flush_if (Some worker) = flush_line worker

-- the lines that a turn has for a packet
abbrev pub lines_at : Turn → Item → List ℕ
lines_at turn item = take_line turn.worker item ++ flush_if (full_after turn)

abbrev pub lines_if : Turn → Option Item → List ℕ
lines_if turn None = []
lines_if turn (Some item) = lines_at turn item

abbrev pub turn_past : Turn → Option Item → Turn
turn_past turn None = turn
turn_past turn (Some item) = taken_after turn

-- what was written for a frame of this fate
abbrev pub WroteFate : Turn → Turn → Option (List ℕ) → Option (List ℕ) → Outcome → Fate → Type 0
WroteFate before after old new outcome fate =
    (outcome ≡ fate.0) × (after ≡ turn_past before fate.1) × Appends old new (lines_if before fate.1)

abbrev pub WroteFrame : Addr → Bool → Captured → Turn → Turn → Option (List ℕ) → Option (List ℕ) → Outcome → Type 0
WroteFrame ue pads frame before after old new outcome =
    (fate : Fate) × IsFate ue pads frame fate × WroteFate before after old new outcome fate

-- or a front of it
abbrev pub WroteFrameFront : Addr → Bool → Captured → Turn → Option (List ℕ) → Option (List ℕ) → Type 0
WroteFrameFront ue pads frame before old new =
    (fate : Fate) × IsFate ue pads frame fate × AppendsFront old new (lines_if before fate.1)

-- where packets wait
abbrev pub rest_flush : Turn → List ℕ
rest_flush turn = if turn.waiting == 0 then [] else flush_line turn.worker

-- what was written when these frames were done
abbrev pub WroteSoFar : Addr → Bool → Rota → List Captured → Option (List ℕ) → Option (List ℕ) → Turn → Counts → Type 0
WroteSoFar ue pads rota frames old now turn counts =
    (fates : List Fate) × AreFates ue pads frames fates × (turn ≡ turn_at rota (length (items_of fates)))
    × Appends old now (take_lines rota (items_of fates)) × (counts ≡ counts_of (outcomes_of fates))
