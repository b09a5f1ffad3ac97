-- Packets that a worker takes, and the verdicts that C gets (own choice).
use Rattle.std.specs.Prelude.{ℕ, ◌≡◌, ◌+◌, Bool, true, false, nat_lt, List, [], ◌∷◌, Option, Some, None, Result, Ok, Err}
use Rattle.pcef_session.specs.declared.batch.Item.{Item}
use Rattle.pcef_world.specs.Newest.{flags_of, outcome_of}
use Rattle.pcef_handle.specs.Attached.{Attached, last_of}
use Rattle.pcef_handle.specs.Working.{TakesPacket}
use Rattle.pcef_handle.specs.declared.attached.TakeRefusal.{TakeRefusal}
use Rattle.pcef_handle.specs.declared.attached.TakeRefusal.TheVariants as taking
use Rattle.pcef_handle.specs.declared.worker.WorkerHandle.{WorkerHandle}
use Rattle.pcef_c.specs.Judging.{bearer_of, direction_by_flag, place_number, status_of, unjudged}
use Rattle.pcef_c.specs.Numbers.{packet_number}
use Rattle.pcef_c.specs.declared.judging.CPacket.{CPacket}
use Rattle.pcef_c.specs.declared.judging.CVerdict.{CVerdict}

-- the verdict that a row has, with the place of the rule that decided
abbrev pub taken_verdict : Item → Option ℕ → CVerdict
taken_verdict i place = record {
  generation = i.row.generation;
  status = status_of (outcome_of i.row.verdict);
  bearer = bearer_of (outcome_of i.row.verdict);
  place = place_number place;
  slots = flags_of i.slots.items 0;
}

abbrev pub take_number : TakeRefusal → ℕ
take_number (taking.NoPacket fault) = packet_number fault
take_number taking.TooFew = 10
take_number taking.NoWorker = 11
take_number taking.Full = 12
take_number taking.NoMemory = 13

-- the row that waits last
abbrev pub last_row : Option Attached → Option Item
last_row None = None
last_row (Some w) = last_of w.apart.worker.waiting

-- the verdict is that of the row that waits last
abbrev pub IsVerdictOf : WorkerHandle → Option ℕ → CVerdict → Type 0
IsVerdictOf worker place v = (i : Item) × (last_row worker.worker ≡ Some i) × (v ≡ taken_verdict i place)

-- there is one
abbrev pub HasRowFor : WorkerHandle → Option ℕ → Type 0
HasRowFor worker place = (i : Item) × (last_row worker.worker ≡ Some i)

abbrev pub TakenVerdict : WorkerHandle → Result (Option ℕ) TakeRefusal → CVerdict → Type 0
TakenVerdict worker (Ok place) v = IsVerdictOf worker place v
TakenVerdict worker (Err refusal) v = v ≡ unjudged (take_number refusal)

-- a packet is taken, or its verdict says why it isn't
abbrev pub IsPacketTaken : WorkerHandle → CPacket → CVerdict → WorkerHandle → Type 0
IsPacketTaken old packet v new =
    (r : Result (Option ℕ) TakeRefusal) × TakesPacket old (direction_by_flag packet.up) packet.octets.now packet.whole r new × TakenVerdict new r v

-- no further packet can be taken for now: there is no worker, 32 rows wait, or there is no memory
abbrev pub ends_taking : CVerdict → Bool
ends_taking v = nat_lt 10 v.status

-- the rest of the packets, where one was taken or isn't one, and where the taking ends with it
abbrev pub Goes : Bool → (ℕ → List CVerdict → WorkerHandle → Type 0) → WorkerHandle → CVerdict → List CVerdict → ℕ → List CVerdict → WorkerHandle → Type 0
Goes true Rest next v rest number after new = (number ≡ 0) × (after ≡ v ∷ rest) × (new ≡ next)
Goes false Rest next v rest number after new = (n : ℕ) × (vs : List CVerdict) × Rest n vs new × (number ≡ n + 1) × (after ≡ v ∷ vs)

-- packets are taken in their order, as many as there are verdicts, each with its verdict, until one ends the taking: its
-- verdict says why, and no other is written. The number of those before it is returned
abbrev pub TakesAll : List CPacket → List CVerdict → WorkerHandle → ℕ → List CVerdict → WorkerHandle → Type 0
TakesAll [] before old number after new = (number ≡ 0) × (after ≡ before) × (new ≡ old)
TakesAll (packet ∷ packets) [] old number after new = (number ≡ 0) × (after ≡ []) × (new ≡ old)
TakesAll (packet ∷ packets) (b ∷ before) old number after new =
    (v : CVerdict) × (next : WorkerHandle) × IsPacketTaken old packet v next
    × Goes (ends_taking v) (TakesAll packets before next) next v before number after new
