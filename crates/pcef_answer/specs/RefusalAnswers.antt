-- The answers to refused steps: a JSON object (RFC 8259) with the refusal's name and number, its members
-- in the order of their keys (own choice).
use Rattle.std.specs.Prelude.{ℕ, List, codes, Option, Some, None}
use Rattle.serde_json.specs.Data.{Data, string, object, member, no_members}
use Rattle.serde_json.specs.Written.{compact_text}
use Rattle.pcef_model.specs.declared.answer.AttachFault.{AttachFault}
use Rattle.pcef_model.specs.declared.answer.AttachFault.TheVariants as attach
use Rattle.pcef_model.specs.declared.answer.FlushRefusal.{FlushRefusal}
use Rattle.pcef_model.specs.declared.answer.FlushRefusal.TheVariants as flush
use Rattle.pcef_model.specs.declared.answer.Refusal.{Refusal}
use Rattle.pcef_model.specs.declared.answer.Refusal.TheVariants.{Terminated, Closed, CommandsFull, NameIsPredefined, UnknownRule, UnknownKey, ZeroGrant, UnknownBearer, DefaultBearer, WorkersAttached, RulesFull, LevelClash, KeysFull, UnknownQci, RatesMissing, RatesNotWanted, TooManyBearers, OverCapacityUp, OverCapacityDown, PoolUp, PoolDown, NoMemory}
use Rattle.pcef_answer.specs.FaultAnswers.{count}

abbrev pub refused_data : List ℕ → ℕ → Data
refused_data name number =
    object (member (codes "name") (string name)
    (member (codes "refused") (count number) no_members))

unfoldable pub refused_text : List ℕ → ℕ → List ℕ
refused_text name number = compact_text (refused_data name number)

-- ---- commands
abbrev pub refusal_number : Refusal → ℕ
refusal_number Terminated = 1
refusal_number Closed = 2
refusal_number CommandsFull = 3
refusal_number NameIsPredefined = 4
refusal_number UnknownRule = 5
refusal_number UnknownKey = 6
refusal_number ZeroGrant = 7
refusal_number UnknownBearer = 8
refusal_number DefaultBearer = 9
refusal_number (WorkersAttached workers) = 10
refusal_number RulesFull = 11
refusal_number LevelClash = 20
refusal_number KeysFull = 12
refusal_number UnknownQci = 13
refusal_number RatesMissing = 14
refusal_number RatesNotWanted = 15
refusal_number TooManyBearers = 16
refusal_number OverCapacityUp = 17
refusal_number OverCapacityDown = 18
refusal_number PoolUp = 21
refusal_number PoolDown = 22
refusal_number NoMemory = 19

abbrev pub refusal_name : Refusal → List ℕ
refusal_name Terminated = codes "Terminated"
refusal_name Closed = codes "Closed"
refusal_name CommandsFull = codes "CommandsFull"
refusal_name NameIsPredefined = codes "NameIsPredefined"
refusal_name UnknownRule = codes "UnknownRule"
refusal_name UnknownKey = codes "UnknownKey"
refusal_name ZeroGrant = codes "ZeroGrant"
refusal_name UnknownBearer = codes "UnknownBearer"
refusal_name DefaultBearer = codes "DefaultBearer"
refusal_name (WorkersAttached workers) = codes "WorkersAttached"
refusal_name RulesFull = codes "RulesFull"
refusal_name LevelClash = codes "LevelClash"
refusal_name KeysFull = codes "KeysFull"
refusal_name UnknownQci = codes "UnknownQci"
refusal_name RatesMissing = codes "RatesMissing"
refusal_name RatesNotWanted = codes "RatesNotWanted"
refusal_name TooManyBearers = codes "TooManyBearers"
refusal_name OverCapacityUp = codes "OverCapacityUp"
refusal_name OverCapacityDown = codes "OverCapacityDown"
refusal_name PoolUp = codes "PoolUp"
refusal_name PoolDown = codes "PoolDown"
refusal_name NoMemory = codes "NoMemory"

-- the number of workers that are still attached, where they are the reason
abbrev pub refusal_count : Refusal → Option ℕ
refusal_count (WorkersAttached workers) = Some workers
refusal_count other = None

-- with the number of those in the way
abbrev pub counted_data : ℕ → List ℕ → ℕ → Data
counted_data workers name number =
    object (member (codes "count") (count workers)
    (member (codes "name") (string name)
    (member (codes "refused") (count number) no_members)))

abbrev pub data_of : Option ℕ → List ℕ → ℕ → Data
data_of None name number = refused_data name number
data_of (Some workers) name number = counted_data workers name number

abbrev pub refusal_data : Refusal → Data
refusal_data refusal = data_of (refusal_count refusal) (refusal_name refusal) (refusal_number refusal)

unfoldable pub refusal_text : Refusal → List ℕ
refusal_text refusal = compact_text (refusal_data refusal)

-- ---- workers, each step with numbers of its own
unfoldable pub attach_fault_text : AttachFault → List ℕ
attach_fault_text attach.NoPlace = refused_text (codes "NoPlace") 1
attach_fault_text attach.Closed = refused_text (codes "Closed") 2
attach_fault_text attach.NoMemory = refused_text (codes "NoMemory") 3

unfoldable pub flush_refusal_text : FlushRefusal → List ℕ
flush_refusal_text flush.NotAttached = refused_text (codes "NotAttached") 1
flush_refusal_text flush.RowsFull = refused_text (codes "RowsFull") 2
flush_refusal_text flush.NoMemory = refused_text (codes "NoMemory") 3

-- a take of a worker that has as many rows as may wait
unfoldable pub batch_full_text : List ℕ
batch_full_text = refused_text (codes "BatchFull") 1

-- a step of a worker that isn't attached
unfoldable pub no_worker_text : List ℕ
no_worker_text = refused_text (codes "NoWorker") 0
