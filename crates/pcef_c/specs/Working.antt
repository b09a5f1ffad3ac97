-- What the calls of C on a worker do to what lies at both handles, and the number that each returns (own choice).
use Rattle.std.specs.Prelude.{ℕ, ◌≡◌, None, Result, is_some}
use Rattle.pcef_handle.specs.Working.{AbandonsWorker, AttachesWorker, FinishesWorker, FlushesWorker, RefreshesWorker, generation_in}
use Rattle.pcef_handle.specs.declared.attached.AttachRefusal.{AttachRefusal}
use Rattle.pcef_handle.specs.declared.attached.MeetRefusal.{MeetRefusal}
use Rattle.pcef_handle.specs.declared.held.Handle.{Handle}
use Rattle.pcef_handle.specs.declared.worker.WorkerHandle.{WorkerHandle}
use Rattle.pcef_c.specs.Meeting.{attach_number, generation_number, never_counted, refresh_number, report_number}
use Rattle.pcef_c.specs.Numbers.{flag_number}

-- the number of the newest generation; the handle stays
abbrev pub GenerationReturns : Handle → Handle → ℕ → Type 0
GenerationReturns old new number = (new ≡ old) × (number ≡ generation_number (generation_in old.session))

-- there is no worker any more, and the number says whether there was one
abbrev pub DropReturns : WorkerHandle → WorkerHandle → ℕ → Type 0
DropReturns old new number = (new.worker ≡ None) × (number ≡ flag_number (is_some old.worker))

-- a worker of the session lies at the worker's handle
abbrev pub AttachReturns : Handle → WorkerHandle → Handle → WorkerHandle → ℕ → Type 0
AttachReturns h w g v number =
    (r : Result ℕ AttachRefusal) × AttachesWorker h w r g v × (g.next_number ≡ h.next_number) × (number ≡ attach_number r)

-- the worker holds the newest generation
abbrev pub RefreshReturns : Handle → WorkerHandle → Handle → WorkerHandle → ℕ → Type 0
RefreshReturns h w g v number = (g ≡ h) × (r : Result ℕ MeetRefusal) × RefreshesWorker h w r v × (number ≡ refresh_number r)

-- the worker's rows are handed over
abbrev pub FlushReturns : Handle → WorkerHandle → Handle → WorkerHandle → ℕ → Type 0
FlushReturns h w g v number =
    (r : Result ℕ MeetRefusal) × FlushesWorker h w r g v × (g.next_number ≡ h.next_number) × (number ≡ report_number r)

-- they are, and the worker leaves
abbrev pub FinishReturns : Handle → WorkerHandle → Handle → WorkerHandle → ℕ → Type 0
FinishReturns h w g v number =
    (r : Result ℕ MeetRefusal) × FinishesWorker h w r g v × (g.next_number ≡ h.next_number) × (number ≡ report_number r)

-- the worker leaves without them
abbrev pub AbandonReturns : Handle → WorkerHandle → Handle → WorkerHandle → ℕ → Type 0
AbandonReturns h w g v number =
    (r : Result ℕ MeetRefusal) × AbandonsWorker h w r g v × (g.next_number ≡ h.next_number) × (number ≡ never_counted r)
