-- What a worker at a handle of its own does, alone and with its session (own choice).
use Rattle.std.specs.Prelude.{ℕ, ◌≡◌, ◌≢◌, ◌≤◌, ◌<◌, List, length, take, Option, Some, None, Result, Ok, Err}
use Rattle.pcef_packet.specs.HeaderOf.{header_of}
use Rattle.pcef_packet.specs.declared.header.Dir.{Dir}
use Rattle.pcef_packet.specs.declared.header.Header.{Header}
use Rattle.pcef_front.specs.Fronts.{IsSettledBy}
use Rattle.pcef_front.specs.declared.fault.FrontFault.{FrontFault}
use Rattle.pcef_front.specs.declared.fault.FrontFault.TheVariants as front
use Rattle.pcef_model.specs.declared.answer.AttachFault.{AttachFault}
use Rattle.pcef_model.specs.declared.answer.FlushRefusal.TheVariants as flushing
use Rattle.pcef_model.specs.declared.answer.Verdicts.{Verdicts}
use Rattle.pcef_model.specs.Journals.{gen}
use Rattle.pcef_model.specs.Outcomes.{AttachStep}
use Rattle.pcef_world.specs.Apart.{AbandonsApart, FinishesApart, FlushesApart, IsApart, IsNewApart, IsRefreshed, TakesApart}
use Rattle.pcef_world.specs.Workers.{PlacesLast}
use Rattle.pcef_world.specs.declared.answer.Abandoned.{Abandoned}
use Rattle.pcef_world.specs.Steps.{standing_of}
use Rattle.pcef_handle.specs.Answering.{StaysOpen}
use Rattle.pcef_handle.specs.Attached.{Attached}
use Rattle.pcef_handle.specs.declared.held.Handle.{Handle}
use Rattle.pcef_handle.specs.declared.held.OpenSession.{OpenSession}
use Rattle.pcef_handle.specs.declared.attached.AttachRefusal.{AttachRefusal}
use Rattle.pcef_handle.specs.declared.attached.AttachRefusal.TheVariants as attaching
use Rattle.pcef_handle.specs.declared.attached.MeetRefusal.{MeetRefusal}
use Rattle.pcef_handle.specs.declared.attached.MeetRefusal.TheVariants as meeting
use Rattle.pcef_handle.specs.declared.attached.TakeRefusal.{TakeRefusal}
use Rattle.pcef_handle.specs.declared.attached.TakeRefusal.TheVariants as taking
use Rattle.pcef_handle.specs.declared.worker.WorkerHandle.{WorkerHandle}

-- ---- what a worker's caller owes
-- a worker with the number of this session is one of it, and no line of it and no other call may make it another's:
-- `pcef_world::apart_workers_stay`
abbrev pub Belongs : OpenSession → Attached → Type 0
Belongs s w = w.session ≡ s.number → IsApart s.world w.apart × (w.catalog ≡ s.catalog)

abbrev pub BelongsIn : Option OpenSession → Option Attached → Type 0
BelongsIn (Some s) (Some w) = Belongs s w
BelongsIn s w = Unit {0}

abbrev pub BelongsTo : Handle → WorkerHandle → Type 0
BelongsTo h v = BelongsIn h.session v.worker

-- ---- packets
-- a header is judged by the table that is held, its row waits last, and the place of the rule is returned
abbrev pub TakesHeader : Attached → Header → Result (Option ℕ) TakeRefusal → Attached → Type 0
TakesHeader old header (Ok place) new =
    (count : ℕ) × TakesApart old.catalog header old.apart (Ok count) new.apart × PlacesLast old.catalog new.apart.worker place
    × (new.catalog ≡ old.catalog) × (new.session ≡ old.session)
TakesHeader old header (Err taking.Full) new = (32 ≤ length old.apart.worker.waiting) × (new ≡ old)
TakesHeader old header (Err taking.NoMemory) new = (length old.apart.worker.waiting < 32) × (new ≡ old)
TakesHeader old header (Err other) new = ⊥

abbrev pub TakesRead : Attached → (Result Header FrontFault → Type 0) → Result (Option ℕ) TakeRefusal → Attached → Type 0
TakesRead old Reads (Err taking.NoWorker) new = ⊥
TakesRead old Reads (Err (taking.NoPacket fault)) new = Reads (Err (front.Packet fault)) × (new ≡ old)
TakesRead old Reads (Err taking.TooFew) new = Reads (Err front.TooFew) × (new ≡ old)
TakesRead old Reads result new = (header : Header) × Reads (Ok header) × TakesHeader old header result new

-- a packet of `whole` octets that begins with these
abbrev pub TakesFront : Attached → Dir → List ℕ → ℕ → Result (Option ℕ) TakeRefusal → Attached → Type 0
TakesFront old dir octets whole result new = TakesRead old (IsSettledBy (header_of dir) (take whole octets) whole) result new

abbrev pub TakesIn : Option Attached → (Result Header FrontFault → Type 0) → Result (Option ℕ) TakeRefusal → Option Attached → Type 0
TakesIn None Reads result None = result ≡ Err taking.NoWorker
TakesIn (Some old) Reads result (Some new) = TakesRead old Reads result new
TakesIn old Reads result new = ⊥

-- a packet of `whole` octets that begins with these, read as all such packets are, unless two of them are read differently
abbrev pub TakesPacket : WorkerHandle → Dir → List ℕ → ℕ → Result (Option ℕ) TakeRefusal → WorkerHandle → Type 0
TakesPacket old dir octets whole result new = TakesIn old.worker (IsSettledBy (header_of dir) (take whole octets) whole) result new.worker

-- ---- a worker comes
-- it is one of the session's; else the session refuses it, and stands as before
abbrev pub Attaches : OpenSession → Result Attached AttachFault → OpenSession → Type 0
Attaches s (Ok w) t =
    AttachStep s.world.session.journal (Ok w.apart.worker.number) t.world.session.journal × IsNewApart s.world t.world w.apart
    × (w.session ≡ s.number) × (w.catalog ≡ s.catalog) × StaysOpen s t
Attaches s (Err fault) t =
    AttachStep s.world.session.journal (Err fault) t.world.session.journal × (standing_of t.world ≡ standing_of s.world) × StaysOpen s t

abbrev pub AttachesIn : Option OpenSession → Option Attached → Result ℕ AttachRefusal → Option OpenSession → Option Attached → Type 0
AttachesIn None w r None v = (r ≡ Err attaching.NoSession) × (v ≡ w)
AttachesIn (Some s) (Some w) r (Some t) (Some v) = (r ≡ Err attaching.AlreadyAttached) × (t ≡ s) × (v ≡ w)
AttachesIn (Some s) None (Ok number) (Some t) (Some w) = Attaches s (Ok w) t × (number ≡ w.apart.worker.number)
AttachesIn (Some s) None (Err (attaching.Session fault)) (Some t) None = Attaches s (Err fault) t
AttachesIn s w r t v = ⊥

abbrev pub AttachesWorker : Handle → WorkerHandle → Result ℕ AttachRefusal → Handle → WorkerHandle → Type 0
AttachesWorker h w r g v = AttachesIn h.session w.worker r g.session v.worker

-- ---- a worker and its session
-- a session of another number: nothing changes
abbrev pub IsOther : OpenSession → Attached → OpenSession → Attached → Type 0
IsOther s w t v = (w.session ≢ s.number) × (t ≡ s) × (v ≡ w)

-- the worker takes the newest table
abbrev pub Refreshes : OpenSession → Attached → Result ℕ MeetRefusal → Attached → Type 0
Refreshes s w (Ok generation) v =
    (w.session ≡ s.number) × IsRefreshed s.world.session generation w.apart v.apart × (v.catalog ≡ w.catalog) × (v.session ≡ w.session)
Refreshes s w (Err meeting.OtherSession) v = IsOther s w s v
Refreshes s w (Err (meeting.Session flushing.NoMemory)) v = (w.session ≡ s.number) × (v ≡ w)
Refreshes s w (Err other) v = ⊥

-- its rows are handed over as by a step of a script, all or none
abbrev pub Flushes : OpenSession → Attached → Result Verdicts MeetRefusal → OpenSession → Attached → Type 0
Flushes s w (Ok d) t v =
    (w.session ≡ s.number) × FlushesApart s.world w.apart (Ok d) t.world v.apart × (v.catalog ≡ w.catalog) × (v.session ≡ w.session) × StaysOpen s t
Flushes s w (Err meeting.OtherSession) t v = IsOther s w t v
Flushes s w (Err (meeting.Session r)) t v =
    (w.session ≡ s.number) × FlushesApart s.world w.apart (Err r) t.world v.apart × (v.catalog ≡ w.catalog) × (v.session ≡ w.session) × StaysOpen s t
Flushes s w (Err other) t v = ⊥

-- its last rows are handed over, and it leaves; or it stays as it is
abbrev pub Finishes : OpenSession → Attached → Result Verdicts MeetRefusal → OpenSession → Type 0
Finishes s w (Ok d) t = (w.session ≡ s.number) × (rows : ℕ) × FinishesApart s.world w.apart (Ok (d, rows)) t.world × StaysOpen s t
Finishes s w (Err meeting.OtherSession) t = IsOther s w t w
Finishes s w (Err (meeting.Session r)) t = (w.session ≡ s.number) × FinishesApart s.world w.apart (Err r) t.world × StaysOpen s t
Finishes s w (Err other) t = ⊥

-- it leaves without its rows, whose number is returned
abbrev pub Abandons : OpenSession → Attached → Result ℕ MeetRefusal → OpenSession → Type 0
Abandons s w (Ok rows) t = (w.session ≡ s.number) × (d : Abandoned) × AbandonsApart s.world w.apart d t.world × (rows ≡ d.waiting) × StaysOpen s t
Abandons s w (Err meeting.OtherSession) t = IsOther s w t w
Abandons s w (Err other) t = ⊥

-- ---- at two handles
-- where one has no session, or the other no worker, both stay
abbrev pub LacksMeeting : Option OpenSession → Option Attached → MeetRefusal → Option OpenSession → Option Attached → Type 0
LacksMeeting None w meeting.NoSession None v = v ≡ w
LacksMeeting (Some s) None meeting.NoWorker (Some t) None = t ≡ s
LacksMeeting s w r t v = ⊥

abbrev pub RefreshesIn : Option OpenSession → Option Attached → Result ℕ MeetRefusal → Option OpenSession → Option Attached → Type 0
RefreshesIn (Some s) (Some w) r (Some t) (Some v) = Refreshes s w r v × (t ≡ s)
RefreshesIn s w (Err r) t v = LacksMeeting s w r t v
RefreshesIn s w r t v = ⊥

abbrev pub RefreshesWorker : Handle → WorkerHandle → Result ℕ MeetRefusal → WorkerHandle → Type 0
RefreshesWorker h w r v = RefreshesIn h.session w.worker r h.session v.worker

-- the number of the next report is returned
abbrev pub FlushesIn : Option OpenSession → Option Attached → Result ℕ MeetRefusal → Option OpenSession → Option Attached → Type 0
FlushesIn (Some s) (Some w) (Ok next) (Some t) (Some v) = (d : Verdicts) × Flushes s w (Ok d) t v × (next ≡ d.past_last_report)
FlushesIn (Some s) (Some w) (Err r) (Some t) (Some v) = Flushes s w (Err r) t v
FlushesIn s w (Err r) t v = LacksMeeting s w r t v
FlushesIn s w r t v = ⊥

abbrev pub FlushesWorker : Handle → WorkerHandle → Result ℕ MeetRefusal → Handle → WorkerHandle → Type 0
FlushesWorker h w r g v = FlushesIn h.session w.worker r g.session v.worker

-- the worker's handle has none then
abbrev pub FinishesIn : Option OpenSession → Option Attached → Result ℕ MeetRefusal → Option OpenSession → Option Attached → Type 0
FinishesIn (Some s) (Some w) (Ok next) (Some t) None = (d : Verdicts) × Finishes s w (Ok d) t × (next ≡ d.past_last_report)
FinishesIn (Some s) (Some w) (Err r) (Some t) (Some v) = Finishes s w (Err r) t × (v ≡ w)
FinishesIn s w (Err r) t v = LacksMeeting s w r t v
FinishesIn s w r t v = ⊥

abbrev pub FinishesWorker : Handle → WorkerHandle → Result ℕ MeetRefusal → Handle → WorkerHandle → Type 0
FinishesWorker h w r g v = FinishesIn h.session w.worker r g.session v.worker

abbrev pub AbandonsIn : Option OpenSession → Option Attached → Result ℕ MeetRefusal → Option OpenSession → Option Attached → Type 0
AbandonsIn (Some s) (Some w) (Ok rows) (Some t) None = Abandons s w (Ok rows) t
AbandonsIn (Some s) (Some w) (Err r) (Some t) (Some v) = Abandons s w (Err r) t × (v ≡ w)
AbandonsIn s w (Err r) t v = LacksMeeting s w r t v
AbandonsIn s w r t v = ⊥

abbrev pub AbandonsWorker : Handle → WorkerHandle → Result ℕ MeetRefusal → Handle → WorkerHandle → Type 0
AbandonsWorker h w r g v = AbandonsIn h.session w.worker r g.session v.worker

-- ---- what a worker asks before it meets its session
abbrev pub generation_in : Option OpenSession → Option ℕ
generation_in None = None
generation_in (Some s) = Some (gen s.world.session.journal)
