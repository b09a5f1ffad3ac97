-- The decision of the newest generation of a session on a packet (TS 23.203, clause 6.2.2).
use Rattle.std.specs.Prelude.{ℕ, ◌≡◌, List, take, Option, Some, None, Result, Ok, Err}
use Rattle.pcef_packet.specs.HeaderOf.{header_of}
use Rattle.pcef_packet.specs.declared.header.Dir.{Dir}
use Rattle.pcef_packet.specs.declared.header.Header.{Header}
use Rattle.pcef_front.specs.Fronts.{IsSettledBy}
use Rattle.pcef_front.specs.declared.fault.FrontFault.{FrontFault}
use Rattle.pcef_front.specs.declared.fault.FrontFault.TheVariants as front
use Rattle.pcef_rule.specs.declared.quantity.Slot.{Slot}
use Rattle.pcef_model.specs.declared.verdict.Verdict.{Verdict}
use Rattle.pcef_table.specs.Tables.{TableValue}
use Rattle.pcef_table.specs.Verdicts.{IsPlaced}
use Rattle.pcef_model.specs.Journals.{at, counts_in, gen, slots, verdict_at}
use Rattle.pcef_model.specs.Slots.{AreSlotsOf}
use Rattle.pcef_session.specs.Answers.{ShowsNewest}
use Rattle.pcef_session.specs.SessionModel.{SessionModel}
use Rattle.pcef_handle.specs.declared.held.Handle.{Handle}
use Rattle.pcef_handle.specs.declared.held.OpenSession.{OpenSession}
use Rattle.pcef_handle.specs.declared.judging.JudgeRefusal.{JudgeRefusal}
use Rattle.pcef_handle.specs.declared.judging.JudgeRefusal.TheVariants.{NoPacket, NoSession, TooFew}
use Rattle.pcef_world.specs.Newest.{brief_of}
use Rattle.pcef_world.specs.declared.newest.Brief.{Brief}

-- a decision on a packet: the generation's number, its verdict, the place of the rule that decided, where one did, and the
-- slots that the packet counts for
pub record Judgement : Type 0 where
  pub generation : ℕ
  pub verdict : Verdict
  pub place : Option ℕ
  pub slots : List Slot

-- the same without the name of the rule
abbrev pub in_brief : Result Judgement JudgeRefusal → Result Brief JudgeRefusal
in_brief (Ok d) = Ok (brief_of d.generation d.verdict d.place d.slots)
in_brief (Err refusal) = Err refusal

-- the decision of the newest generation on a header: its verdict, the place of the rule in its table, and exactly the
-- slots of the keys that the packet counts for
pub record IsJudgementOf (s : SessionModel) (header : Header) (d : Judgement) : Type 0 where
  pub generation_is : d.generation ≡ gen s.journal
  pub verdict_is : d.verdict ≡ verdict_at s.setting (at s.setting s.journal (gen s.journal)) header
  pub counts_is : AreSlotsOf (slots s.setting s.journal)
      (λ key. counts_in s.setting (at s.setting s.journal (gen s.journal)) key header) d.slots
  pub placed : (t : TableValue) × ShowsNewest s t × IsPlaced s.setting.catalog t.entries d.verdict d.place

-- the header that is read is judged, or why there is none
abbrev pub JudgesRead : OpenSession → (Result Header FrontFault → Type 0) → Result Judgement JudgeRefusal → Type 0
JudgesRead s Reads (Ok d) = (header : Header) × Reads (Ok header) × IsJudgementOf s.world.session header d
JudgesRead s Reads (Err (NoPacket fault)) = Reads (Err (front.Packet fault))
JudgesRead s Reads (Err TooFew) = Reads (Err front.TooFew)
JudgesRead s Reads (Err NoSession) = ⊥

abbrev pub JudgesIn : Option OpenSession → (Result Header FrontFault → Type 0) → Result Judgement JudgeRefusal → Type 0
JudgesIn None Reads result = result ≡ Err NoSession
JudgesIn (Some s) Reads result = JudgesRead s Reads result

-- a packet of `whole` octets that begins with these is judged, where the handle has a session: as all such packets are
-- read, unless two of them are read differently
abbrev pub JudgesHandle : Handle → Dir → List ℕ → ℕ → Result Judgement JudgeRefusal → Type 0
JudgesHandle h dir octets whole result = JudgesIn h.session (IsSettledBy (header_of dir) (take whole octets) whole) result

-- a judgement in brief
abbrev pub IsBriefly : (Result Judgement JudgeRefusal → Type 0) → Result Brief JudgeRefusal → Type 0
IsBriefly Judges result = (r : Result Judgement JudgeRefusal) × Judges r × (result ≡ in_brief r)

abbrev pub JudgesBriefly : Handle → Dir → List ℕ → ℕ → Result Brief JudgeRefusal → Type 0
JudgesBriefly h dir octets whole result = IsBriefly (JudgesHandle h dir octets whole) result

-- a packet of an open session, of `whole` octets, that begins with these
abbrev pub JudgesFront : OpenSession → Dir → List ℕ → ℕ → Result Brief JudgeRefusal → Type 0
JudgesFront s dir octets whole result = IsBriefly (JudgesRead s (IsSettledBy (header_of dir) (take whole octets) whole)) result

abbrev pub JudgesHeader : OpenSession → Header → Brief → Type 0
JudgesHeader s header b = (d : Judgement) × IsJudgementOf s.world.session header d × (b ≡ brief_of d.generation d.verdict d.place d.slots)
