-- What a call on a session over Gx does to what lies at its handles, and the number that it returns (own choice).
use Rattle.std.specs.Prelude.{ℕ, ◌≡◌, ◌⊎◌, ◌==◌, List, Option, Some, None, option_map, Result, is_some, false, if◌then◌else◌}
use Rattle.pcef_gx_handle.specs.Dialogues.{Dialoguing, reply_of}
use Rattle.pcef_gx_handle.specs.Ending.{EndsGx, Notices}
use Rattle.pcef_gx_handle.specs.Hearing.{Hears}
use Rattle.pcef_gx_handle.specs.Opening.{OpensGx}
use Rattle.pcef_gx_handle.specs.Renewing.{RenewsGx}
use Rattle.pcef_gx_handle.specs.Telling.{Next, again, forgone, out_of}
use Rattle.pcef_gx_handle.specs.declared.ending.EndRefusal.{EndRefusal}
use Rattle.pcef_gx_handle.specs.declared.ending.NoticeRefusal.{NoticeRefusal}
use Rattle.pcef_gx_handle.specs.declared.hearing.Heard.{Heard}
use Rattle.pcef_gx_handle.specs.declared.hearing.HearRefusal.{HearRefusal}
use Rattle.pcef_gx_handle.specs.declared.opening.BeginRefusal.{BeginRefusal}
use Rattle.pcef_gx_handle.specs.declared.renewing.GoOnRefusal.{GoOnRefusal}
use Rattle.pcef_gx_handle.specs.declared.telling.NextRefusal.{NextRefusal}
use Rattle.pcef_gx_messages.specs.Identities.{IsShort, Speaker}
use Rattle.pcef_gx_messages.specs.declared.requesting.RequestKind.{RequestKind}
use Rattle.pcef_handle.specs.Answering.{CopiesFront}
use Rattle.pcef_handle.specs.declared.held.Handle.{Handle}
use Rattle.pcef_model.specs.declared.trigger.AccessKind.{AccessKind}
use Rattle.pcef_model.specs.declared.trigger.AccessKind.TheVariants.{PlmnChange, RatChange, UeTimeZoneChange, UserLocationChange}
use Rattle.pcef_c.specs.GxNumbers.{begin_number, end_number, go_on_number, hear_number, left_after, next_number, notice_number, stage_number}
use Rattle.pcef_c.specs.GxPorts.{nothing_left}
use Rattle.pcef_c.specs.Numbers.{flag_number}
use Rattle.pcef_c.specs.Named.{Named, named_with, nothing_named, named_part}
use Rattle.pcef_c.specs.declared.gx_port.CLeft.{CLeft}
use Rattle.pcef_c.specs.declared.gx_port.GxPort.{GxPort}
use Rattle.pcef_c.specs.declared.gx_port.Part.{Part}

-- what the host said, and what a message left, stay
abbrev pub StaysBeside : GxPort → GxPort → Type 0
StaysBeside old new = (new.names ≡ old.names) × (new.left ≡ old.left)

-- ---- what the host says: a part of it, or there is no such part or no memory
abbrev pub SetsPart : Option Part → List ℕ → GxPort → GxPort → ℕ → Type 0
SetsPart None octets old new number = (number ≡ 11) × (new.names ≡ old.names)
SetsPart (Some part) octets old new number =
    ((number ≡ 0) × (new.names ≡ named_with part octets old.names)) ⊎ ((number ≡ 7) × (new.names ≡ old.names))

abbrev pub SetReturns : GxPort → ℕ → List ℕ → GxPort → ℕ → Type 0
SetReturns old part octets new number =
    SetsPart (named_part part) octets old new number × (new.gx.dialogue ≡ old.gx.dialogue) × (new.left ≡ old.left)

-- ---- the dialogue begins, or there is a reason why not; the parts of an identity have at most 1,024 octets
abbrev pub speaker_of : Named → Speaker
speaker_of n = record {
  session_id = n.session_id;
  origin_host = n.origin_host;
  origin_realm = n.origin_realm;
  destination_realm = n.destination_realm;
}

abbrev pub BeginsAs : List ℕ → Named → Option Dialoguing → Option (Result (Unit {0}) BeginRefusal) → Option Dialoguing → Type 0
BeginsAs profile names old (Some begun) new = IsShort (speaker_of names) × OpensGx profile (speaker_of names) names.avps old begun new
BeginsAs profile names old None new = (¬ (IsShort (speaker_of names))) × (new ≡ old)

abbrev pub OpensAs : List ℕ → GxPort → Option (Result (Unit {0}) BeginRefusal) → GxPort → ℕ → Type 0
OpensAs profile old (Some begun) new number = (number ≡ begin_number begun) × (new.left ≡ nothing_left)
OpensAs profile old None new number = (number ≡ 12) × (new.left ≡ old.left)

abbrev pub OpenGxReturns : GxPort → List ℕ → GxPort → ℕ → Type 0
OpenGxReturns old profile new number =
    (begun : Option (Result (Unit {0}) BeginRefusal))
    × BeginsAs profile old.names old.gx.dialogue begun new.gx.dialogue × OpensAs profile old begun new number
    × (new.names ≡ old.names)

-- ---- messages
abbrev pub MessageReturns : Handle → GxPort → List ℕ → Handle → GxPort → ℕ → Type 0
MessageReturns old port message new after number =
    (heard : Result Heard HearRefusal) × Hears message port.gx.dialogue old heard after.gx.dialogue new
    × (after.names ≡ port.names) × (after.left ≡ left_after heard port.left) × (number ≡ hear_number heard)

abbrev pub NextReturns : Handle → GxPort → ℕ → ℕ → Handle → GxPort → ℕ → Type 0
NextReturns old port hop_by_hop end_to_end new after number =
    (next : Result (Option RequestKind) NextRefusal)
    × Next (record { hop_by_hop = hop_by_hop; end_to_end = end_to_end; retransmitted = false }) port.gx.dialogue old.session next after.gx.dialogue
    × (new ≡ old) × StaysBeside port after × (number ≡ next_number next)

-- ---- the end, and events
abbrev pub EndReturns : Handle → GxPort → Handle → GxPort → ℕ → Type 0
EndReturns old port new after number =
    (ended : Result (Unit {0}) EndRefusal) × EndsGx port.gx.dialogue old.session ended after.gx.dialogue new.session
    × (new.next_number ≡ old.next_number) × StaysBeside port after × (number ≡ end_number ended)

-- ---- the renewal
abbrev pub RenewGxReturns : Handle → GxPort → Handle → GxPort → ℕ → Type 0
RenewGxReturns old port new after number =
    (renewed : Result (Unit {0}) GoOnRefusal) × RenewsGx port.gx.dialogue old renewed after.gx.dialogue new
    × StaysBeside port after × (number ≡ go_on_number renewed)

-- an event has the number of its event trigger (TS 29.212, clause 5.3.7)
abbrev pub access_kind : ℕ → Option AccessKind
access_kind n =
    if n == 2 then Some RatChange
    else if n == 4 then Some PlmnChange
    else if n == 13 then Some UserLocationChange
    else if n == 25 then Some UeTimeZoneChange
    else None

abbrev pub NoticesBy : Option AccessKind → Handle → List ℕ → Handle → ℕ → Type 0
NoticesBy None old octets new number = (number ≡ 44) × (new ≡ old)
NoticesBy (Some kind) old octets new number =
    (noticed : Result (Unit {0}) NoticeRefusal) × Notices kind octets old.session noticed new.session
    × (new.next_number ≡ old.next_number) × (number ≡ notice_number noticed)

abbrev pub NoticeReturns : Handle → ℕ → List ℕ → Handle → ℕ → Type 0
NoticeReturns old kind octets new number = NoticesBy (access_kind kind) old octets new number

-- ---- what is to be sent
abbrev pub IsPutOctets : Option (List ℕ) → List ℕ → List ℕ → ℕ → Type 0
IsPutOctets None before after number = (number ≡ 0) × (after ≡ before)
IsPutOctets (Some octets) before after number = CopiesFront octets before after number

abbrev pub replied : Option Dialoguing → Option (List ℕ)
replied None = None
replied (Some d) = reply_of d

abbrev pub request_in : Option Dialoguing → Option (List ℕ)
request_in None = None
request_in (Some d) = option_map (λ o. o.message) d.ccrs.out

abbrev pub ReplyReturns : GxPort → List ℕ → GxPort → List ℕ → ℕ → Type 0
ReplyReturns old before new after number = (new ≡ old) × IsPutOctets (replied old.gx.dialogue) before after number

abbrev pub RequestReturns : GxPort → List ℕ → GxPort → List ℕ → ℕ → Type 0
RequestReturns old before new after number = (new ≡ old) × IsPutOctets (request_in old.gx.dialogue) before after number

abbrev pub AgainReturns : GxPort → GxPort → ℕ → Type 0
AgainReturns old new number =
    (new.gx.dialogue ≡ option_map again old.gx.dialogue) × StaysBeside old new × (number ≡ flag_number (out_of old.gx.dialogue))

abbrev pub GiveUpReturns : GxPort → GxPort → ℕ → Type 0
GiveUpReturns old new number =
    (new.gx.dialogue ≡ option_map forgone old.gx.dialogue) × StaysBeside old new × (number ≡ flag_number (out_of old.gx.dialogue))

-- ---- where it stands, and what was left
abbrev pub stage_in : Option Dialoguing → ℕ
stage_in None = 0
stage_in (Some d) = stage_number d.stage

abbrev pub StageReturns : GxPort → GxPort → ℕ → Type 0
StageReturns old new number = (new ≡ old) × (number ≡ stage_in old.gx.dialogue)

abbrev pub LeftIn : Option Dialoguing → CLeft → CLeft → CLeft → ℕ → Type 0
LeftIn None left before after number = (number ≡ 0) × (after ≡ before)
LeftIn (Some d) left before after number = (number ≡ 1) × (after ≡ left)

abbrev pub LeftReturns : GxPort → CLeft → GxPort → CLeft → ℕ → Type 0
LeftReturns old before new after number = (new ≡ old) × LeftIn old.gx.dialogue old.left before after number

-- there is no dialogue any more, and nothing that the host said
abbrev pub ClosesGx : GxPort → GxPort → ℕ → Type 0
ClosesGx old new number =
    (new.gx.dialogue ≡ None) × (new.names ≡ nothing_named) × (new.left ≡ old.left)
    × (number ≡ flag_number (is_some old.gx.dialogue))
