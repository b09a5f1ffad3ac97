-- A RAR that comes again (RFC 6733, clause 5.5.4): it is known by its End-to-End Identifier and its Origin-Host.
use Rattle.std.specs.Prelude.{ℕ, ◌≡◌, ◌==◌, ◌&&◌, Bool, true, false, List, Option, Some, None, option_map}
use Rattle.std.specs.Str.{bytes_eq}
use Rattle.pcef_diameter.specs.declared.header.MessageHeader.{MessageHeader}
use Rattle.pcef_gx.specs.Codes.{origin_host}
use Rattle.pcef_gx_messages.specs.Identities.{Speaker}
use Rattle.pcef_gx_messages.specs.Sent.{Answered, answered_again}
use Rattle.pcef_world.specs.Worlds.{World}
use Rattle.pcef_gx_dialogue.specs.Rars.{AnswersRar, Left, RefusesUnknown, left_by, nothing_left}
use Rattle.pcef_gx_dialogue.specs.Requests.{data_in}
use Rattle.pcef_gx_dialogue.specs.declared.responder.RarDone.{RarDone}
use Rattle.pcef_gx_dialogue.specs.declared.responder.RarDone.TheVariants as done

-- ---- where a message comes from
-- its one Origin-Host; none where its AVPs are at fault before
abbrev pub origin_of : List ℕ → Option (List ℕ)
origin_of message = data_in origin_host message

-- ---- the last RAR
-- who sent it, and its answer
pub record LastRar : Type 0 where
  pub end_to_end : ℕ
  pub origin : Option (List ℕ)
  pub answer : Answered

-- one session's answers: who speaks, and the last RAR
pub record Answering : Type 0 where
  pub speaker : Speaker
  pub last : Option LastRar

abbrev pub same_origin : Option (List ℕ) → Option (List ℕ) → Bool
same_origin (Some a) (Some b) = bytes_eq a b
same_origin _ _ = false

abbrev pub is_from : LastRar → MessageHeader → Option (List ℕ) → Bool
is_from last h origin = (last.end_to_end == h.end_to_end) && same_origin last.origin origin

abbrev pub is_last : Option LastRar → MessageHeader → Option (List ℕ) → Bool
is_last None h origin = false
is_last (Some last) h origin = is_from last h origin

abbrev pub comes_again : Option LastRar → MessageHeader → List ℕ → Bool
comes_again last h message = is_last last h (origin_of message)

-- ---- what is answered
-- it is answered again, with the identifiers that it has now
abbrev pub repeated : MessageHeader → LastRar → LastRar
repeated h last = record last { answer = answered_again h last.answer }

-- a new one is the last one from then on
abbrev pub remembered : MessageHeader → List ℕ → Answered → Answering → Answering
remembered h message answer before = record {
  speaker = before.speaker;
  last = Some (record { end_to_end = h.end_to_end; origin = origin_of message; answer = answer });
}

-- what is left to the host: of a RAR that comes again nothing
abbrev pub left_by_done : RarDone → Left
left_by_done done.Repeated = nothing_left
left_by_done (done.Done left) = left_by left

abbrev pub AnswersNew : MessageHeader → List ℕ → Answering → World → RarDone → Answering → World → Type 0
AnswersNew h message before world result after world_after =
    (answer : Answered) × AnswersRar before.speaker h message world answer (left_by_done result) world_after
    × (after ≡ remembered h message answer before)

-- one that comes again changes nothing
abbrev pub AnswersAgain : MessageHeader → Answering → World → RarDone → Answering → World → Type 0
AnswersAgain h before world result after world_after =
    (result ≡ done.Repeated) × (after ≡ record before { last = option_map (repeated h) before.last }) × (world_after ≡ world)

abbrev pub AnswersBy : Bool → MessageHeader → List ℕ → Answering → World → RarDone → Answering → World → Type 0
AnswersBy true h message before world result after world_after = AnswersAgain h before world result after world_after
AnswersBy false h message before world result after world_after = AnswersNew h message before world result after world_after

unfoldable pub AnswersOnce : MessageHeader → List ℕ → Answering → World → RarDone → Answering → World → Type 0
AnswersOnce h message before world result after world_after =
    AnswersBy (comes_again before.last h message) h message before world result after world_after

-- ---- where there is no session
abbrev pub UnknownBy : Bool → MessageHeader → List ℕ → Answering → Answering → Type 0
UnknownBy true h message before after = after ≡ record before { last = option_map (repeated h) before.last }
UnknownBy false h message before after =
    (answer : Answered) × RefusesUnknown before.speaker h message answer × (after ≡ remembered h message answer before)

unfoldable pub AnswersUnknown : MessageHeader → List ℕ → Answering → Answering → Type 0
AnswersUnknown h message before after = UnknownBy (comes_again before.last h message) h message before after
