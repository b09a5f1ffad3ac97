-- The verdicts that C gets (own choice).
use Rattle.std.specs.Prelude.{ℕ, ◌≡◌, ◌<◌, ◌≤◌, ◌==◌, if◌then◌else◌, List, get_or, length, min, Option, Some, None, Result, Ok, Err}
use Rattle.pcef_packet.specs.declared.header.Dir.{Dir}
use Rattle.pcef_packet.specs.declared.header.Dir.TheVariants.{Down, Up}
use Rattle.pcef_world.specs.declared.newest.Brief.{Brief}
use Rattle.pcef_world.specs.declared.newest.Outcome.{Outcome}
use Rattle.pcef_world.specs.declared.newest.Outcome.TheVariants.{Gated, Passed, Stray, Unmatched}
use Rattle.pcef_handle.specs.Judging.{Judgement, JudgesHandle, in_brief}
use Rattle.pcef_handle.specs.declared.held.Handle.{Handle}
use Rattle.pcef_handle.specs.declared.judging.JudgeRefusal.{JudgeRefusal}
use Rattle.pcef_handle.specs.declared.judging.JudgeRefusal.TheVariants.{NoPacket, NoSession, TooFew}
use Rattle.pcef_c.specs.Numbers.{packet_number}
use Rattle.pcef_c.specs.declared.judging.CPacket.{CPacket}
use Rattle.pcef_c.specs.declared.judging.CVerdict.{CVerdict}

abbrev pub direction_by_flag : ℕ → Dir
direction_by_flag up = if up == 0 then Down else Up

abbrev pub status_of : Outcome → ℕ
status_of (Passed bearer) = 0
status_of Gated = 1
status_of Unmatched = 2
status_of Stray = 3

abbrev pub bearer_of : Outcome → ℕ
bearer_of (Passed bearer) = bearer.0
bearer_of other = 0

abbrev pub place_number : Option ℕ → ℕ
place_number (Some place) = place
place_number None = 255

abbrev pub unjudged : ℕ → CVerdict
unjudged status = record { generation = 0; status = status; bearer = 0; place = 255; slots = 0 }

abbrev pub c_verdict_of : Result Brief JudgeRefusal → CVerdict
c_verdict_of (Ok b) = record {
  generation = b.generation;
  status = status_of b.outcome;
  bearer = bearer_of b.outcome;
  place = place_number b.place;
  slots = b.slots;
}
c_verdict_of (Err NoSession) = unjudged 4
c_verdict_of (Err (NoPacket fault)) = unjudged (packet_number fault)
c_verdict_of (Err TooFew) = unjudged 10

-- the verdict is what the session of a handle decides of a packet
abbrev pub IsVerdictOn : Handle → CPacket → CVerdict → Type 0
IsVerdictOn h packet v =
    (r : Result Judgement JudgeRefusal) × JudgesHandle h (direction_by_flag packet.up) packet.octets.now packet.whole r × (v ≡ c_verdict_of (in_brief r))

-- as many packets are judged as there are verdicts, and their number is returned; no other verdict
-- is written, and the handle stays
pub record AreJudged (h : Handle) (packets : List CPacket) (before after : List CVerdict) (number : ℕ) : Type 0 where
  pub number_is : number ≡ min (length packets) (length before)
  pub length_is : length after ≡ length before
  pub each : (n : ℕ) (packet : CPacket) (v : CVerdict) → n < number → IsVerdictOn h (get_or packets n packet) (get_or after n v)
  pub others : (n : ℕ) (v : CVerdict) → number ≤ n → get_or after n v ≡ get_or before n v

-- verdicts from one place to another may have been written, and no other
pub record AreAsked (before after : List CVerdict) (from end : ℕ) : Type 0 where
  pub length_is : length after ≡ length before
  pub below : (n : ℕ) (v : CVerdict) → n < from → get_or after n v ≡ get_or before n v
  pub behind : (n : ℕ) (v : CVerdict) → end ≤ n → get_or after n v ≡ get_or before n v

abbrev pub JudgesAll : Handle → List CPacket → List CVerdict → Handle → List CVerdict → ℕ → Type 0
JudgesAll old packets before new after number = (new ≡ old) × AreJudged old packets before after number
