-- Binary frames of many sessions, and the line that each means (own choice).
use Rattle.std.specs.Prelude.{ℕ, ◌==◌, ◌||◌, nat_lt, List, [], ◌∷◌, ◌++◌, length, take, drop, codes, Result, Ok, Err, if◌then◌else◌}
use Rattle.hex.specs.Hex.{encode_lower}
use Rattle.pcef_packet.specs.declared.header.Dir.{Dir}
use Rattle.pcef_packet.specs.declared.header.Dir.TheVariants.{Up, Down}
use Rattle.pcef_line.specs.Canonical.{step_text, take_text}
use Rattle.pcef_script.specs.ScriptLines.{has_feed, is_blank_line}
use Rattle.pcef_sessions.specs.declared.frame_fault.FrameFault.{FrameFault}
use Rattle.pcef_sessions.specs.declared.frame_fault.FrameFault.TheVariants as fault
use Rattle.pcef_sessions.specs.Addressed.{is_session_name}

-- what a frame means: a line of many sessions, or nothing, by its first fault
abbrev pub Meaning : Type 0
Meaning = Result (List ℕ) FrameFault

-- ---- the line that stands behind the name, by the frame's kind
-- kind 0: any line that a session gets
abbrev pub any_line : List ℕ → Meaning
any_line octets = if has_feed octets || is_blank_line octets then Err fault.BadLine else Ok octets

-- kind 1: a packet's octets, which the line has in hexadecimal; 65,575 of them at most
abbrev pub taken_to : ℕ → Dir → List ℕ → Meaning
taken_to worker dir packet = if nat_lt 65575 (length packet) then Err fault.LongFrame else Ok (take_text worker dir (encode_lower packet))

abbrev pub taken : ℕ → ℕ → List ℕ → Meaning
taken worker direction packet =
    if nat_lt 15 worker then Err fault.BadWorker
    else if direction == 0 then taken_to worker Up packet
    else if direction == 1 then taken_to worker Down packet
    else Err fault.BadDirection

abbrev pub take_fields : List ℕ → Meaning
take_fields (worker ∷ (direction ∷ packet)) = taken worker direction packet
take_fields other = Err fault.ShortFrame

-- kind 2: a worker
abbrev pub flushed : ℕ → Meaning
flushed worker = if nat_lt 15 worker then Err fault.BadWorker else Ok (step_text (codes "flush") worker)

abbrev pub flush_fields : List ℕ → Meaning
flush_fields [] = Err fault.ShortFrame
flush_fields (worker ∷ []) = flushed worker
flush_fields other = Err fault.LongFrame

abbrev pub line_of_kind : ℕ → List ℕ → Meaning
line_of_kind kind fields =
    if kind == 0 then any_line fields
    else if kind == 1 then take_fields fields
    else if kind == 2 then flush_fields fields
    else Err fault.UnknownKind

-- ---- the frame: the length of the name, the name, the kind, and the fields
-- a line behind the name of its session
abbrev pub named_line : List ℕ → List ℕ → List ℕ
named_line name line = name ++ 32 ∷ line

abbrev pub behind_name : List ℕ → Meaning → Meaning
behind_name name (Ok line) = Ok (named_line name line)
behind_name name (Err why) = Err why

abbrev pub named : List ℕ → List ℕ → Meaning
named name [] = Err fault.ShortFrame
named name (kind ∷ fields) = if is_session_name name then behind_name name (line_of_kind kind fields) else Err fault.BadName

abbrev pub meaning : List ℕ → Meaning
meaning [] = Err fault.ShortFrame
meaning (many ∷ octets) = named (take many octets) (drop many octets)

-- ---- answers to malformed frames
abbrev pub frame_fault_text : FrameFault → List ℕ
frame_fault_text fault.BadName = codes "{\"fault\":1,\"name\":\"BadName\"}"
frame_fault_text fault.ShortFrame = codes "{\"fault\":2,\"name\":\"ShortFrame\"}"
frame_fault_text fault.LongFrame = codes "{\"fault\":3,\"name\":\"LongFrame\"}"
frame_fault_text fault.UnknownKind = codes "{\"fault\":4,\"name\":\"UnknownKind\"}"
frame_fault_text fault.BadWorker = codes "{\"fault\":5,\"name\":\"BadWorker\"}"
frame_fault_text fault.BadDirection = codes "{\"fault\":6,\"name\":\"BadDirection\"}"
frame_fault_text fault.BadLine = codes "{\"fault\":7,\"name\":\"BadLine\"}"
frame_fault_text fault.BadLength = codes "{\"fault\":8,\"name\":\"BadLength\"}"
frame_fault_text fault.CutFrame = codes "{\"fault\":9,\"name\":\"CutFrame\"}"
