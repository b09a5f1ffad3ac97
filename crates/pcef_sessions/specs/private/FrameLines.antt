-- The line that a frame means, once it is read.
use Rattle.std.specs.Prelude.{ℕ, ◌≡◌, ◌≤◌, List, length, codes, true, false, Ok}
use Rattle.hex.specs.Hex.{encode_lower}
use Rattle.pcef_line.specs.Canonical.{step_text, take_text}
use Rattle.pcef_script.specs.ScriptLines.{is_blank_line}
use Rattle.pcef_sessions.specs.declared.frame.Frame.{Frame}
use Rattle.pcef_sessions.specs.declared.frame.Frame.TheVariants as frame
use Rattle.pcef_sessions.specs.Addressed.{is_session_name}
use Rattle.pcef_sessions.specs.Frames.{meaning, named_line}

abbrev pub line_of : Frame → List ℕ
line_of (frame.Line octets) = octets.now
line_of (frame.Take worker dir packet) = take_text worker dir (encode_lower packet.now)
line_of (frame.Flush worker) = step_text (codes "flush") worker

abbrev pub IsRight : Frame → Type 0
IsRight (frame.Line octets) = is_blank_line octets.now ≡ false
IsRight (frame.Take worker dir packet) = (worker ≤ 15) × (length packet.now ≤ 65575)
IsRight (frame.Flush worker) = worker ≤ 15

-- a frame is for this session, and says this to it
abbrev pub IsFrame : List ℕ → List ℕ → Frame → Type 0
IsFrame octets name f = (is_session_name name ≡ true) × IsRight f × (meaning octets ≡ Ok (named_line name (line_of f)))
