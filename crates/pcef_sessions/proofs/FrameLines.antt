-- The lines that frames of a packet and of a flush mean: how long they are, and what they ask.
use Rattle.std.proofs.Common.{◌≡◌, ◌∙◌, ℕ, ◌+◌, ◌*◌, ◌<◌, ◌≤◌, ◌^◌, Bool, true, false, nat_lt, List, [], ◌∷◌, ◌++◌, length, Some, None, Ok, Result, decimal, refl, sym, ap, arith, length-append}
use Rattle.std.specs.Prelude.{◌&&◌, codes, not, if◌then◌else◌}
use Rattle.std.specs.List.{list_all}
use Rattle.std.specs.Str.{IsUtf8, is_utf8}
use Rattle.std.proofs.lemmas.Bool.Decides.{nat_tests}
use Rattle.std.proofs.lemmas.Fmt.{IsAscii-decimal, length-decimal-le}
use Rattle.std.proofs.lemmas.List.Elements.{All-weaker}
use Rattle.std.proofs.lemmas.List.Sums.{AllPass-from_list_all}
use Rattle.std.proofs.lemmas.Str.{IsUtf8-append, IsUtf8-from_ascii, is_utf8-from_IsUtf8}
use Rattle.std.proofs.lemmas.Str.Ascii.{IsAscii-from_all}
use Rattle.hex.specs.Hex.{IsBytes, encode_lower, is_hex_digit, lower_digits}
use Rattle.hex.proofs.HexLemmas.{decode_of-encode_lower, decode_of-ok, length-encode_with}
use Rattle.serde_json.specs.Data.{Data, number, object, string, unsigned}
use Rattle.serde_json.specs.Read.{read}
use Rattle.pcef_packet.specs.declared.header.Dir.{Dir}
use Rattle.pcef_packet.specs.declared.header.Dir.TheVariants.{Up, Down}
use Rattle.pcef_line.specs.declared.fault.LineFault.{LineFault}
use Rattle.pcef_line.specs.declared.line.Line.{Line}
use Rattle.pcef_line.specs.Canonical.{dir_part, step_text, take_text}
use Rattle.pcef_line.specs.LineOf.{LineOf}
use Rattle.pcef_line.specs.ShortLines.{members_of}
use Rattle.pcef_line.proofs.BuiltLines.{flush_read, take_read}
use Rattle.pcef_line.proofs.Canonical.{dir_text}
use Rattle.pcef_script.specs.ScriptAnswers.{DueWithin, LineDue}
use Rattle.pcef_script.specs.ScriptLines.{is_blank_line, is_space, is_too_long, line_most, within_limit}
use Rattle.pcef_script.proofs.LineReads.{text_due}
use Rattle.pcef_sessions.specs.declared.asking.Asking.TheVariants.{Script}
use Rattle.pcef_sessions.specs.declared.frame.Frame.{Frame}
use Rattle.pcef_sessions.specs.declared.frame.Frame.TheVariants as frame
use Rattle.pcef_sessions.specs.Asked.{asked_at, asked_of, asked_read, asked_within, if_utf8}
use Rattle.pcef_sessions.specs.private.FrameLines.{IsRight, line_of}
use Rattle.pcef_sessions.specs.private.Steps.{IsReadOf}

-- ---- UTF-8
abbrev is_low : ℕ → Bool
is_low b = nat_lt b 128

low_is : (b : ℕ) → is_low b ≡ true → b < 128
low_is b is = grind (arith, nat_tests)

plain_utf8 : (text : List ℕ) → list_all is_low text ≡ true → IsUtf8 text
plain_utf8 text is = IsUtf8-from_ascii text (IsAscii-from_all text (All-weaker (λ b. is_low b ≡ true) (λ b. b < 128) low_is text (AllPass-from_list_all is_low text is)))

digit_is_ascii : (x : ℕ) → is_hex_digit x ≡ true → x < 128
digit_is_ascii x h = grind arith

hex_utf8 : (packet : List ℕ) → IsBytes packet → IsUtf8 (encode_lower packet)
hex_utf8 packet bytes =
    let digits = (decode_of-ok (encode_lower packet) packet (decode_of-encode_lower packet bytes)).1 in
    IsUtf8-from_ascii (encode_lower packet) (IsAscii-from_all (encode_lower packet) (All-weaker (λ b. is_hex_digit b ≡ true) (λ b. b < 128) digit_is_ascii (encode_lower packet) digits))

number_utf8 : (worker : ℕ) → worker ≤ 15 → IsUtf8 (decimal worker)
number_utf8 worker le = IsUtf8-from_ascii (decimal worker) (IsAscii-decimal worker (omega (arith, le)))

dir_utf8 : (dir : Dir) → IsUtf8 (dir_part dir)
dir_utf8 Up = plain_utf8 (dir_part Up) refl
dir_utf8 Down = plain_utf8 (dir_part Down) refl

take_utf8 : (worker : ℕ) (dir : Dir) (packet : List ℕ) → worker ≤ 15 → IsBytes packet → IsUtf8 (take_text worker dir (encode_lower packet))
take_utf8 worker dir packet le bytes =
    let end = codes "\"}" in
    let text = dir_part dir ++ (encode_lower packet ++ end) in
    IsUtf8-append (codes "{\"do\":\"take\",\"worker\":") (decimal worker ++ 44 ∷ text) (plain_utf8 (codes "{\"do\":\"take\",\"worker\":") refl)
    (IsUtf8-append (decimal worker) (44 ∷ text) (number_utf8 worker le)
    (IsUtf8-append (44 ∷ []) text (plain_utf8 (44 ∷ []) refl)
    (IsUtf8-append (dir_part dir) (encode_lower packet ++ end) (dir_utf8 dir)
    (IsUtf8-append (encode_lower packet) end (hex_utf8 packet bytes) (plain_utf8 end refl)))))

flush_utf8 : (worker : ℕ) → worker ≤ 15 → IsUtf8 (step_text (codes "flush") worker)
flush_utf8 worker le =
    IsUtf8-append (codes "{\"do\":\"flush\",\"worker\":") (decimal worker ++ codes "}") (plain_utf8 (codes "{\"do\":\"flush\",\"worker\":") refl)
    (IsUtf8-append (decimal worker) (codes "}") (number_utf8 worker le) (plain_utf8 (codes "}") refl))

-- ---- length
number_short : (worker : ℕ) → worker ≤ 15 → length (decimal worker) ≤ 2
number_short worker le = length-decimal-le 2 worker (omega arith) (omega (arith, le)) (omega (arith, le))

dir_short : (dir : Dir) → length (dir_part dir) ≤ 23
dir_short Up = omega arith
dir_short Down = omega arith

short : (n : ℕ) → n ≤ line_most → nat_lt line_most n ≡ false
short n le = grind (arith, nat_tests)

take_short : (worker : ℕ) (dir : Dir) (packet : List ℕ) → worker ≤ 15 → length packet ≤ 65575 → is_too_long (take_text worker dir (encode_lower packet)) ≡ false
take_short worker dir packet le few =
    let end = codes "\"}" in
    let text = dir_part dir ++ (encode_lower packet ++ end) in
    let a = length-append (codes "{\"do\":\"take\",\"worker\":") (decimal worker ++ 44 ∷ text) in
    let b = length-append (decimal worker) (44 ∷ text) in
    let c = length-append (dir_part dir) (encode_lower packet ++ end) in
    let d = length-append (encode_lower packet) end in
    let digits = length-encode_with lower_digits packet in
    let small = number_short worker le in
    let way = dir_short dir in
    short (length (take_text worker dir (encode_lower packet))) (omega (arith, a, b, c, d, digits, small, way, few))

flush_short : (worker : ℕ) → worker ≤ 15 → is_too_long (step_text (codes "flush") worker) ≡ false
flush_short worker le =
    let a = length-append (decimal worker) (codes "}") in
    let small = number_short worker le in
    short (length (step_text (codes "flush") worker)) (omega (arith, a, small))

-- ---- what they ask
and_false : (x : Bool) → (x && false) ≡ false
and_false true = refl
and_false false = refl

take_filled : (worker : ℕ) (dir : Dir) (packet : List ℕ) → is_blank_line (take_text worker dir packet) ≡ false
take_filled worker dir packet = and_false (not (is_too_long (take_text worker dir packet)))

flush_filled : (worker : ℕ) → is_blank_line (step_text (codes "flush") worker) ≡ false
flush_filled worker = and_false (not (is_too_long (step_text (codes "flush") worker)))

asked_by : (line : List ℕ) (d : Data) → is_too_long line ≡ false → is_utf8 line ≡ true → read line ≡ Some d → asked_of line ≡ asked_at d
asked_by line d fits utf8 is = rw (fits, utf8, is) refl

take_asks : (dir packet : List ℕ) (worker : ℕ) → asked_at (object (members_of (Some (string dir)) (Some (string (codes "take"))) (Some (string packet)) (Some (number (unsigned worker))))) ≡ Script
unfolding asked_at
take_asks dir packet worker = refl

flush_asks : (worker : ℕ) → asked_at (object (members_of None (Some (string (codes "flush"))) None (Some (number (unsigned worker))))) ≡ Script
unfolding asked_at
flush_asks worker = refl

take_script : (worker : ℕ) (dir : Dir) (packet : List ℕ) → worker ≤ 15 → length packet ≤ 65575 → IsBytes packet → asked_of (take_text worker dir (encode_lower packet)) ≡ Script
take_script worker dir packet le few bytes =
    let line = take_text worker dir (encode_lower packet) in
    asked_by line _ (take_short worker dir packet le few) (is_utf8-from_IsUtf8 line (take_utf8 worker dir packet le bytes)) (take_read worker dir packet le bytes) ∙ take_asks (dir_text dir) (encode_lower packet) worker

flush_script : (worker : ℕ) → worker ≤ 15 → asked_of (step_text (codes "flush") worker) ≡ Script
flush_script worker le =
    let line = step_text (codes "flush") worker in
    asked_by line _ (flush_short worker le) (is_utf8-from_IsUtf8 line (flush_utf8 worker le)) (flush_read worker le) ∙ flush_asks worker

-- ---- what is due to them
due_by : (line : List ℕ) (due : Result Line LineFault) → is_too_long line ≡ false → IsUtf8 line → LineOf line due → LineDue line due
due_by line due fits utf8 read = rw fits (text_due line due utf8 read)

take_due : (worker : ℕ) (dir : Dir) (packet : List ℕ) (due : Result Line LineFault) → worker ≤ 15 → length packet ≤ 65575 → IsBytes packet → LineOf (take_text worker dir (encode_lower packet)) due
    → LineDue (take_text worker dir (encode_lower packet)) due
take_due worker dir packet due le few bytes read = due_by (take_text worker dir (encode_lower packet)) due (take_short worker dir packet le few) (take_utf8 worker dir packet le bytes) read

flush_due : (worker : ℕ) (due : Result Line LineFault) → worker ≤ 15 → LineOf (step_text (codes "flush") worker) due → LineDue (step_text (codes "flush") worker) due
flush_due worker due le read = due_by (step_text (codes "flush") worker) due (flush_short worker le) (flush_utf8 worker le) read

-- ---- a frame that was read
pub take_is_read : (worker : ℕ) (dir : Dir) (packet : List ℕ) (due : Result Line LineFault) → worker ≤ 15 → length packet ≤ 65575 → IsBytes packet → LineOf (take_text worker dir (encode_lower packet)) due
    → IsReadOf (take_text worker dir (encode_lower packet)) due
take_is_read worker dir packet due le few bytes read =
    (take_due worker dir packet due le few bytes read, take_script worker dir packet le few bytes, take_filled worker dir (encode_lower packet))

pub flush_is_read : (worker : ℕ) (due : Result Line LineFault) → worker ≤ 15 → LineOf (step_text (codes "flush") worker) due → IsReadOf (step_text (codes "flush") worker) due
flush_is_read worker due le read = (flush_due worker due le read, flush_script worker le, flush_filled worker)

pub right_filled : (f : Frame) → IsRight f → is_blank_line (line_of f) ≡ false
right_filled (frame.Line octets) h = h
right_filled (frame.Take worker dir packet) h = take_filled worker dir (encode_lower packet.now)
right_filled (frame.Flush worker) h = flush_filled worker
