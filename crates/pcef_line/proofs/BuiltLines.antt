-- A line that is built of its fields is what its canonical spelling is read as.
use Rattle.std.proofs.Common.{◌≡◌, ◌∙◌, ℕ, ◌≤◌, List, Some, None, Ok, Err, Result, refl, sym, ap, subst}
use Rattle.std.specs.Prelude.{codes}
use Rattle.hex.specs.Hex.{IsBytes, encode_lower}
use Rattle.hex.proofs.HexLemmas.{decode_of-encode_lower, decode_of-ok}
use Rattle.json.specs.Print.{escape}
use Rattle.serde_json.specs.Data.{string, number, unsigned, object}
use Rattle.serde_json.specs.Read.{read}
use Rattle.pcef_model.specs.declared.step.Step.TheVariants.{Flush, Take}
use Rattle.pcef_packet.specs.declared.header.Dir.{Dir}
use Rattle.pcef_packet.specs.declared.header.Dir.TheVariants.{Up, Down}
use Rattle.pcef_packet.specs.declared.header.Header.{Header}
use Rattle.pcef_packet.specs.declared.header.PacketFault.{PacketFault}
use Rattle.pcef_packet.specs.HeaderOf.{header_of}
use Rattle.pcef_base.specs.Readings.{◌>>=◌, under}
use Rattle.pcef_line.specs.declared.fault.LineFault.{LineFault}
use Rattle.pcef_line.specs.declared.fault.LineFault.TheVariants.{BadPacket}
use Rattle.pcef_line.specs.declared.field.Field.TheVariants as field
use Rattle.pcef_line.specs.declared.line.Line.{Line}
use Rattle.pcef_line.specs.declared.line.Line.TheVariants.{Step}
use Rattle.pcef_line.specs.Canonical.{step_text, take_text}
use Rattle.pcef_line.specs.LineOf.{LineOf}
use Rattle.pcef_line.specs.ShortLines.{members_of, packet_of, taken}
use Rattle.pcef_line.proofs.Canonical.{dir_text, escape_digits, flush_printed, spelled, step_spelled}
use Rattle.pcef_line.proofs.LineLaws.{due_by}
use Rattle.pcef_line.proofs.ShortAnswers.{flush_is, read_as, take_is}

hex_is_plain : (packet : List ℕ) → IsBytes packet → escape (encode_lower packet) ≡ encode_lower packet
hex_is_plain packet bytes = escape_digits (encode_lower packet) (decode_of-ok (encode_lower packet) packet (decode_of-encode_lower packet bytes)).1

-- the object that a `take` is read as
pub take_read : (worker : ℕ) (dir : Dir) (packet : List ℕ) → worker ≤ 15 → IsBytes packet
    → read (take_text worker dir (encode_lower packet)) ≡ Some (object (members_of (Some (string (dir_text dir))) (Some (string (codes "take"))) (Some (string (encode_lower packet))) (Some (number (unsigned worker)))))
take_read worker dir packet le bytes = spelled worker dir (encode_lower packet) (take_text worker dir (encode_lower packet)) le (hex_is_plain packet bytes) refl

pub flush_read : (worker : ℕ) → worker ≤ 15 → read (step_text (codes "flush") worker) ≡ Some (object (members_of None (Some (string (codes "flush"))) None (Some (number (unsigned worker)))))
flush_read worker le = step_spelled (codes "flush") (step_text (codes "flush") worker) worker le (flush_printed worker)

abbrev of_header : ℕ → Dir → List ℕ → Result Line LineFault
of_header worker dir packet = under (BadPacket field.Packet) (header_of dir packet) >>= λ header. Ok (Step (Take worker header))

packet_is : (dir : Dir) (packet : List ℕ) → IsBytes packet → packet_of field.Packet dir (encode_lower packet) ≡ under (BadPacket field.Packet) (header_of dir packet)
packet_is dir packet bytes = rw (decode_of-encode_lower packet bytes) refl

taken_is : (worker : ℕ) (dir : Dir) (packet : List ℕ) → IsBytes packet → taken (dir_text dir) (encode_lower packet) worker ≡ of_header worker dir packet
taken_is worker Up packet bytes = ap (λ r. r >>= λ header. Ok (Step (Take worker header))) (packet_is Up packet bytes)
taken_is worker Down packet bytes = ap (λ r. r >>= λ header. Ok (Step (Take worker header))) (packet_is Down packet bytes)

take_built : (worker : ℕ) (dir : Dir) (packet : List ℕ) → worker ≤ 15 → IsBytes packet → LineOf (take_text worker dir (encode_lower packet)) (of_header worker dir packet)
take_built worker dir packet le bytes =
    let text = take_text worker dir (encode_lower packet) in
    subst (LineOf text) (read_as text _ (take_read worker dir packet le bytes) ∙ take_is (dir_text dir) (encode_lower packet) worker le ∙ taken_is worker dir packet bytes) (due_by text)

pub take_header : (worker : ℕ) (dir : Dir) (packet : List ℕ) (header : Header) → worker ≤ 15 → IsBytes packet → Ok header ≡ header_of dir packet
    → LineOf (take_text worker dir (encode_lower packet)) (Ok (Step (Take worker header)))
take_header worker dir packet header le bytes is =
    subst (λ (r : Result Header PacketFault). LineOf (take_text worker dir (encode_lower packet)) (under (BadPacket field.Packet) r >>= λ header. Ok (Step (Take worker header)))) (sym is) (take_built worker dir packet le bytes)

pub take_fault : (worker : ℕ) (dir : Dir) (packet : List ℕ) (fault : PacketFault) → worker ≤ 15 → IsBytes packet → Err fault ≡ header_of dir packet
    → LineOf (take_text worker dir (encode_lower packet)) (Err (BadPacket field.Packet fault))
take_fault worker dir packet fault le bytes is =
    subst (λ (r : Result Header PacketFault). LineOf (take_text worker dir (encode_lower packet)) (under (BadPacket field.Packet) r >>= λ header. Ok (Step (Take worker header)))) (sym is) (take_built worker dir packet le bytes)

pub flush_built : (worker : ℕ) → worker ≤ 15 → LineOf (step_text (codes "flush") worker) (Ok (Step (Flush worker)))
flush_built worker le =
    let text = step_text (codes "flush") worker in
    subst (LineOf text) (read_as text _ (flush_read worker le) ∙ flush_is worker le) (due_by text)
