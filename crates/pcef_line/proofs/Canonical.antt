-- A line of `take` in its canonical spelling is read as its four members.
use Rattle.std.proofs.Common.{◌≡◌, ◌∙◌, ◌++◌, ℕ, ◌<◌, ◌≤◌, ◌^◌, List, [], ◌∷◌, true, Some, None, Ok, Err, Result, decimal, refl, sym, ap, arith, append_assoc, append-nil, option_and_then}
use Rattle.std.proofs.lemmas.List.Elements.{All-head, All-tail}
use Rattle.std.specs.Prelude.{codes}
use Rattle.std.specs.List.{AllPass}
use Rattle.hex.specs.Hex.{decode_of, is_hex_digit}
use Rattle.hex.specs.declared.error.FromHexError.{FromHexError}
use Rattle.hex.proofs.HexLemmas.{decode_of-ok}
use Rattle.json.specs.Token.{Token}
use Rattle.json.specs.Json as json
use Rattle.json.specs.Tree.{depth, json_tokens, HasNumbers}
use Rattle.json.specs.Print.{print, escape}
use Rattle.json.proofs.OnLiterals.{json_on_literals}
use Rattle.json.proofs.Printed.Decimals.{IsNumber-decimal}
use Rattle.json.proofs.Printed.Strings.{escape_byte_plain}
use Rattle.json.proofs.Printed.Tokens.{tokens-print}
use Rattle.json.proofs.Printed.Trees.{ArePrintable-json_tokens, value-json_tokens}
use Rattle.serde_json.specs.Data.{string, number, unsigned, object}
use Rattle.serde_json.specs.Read.{max_depth, number_of, of_json, read}
use Rattle.serde_json.proofs.Numbers.{number_of-decimal}
use Rattle.pcef_model.specs.declared.step.Step.TheVariants.{Flush, Refresh, Take}
use Rattle.pcef_packet.specs.declared.header.Dir.{Dir}
use Rattle.pcef_packet.specs.declared.header.Dir.TheVariants.{Up, Down}
use Rattle.pcef_packet.specs.declared.header.Header.{Header}
use Rattle.pcef_packet.specs.HeaderOf.{header_of}
use Rattle.pcef_filter.specs.Reading.{reading_of}
use Rattle.pcef_base.specs.Readings.{◌>>=◌, under}
use Rattle.pcef_line.specs.declared.fault.LineFault.TheVariants.{BadHex, BadPacket}
use Rattle.pcef_line.specs.declared.field.Field.TheVariants as field
use Rattle.pcef_line.specs.declared.line.Line.TheVariants.{Step}
use Rattle.pcef_line.specs.Canonical.{dir_part, step_text, take_text}
use Rattle.pcef_line.specs.LineOf.{line_by}
use Rattle.pcef_line.specs.ShortLines.{members_of, packet_of, taken}
use Rattle.pcef_line.proofs.ShortAnswers.{flush_is, read_as, refresh_is, take_is}

-- ---- hexadecimal digits are not escaped

digit_is_plain : (x : ℕ) → is_hex_digit x ≡ true → (32 ≤ x) × (x ≡ 34 → ⊥) × (x ≡ 92 → ⊥)
digit_is_plain x h = (grind arith, λ e. cc (sym h ∙ ap is_hex_digit e), λ e. cc (sym h ∙ ap is_hex_digit e))

pub escape_digits : (s : List ℕ) → AllPass is_hex_digit s → escape s ≡ s
escape_digits [] h = refl
escape_digits (x ∷ xs) h =
    let p = digit_is_plain x (All-head (λ y. is_hex_digit y ≡ true) x xs h) in
    let rest = escape_digits xs (All-tail (λ y. is_hex_digit y ≡ true) x xs h) in
    λ i. escape_byte_plain x p.1 p.2 p.0 i ++ rest i

decoded : (r : Result (List ℕ) FromHexError) (dir : Dir) (h : Header) → (under (λ e. BadHex field.Packet) r >>= λ octets. under (BadPacket field.Packet) (header_of dir octets)) ≡ Ok h → (octets : List ℕ) × (r ≡ Ok octets)
decoded (Ok octets) dir h e = (octets, refl)
decoded (Err fault) dir h e = absurd (cc)

packet_is_plain : (dir : Dir) (packet : List ℕ) (h : Header) → packet_of field.Packet dir packet ≡ Ok h → escape packet ≡ packet
packet_is_plain dir packet h e = let d = decoded (decode_of packet) dir h e in escape_digits packet (decode_of-ok packet d.0 d.1).1

-- ---- a value is read as it is written, with its members in any order

pub read_written : (j : json.Json) → HasNumbers j → depth j ≤ max_depth → read (print (json_tokens j)) ≡ of_json j
read_written j numbers shallow =
    let whole = λ (ts : List Token). option_and_then of_json (option_and_then (λ p. json.if_last p.0 p.1) (json.value max_depth ts)) in
    ap whole (tokens-print (json_tokens j) (ArePrintable-json_tokens j numbers) ∙ sym (append-nil (json_tokens j)))
    ∙ ap (λ o. option_and_then of_json (option_and_then (λ p. json.if_last p.0 p.1) o)) (value-json_tokens j max_depth [] shallow)

-- ---- a `take`

abbrev pub dir_text : Dir → List ℕ
dir_text Up = codes "up"
dir_text Down = codes "down"

abbrev take_json : List ℕ → List ℕ → List ℕ → json.Json
take_json digits dir packet =
    json.object (json.member (codes "do") (json.string (codes "take")) (json.member (codes "worker") (json.number digits) (json.member (codes "dir") (json.string dir) (json.member (codes "packet") (json.string packet) json.no_members))))

closes : (packet : List ℕ) → escape packet ≡ packet → (escape packet ++ 34 ∷ []) ++ 125 ∷ [] ≡ packet ++ codes "\"}"
closes packet e = append_assoc (escape packet) (34 ∷ []) (125 ∷ []) ∙ ap (λ p. p ++ codes "\"}") e

printed : (worker : ℕ) (dir : Dir) (packet : List ℕ) → escape packet ≡ packet → print (json_tokens (take_json (decimal worker) (dir_text dir) packet)) ≡ take_text worker dir packet
unfolding json_on_literals
printed worker Up packet e = ap (λ s. codes "{\"do\":\"take\",\"worker\":" ++ (decimal worker ++ 44 ∷ (dir_part Up ++ s))) (closes packet e)
printed worker Down packet e = ap (λ s. codes "{\"do\":\"take\",\"worker\":" ++ (decimal worker ++ 44 ∷ (dir_part Down ++ s))) (closes packet e)

members_are : (digits dir packet : List ℕ) (worker : ℕ) → number_of digits ≡ Some (unsigned worker)
    → of_json (take_json digits dir packet) ≡ Some (object (members_of (Some (string dir)) (Some (string (codes "take"))) (Some (string packet)) (Some (number (unsigned worker)))))
members_are digits dir packet worker e = rw e refl

-- a text of that spelling is read as that object
pub spelled : (worker : ℕ) (dir : Dir) (packet text : List ℕ) → worker ≤ 15 → escape packet ≡ packet → text ≡ take_text worker dir packet
    → read text ≡ Some (object (members_of (Some (string (dir_text dir))) (Some (string (codes "take"))) (Some (string packet)) (Some (number (unsigned worker)))))
spelled worker dir packet text le plain is =
    let small : worker < 2 ^ 64 = omega (arith, le) in
    ap read (is ∙ sym (printed worker dir packet plain))
    ∙ read_written (take_json (decimal worker) (dir_text dir) packet) (tt, (IsNumber-decimal worker small, (tt, (tt, tt)))) (omega arith)
    ∙ members_are (decimal worker) (dir_text dir) packet worker (number_of-decimal worker small)

-- ---- the line

taken_is : (worker : ℕ) (dir : Dir) (packet : List ℕ) (h : Header) → packet_of field.Packet dir packet ≡ Ok h → taken (dir_text dir) packet worker ≡ Ok (Step (Take worker h))
taken_is worker Up packet h e = ap (λ r. r >>= λ header. Ok (Step (Take worker header))) e
taken_is worker Down packet h e = ap (λ r. r >>= λ header. Ok (Step (Take worker header))) e

pub take_due : (worker : ℕ) (dir : Dir) (packet text : List ℕ) (h : Header) → worker ≤ 15 → text ≡ take_text worker dir packet → packet_of field.Packet dir packet ≡ Ok h
    → line_by reading_of text ≡ Ok (Step (Take worker h))
take_due worker dir packet text h le is e =
    read_as text _ (spelled worker dir packet text le (packet_is_plain dir packet h e) is) ∙ take_is (dir_text dir) packet worker le ∙ taken_is worker dir packet h e

-- ---- the words that have the worker alone

abbrev step_json : List ℕ → List ℕ → json.Json
step_json word digits = json.object (json.member (codes "do") (json.string word) (json.member (codes "worker") (json.number digits) json.no_members))

pub flush_printed : (worker : ℕ) → print (json_tokens (step_json (codes "flush") (decimal worker))) ≡ step_text (codes "flush") worker
unfolding json_on_literals
flush_printed worker = refl

refresh_printed : (worker : ℕ) → print (json_tokens (step_json (codes "refresh") (decimal worker))) ≡ step_text (codes "refresh") worker
unfolding json_on_literals
refresh_printed worker = refl

step_members : (word digits : List ℕ) (worker : ℕ) → number_of digits ≡ Some (unsigned worker) → of_json (step_json word digits) ≡ Some (object (members_of None (Some (string word)) None (Some (number (unsigned worker)))))
step_members word digits worker e = rw e refl

pub step_spelled : (word text : List ℕ) (worker : ℕ) → worker ≤ 15 → print (json_tokens (step_json word (decimal worker))) ≡ text
    → read text ≡ Some (object (members_of None (Some (string word)) None (Some (number (unsigned worker)))))
step_spelled word text worker le is =
    let small : worker < 2 ^ 64 = omega (arith, le) in
    ap read (sym is) ∙ read_written (step_json word (decimal worker)) (tt, (IsNumber-decimal worker small, tt)) (omega arith) ∙ step_members word (decimal worker) worker (number_of-decimal worker small)

ends : (front rest digits : List ℕ) (worker : ℕ) → rest ≡ front ++ digits → digits ≡ decimal worker → rest ++ codes "}" ≡ front ++ (decimal worker ++ codes "}")
ends front rest digits worker is spelled = ap (λ r. r ++ codes "}") (is ∙ ap (λ d. front ++ d) spelled) ∙ append_assoc front (decimal worker) (codes "}")

pub flush_due : (worker : ℕ) (text rest digits : List ℕ) → worker ≤ 15 → text ≡ rest ++ codes "}" → rest ≡ codes "{\"do\":\"flush\",\"worker\":" ++ digits → digits ≡ decimal worker
    → line_by reading_of text ≡ Ok (Step (Flush worker))
flush_due worker text rest digits le whole is spelled =
    read_as text _ (step_spelled (codes "flush") text worker le (flush_printed worker ∙ sym (whole ∙ ends (codes "{\"do\":\"flush\",\"worker\":") rest digits worker is spelled))) ∙ flush_is worker le

pub refresh_due : (worker : ℕ) (text rest digits : List ℕ) → worker ≤ 15 → text ≡ rest ++ codes "}" → rest ≡ codes "{\"do\":\"refresh\",\"worker\":" ++ digits → digits ≡ decimal worker
    → line_by reading_of text ≡ Ok (Step (Refresh worker))
refresh_due worker text rest digits le whole is spelled =
    read_as text _ (step_spelled (codes "refresh") text worker le (refresh_printed worker ∙ sym (whole ∙ ends (codes "{\"do\":\"refresh\",\"worker\":") rest digits worker is spelled))) ∙ refresh_is worker le
