-- A line's members where each value is a string or a number, and the fields that are kept of them.
use Rattle.std.specs.Prelude.{ℕ, List, codes, Option, Some, None, option_map, option_and_then, Result, Ok}
use Rattle.json.specs.Token.{Token}
use Rattle.json.specs.Json as json
use Rattle.serde_json.specs.Data.{Data, string, number, unsigned, Members, no_members, member}
use Rattle.serde_json.specs.Read.{number_of, of_json, max_depth}
use Rattle.hex.specs.Hex.{decode_of}
use Rattle.pcef_packet.specs.declared.header.Dir.{Dir}
use Rattle.pcef_packet.specs.declared.header.Header.{Header}
use Rattle.pcef_packet.specs.HeaderOf.{header_of}
use Rattle.pcef_line.specs.declared.fault.LineFault.{LineFault}
use Rattle.pcef_line.specs.declared.fault.LineFault.TheVariants.{BadField, BadHex, BadPacket}
use Rattle.pcef_line.specs.declared.field.Field.{Field}
use Rattle.pcef_line.specs.declared.field.Field.TheVariants as field
use Rattle.pcef_line.specs.declared.line.Line.{Line}
use Rattle.pcef_line.specs.declared.line.Line.TheVariants.{Step}
use Rattle.pcef_model.specs.declared.step.Step.TheVariants as step
use Rattle.pcef_line.specs.LineValues.{dir_of}
use Rattle.pcef_line.specs.declared.short.Fields.{Fields}
use Rattle.pcef_base.specs.Readings.{◌>>=◌, or_fault, under}

-- the value that a list of tokens is
abbrev pub read_tokens : List Token → Option Data
read_tokens ts = option_and_then of_json (option_and_then (λ p. json.if_last p.0 p.1) (json.value max_depth ts))

-- the value that one token is, of a string or a number
abbrev pub plain_of : Token → Option Data
plain_of Token.begin_object = None
plain_of Token.end_object = None
plain_of Token.begin_array = None
plain_of Token.end_array = None
plain_of (Token.key s) = None
plain_of (Token.string s) = Some (string s)
plain_of (Token.number s) = option_map number (number_of s)
plain_of (Token.boolean b) = None
plain_of Token.null = None
plain_of Token.bad = None

abbrev pub with_member : List ℕ → Option Data → Members → Members
with_member k None ms = ms
with_member k (Some d) ms = member k d ms

-- an object's members, in the order of their keys
abbrev pub members_of : Option Data → Option Data → Option Data → Option Data → Members
members_of dir word packet worker = with_member (codes "dir") dir (with_member (codes "do") word (with_member (codes "packet") packet (with_member (codes "worker") worker no_members)))

abbrev pub found_in : Fields → Members
found_in f =
    members_of (option_map (λ s. string s.now) f.dir) (option_map (λ s. string s.now) f.word) (option_map (λ s. string s.now) f.packet) (option_map (λ n. number (unsigned n)) f.worker)

-- the header that a field's text spells
abbrev pub packet_of : Field → Dir → List ℕ → Result Header LineFault
packet_of name dir text = under (λ e. BadHex name) (decode_of text) >>= λ octets. under (BadPacket name) (header_of dir octets)

abbrev pub taken : List ℕ → List ℕ → ℕ → Result Line LineFault
taken dir packet worker = or_fault (BadField field.Dir) (dir_of dir) >>= λ d. packet_of field.Packet d packet >>= λ header. Ok (Step (step.Take worker header))
