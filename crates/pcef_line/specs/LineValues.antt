-- The values of fields, each with its faults in their order. A fault names the field itself, or the
-- one whose object it stands in (own choice; JSON: RFC 8259).
use Rattle.std.specs.Prelude.{ℕ, List, length, codes, Bool, ◌&&◌, Option, Some, None, option_and_then, is_some, Result, if◌then◌else◌}
use Rattle.std.specs.Str.{bytes_eq}
use Rattle.std.specs.List.{list_all}
use Rattle.hex.specs.Hex.{decode_of}
use Rattle.serde_json.specs.Data.{Data, Items}
use Rattle.serde_json.specs.Find.{get, as_str, as_bool, as_number, as_object, as_array, as_u64}
use Rattle.pcef_packet.specs.declared.header.Dir.{Dir}
use Rattle.pcef_packet.specs.declared.header.Dir.TheVariants.{Up, Down}
use Rattle.pcef_packet.specs.declared.header.Header.{Header}
use Rattle.pcef_packet.specs.HeaderOf.{header_of}
use Rattle.pcef_line.specs.declared.fault.LineFault.{LineFault}
use Rattle.pcef_line.specs.declared.fault.LineFault.TheVariants.{MissingField, BadField, BadName, BadHex, BadPacket, NoMemory}
use Rattle.pcef_line.specs.declared.field.Field.{Field}
use Rattle.pcef_line.specs.LineWords.{field_text}
use Rattle.pcef_base.specs.Readings.{◌>>=◌, or_fault, passing, under, is_from_to, GivesUnless}

-- what a reader of lines answers is what is due, unless memory ran out
abbrev pub Gives : {X Y : Type 0} → (X → Y) → Result X LineFault → Result Y LineFault → Type 0
Gives = GivesUnless NoMemory

unfoldable pub member_at : Field → Field → Data → Result Data LineFault
member_at name reported d = or_fault (MissingField reported) (get (field_text name) d)

unfoldable pub text_at : Field → Field → Data → Result (List ℕ) LineFault
text_at name reported d = do
  value ← member_at name reported d
  or_fault (BadField reported) (as_str value)

unfoldable pub flag_at : Field → Field → Data → Result Bool LineFault
flag_at name reported d = do
  value ← member_at name reported d
  or_fault (BadField reported) (as_bool value)

-- a JSON number without fraction and exponent, not negative and below 2^64
unfoldable pub number_at : Field → Field → ℕ → ℕ → Data → Result ℕ LineFault
number_at name reported least most d = do
  value ← member_at name reported d
  number ← or_fault (BadField reported) (option_and_then as_u64 (as_number value))
  passing (is_from_to least most) (BadField reported) number

unfoldable pub object_at : Field → Data → Result Data LineFault
object_at name d = do
  value ← member_at name name d
  passing (λ v. is_some (as_object v)) (BadField name) value

unfoldable pub list_at : Field → Data → Result Items LineFault
list_at name d = do
  value ← member_at name name d
  or_fault (BadField name) (as_array value)

-- `IsName` of rules' names as a test: 1 to 64 visible ASCII characters
abbrev pub is_visible : ℕ → Bool
is_visible = is_from_to 33 126

abbrev pub is_name : List ℕ → Bool
is_name text = is_from_to 1 64 (length text) && list_all is_visible text

unfoldable pub name_at : Field → Data → Result (List ℕ) LineFault
name_at name d = do
  text ← text_at name name d
  passing is_name (BadName name) text

abbrev pub dir_of : List ℕ → Option Dir
dir_of text =
    if bytes_eq text (codes "up") then Some Up
    else if bytes_eq text (codes "down") then Some Down
    else None

unfoldable pub dir_at : Field → Data → Result Dir LineFault
dir_at name d = do
  text ← text_at name name d
  or_fault (BadField name) (dir_of text)

-- hexadecimal of either case, two digits an octet (RFC 4648, section 8)
unfoldable pub octets_at : Field → Data → Result (List ℕ) LineFault
octets_at name d = do
  text ← text_at name name d
  under (λ e. BadHex name) (decode_of text)

unfoldable pub packet_at : Field → Dir → Data → Result Header LineFault
packet_at name dir d = do
  octets ← octets_at name d
  under (BadPacket name) (header_of dir octets)
