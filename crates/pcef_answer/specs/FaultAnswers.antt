-- The answer to a line at fault: a JSON object (RFC 8259), its members in the order of their keys (own
-- choice).
use Rattle.std.specs.Prelude.{ℕ, List, codes, Option, Some, None}
use Rattle.serde_json.specs.Data.{Data, number, unsigned, string, object, member, no_members}
use Rattle.serde_json.specs.Written.{compact_text}
use Rattle.pcef_line.specs.declared.fault.LineFault.{LineFault}
use Rattle.pcef_line.specs.declared.field.Field.{Field}
use Rattle.pcef_line.specs.LineFaults.{fault_number, fault_name, fault_field, fault_code}
use Rattle.pcef_line.specs.LineWords.{field_text}

abbrev pub count : ℕ → Data
count n = number (unsigned n)

-- of the whole line
abbrev pub line_data : LineFault → Data
line_data fault =
    object (member (codes "fault") (count (fault_number fault))
    (member (codes "name") (string (fault_name fault)) no_members))

-- of a field
abbrev pub field_data : LineFault → Field → Data
field_data fault field =
    object (member (codes "fault") (count (fault_number fault))
    (member (codes "field") (string (field_text field))
    (member (codes "name") (string (fault_name fault)) no_members)))

-- of what a field's reader found
abbrev pub inner_data : LineFault → Field → ℕ → Data
inner_data fault field code =
    object (member (codes "code") (count code)
    (member (codes "fault") (count (fault_number fault))
    (member (codes "field") (string (field_text field))
    (member (codes "name") (string (fault_name fault)) no_members))))

abbrev pub line_fault_data : LineFault → Option Field → Option ℕ → Data
line_fault_data fault None code = line_data fault
line_fault_data fault (Some field) None = field_data fault field
line_fault_data fault (Some field) (Some code) = inner_data fault field code

abbrev pub fault_data : LineFault → Data
fault_data fault = line_fault_data fault (fault_field fault) (fault_code fault)

unfoldable pub fault_text : LineFault → List ℕ
fault_text fault = compact_text (fault_data fault)
