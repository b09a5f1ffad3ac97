-- The numbers and names of line faults, as answers write them (own choice).
use Rattle.std.specs.Prelude.{ℕ, List, codes, Option, Some, None}
use Rattle.pcef_filter.specs.declared.filter.FilterFault.{FilterFault}
use Rattle.pcef_filter.specs.declared.filter.FilterFault.TheVariants as filter
use Rattle.pcef_packet.specs.declared.header.PacketFault.{PacketFault}
use Rattle.pcef_packet.specs.declared.header.PacketFault.TheVariants as packet
use Rattle.pcef_rule.specs.declared.rule.RuleFault.{RuleFault}
use Rattle.pcef_rule.specs.declared.rule.RuleFault.TheVariants as rule
use Rattle.pcef_line.specs.declared.fault.LineFault.{LineFault}
use Rattle.pcef_line.specs.declared.fault.LineFault.TheVariants.{LineTooLong, NotUtf8, NotJson, NotObject, UnknownDo, UnknownField, MissingField, BadField, BadName, BadHex, BadPacket, BadFilter, BadRule, NoMemory}
use Rattle.pcef_line.specs.declared.field.Field.{Field}

abbrev pub fault_number : LineFault → ℕ
fault_number LineTooLong = 1
fault_number NotUtf8 = 2
fault_number NotJson = 3
fault_number NotObject = 4
fault_number UnknownDo = 5
fault_number UnknownField = 6
fault_number (MissingField field) = 7
fault_number (BadField field) = 8
fault_number (BadName field) = 9
fault_number (BadHex field) = 10
fault_number (BadPacket field inner) = 11
fault_number (BadFilter field inner) = 12
fault_number (BadRule field inner) = 13
fault_number NoMemory = 14

abbrev pub fault_name : LineFault → List ℕ
fault_name LineTooLong = codes "LineTooLong"
fault_name NotUtf8 = codes "NotUtf8"
fault_name NotJson = codes "NotJson"
fault_name NotObject = codes "NotObject"
fault_name UnknownDo = codes "UnknownDo"
fault_name UnknownField = codes "UnknownField"
fault_name (MissingField field) = codes "MissingField"
fault_name (BadField field) = codes "BadField"
fault_name (BadName field) = codes "BadName"
fault_name (BadHex field) = codes "BadHex"
fault_name (BadPacket field inner) = codes "BadPacket"
fault_name (BadFilter field inner) = codes "BadFilter"
fault_name (BadRule field inner) = codes "BadRule"
fault_name NoMemory = codes "NoMemory"

-- the field at fault
abbrev pub fault_field : LineFault → Option Field
fault_field (MissingField field) = Some field
fault_field (BadField field) = Some field
fault_field (BadName field) = Some field
fault_field (BadHex field) = Some field
fault_field (BadPacket field inner) = Some field
fault_field (BadFilter field inner) = Some field
fault_field (BadRule field inner) = Some field
fault_field other = None

abbrev pub packet_code : PacketFault → ℕ
packet_code packet.Empty = 1
packet_code packet.Version = 2
packet_code packet.ShortHeader = 3
packet_code packet.BadHeaderLength = 4
packet_code packet.BadTotalLength = 5

abbrev pub filter_code : FilterFault → ℕ
filter_code filter.Action = 1
filter_code filter.Direction = 2
filter_code filter.Proto = 3
filter_code filter.From = 4
filter_code filter.Source = 5
filter_code filter.SourcePorts = 6
filter_code filter.To = 7
filter_code filter.Target = 8
filter_code filter.TargetPorts = 9
filter_code filter.Rest = 10
filter_code filter.Flow = 11

abbrev pub rule_code : RuleFault → ℕ
rule_code rule.NoFilter = 1
rule_code rule.TooManyFilters = 2
rule_code rule.NoMemory = 3

-- the number of the packet's, filter's or rule's own fault
abbrev pub fault_code : LineFault → Option ℕ
fault_code (BadPacket field inner) = Some (packet_code inner)
fault_code (BadFilter field inner) = Some (filter_code inner)
fault_code (BadRule field inner) = Some (rule_code inner)
fault_code other = None
