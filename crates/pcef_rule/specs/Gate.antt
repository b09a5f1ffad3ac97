-- Gates (TS 29.214, clause 5.3.11, Flow-Status; REMOVED is left out, own choice).
use Rattle.std.specs.Prelude.{Bool, true, false}
use Rattle.pcef_packet.specs.declared.header.Dir.{Dir}
use Rattle.pcef_packet.specs.declared.header.Dir.TheVariants.{Up, Down}
use Rattle.pcef_rule.specs.declared.gate.Gate.{Gate}
use Rattle.pcef_rule.specs.declared.gate.Gate.TheVariants.{EnabledUplink, EnabledDownlink, Enabled, Disabled}

-- whether a gate lets packets of a direction pass
abbrev pub opens : Gate → Dir → Bool
opens EnabledUplink Up = true
opens EnabledUplink Down = false
opens EnabledDownlink Up = false
opens EnabledDownlink Down = true
opens Enabled dir = true
opens Disabled dir = false
