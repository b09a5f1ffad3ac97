-- What lies at a handle over Gx (own choice).
use Rattle.std.specs.Prelude.{◌≡◌, None}
use Rattle.pcef_c.specs.Named.{nothing_named}
use Rattle.pcef_c.specs.declared.gx_port.CLeft.{CLeft}
use Rattle.pcef_c.specs.declared.gx_port.GxPort.{GxPort}

abbrev pub nothing_left : CLeft
nothing_left = record { release = 0; result_code = 0; has_release = 0; has_result_code = 0; has_triggers = 0 }

abbrev pub IsEmptyPort : GxPort → Type 0
IsEmptyPort p = (p.gx.dialogue ≡ None) × (p.names ≡ nothing_named) × (p.left ≡ nothing_left)
