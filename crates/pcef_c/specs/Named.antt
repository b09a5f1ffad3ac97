-- What a host says of a session over Gx (own choice).
use Rattle.std.specs.Prelude.{ℕ, ◌==◌, List, [], Option, Some, None, if◌then◌else◌}
use Rattle.pcef_c.specs.declared.gx_port.Part.{Part}
use Rattle.pcef_c.specs.declared.gx_port.Part.TheVariants as part

-- what a host says of a session
pub record Named : Type 0 where
  pub session_id : List ℕ
  pub origin_host : List ℕ
  pub origin_realm : List ℕ
  pub destination_realm : List ℕ
  pub avps : List ℕ

abbrev pub nothing_named : Named
nothing_named = record { session_id = []; origin_host = []; origin_realm = []; destination_realm = []; avps = [] }

abbrev pub named_with : Part → List ℕ → Named → Named
named_with part.SessionId octets n = record n { session_id = octets }
named_with part.OriginHost octets n = record n { origin_host = octets }
named_with part.OriginRealm octets n = record n { origin_realm = octets }
named_with part.DestinationRealm octets n = record n { destination_realm = octets }
named_with part.Avps octets n = record n { avps = octets }

-- the parts by their numbers
abbrev pub named_part : ℕ → Option Part
named_part n =
    if n == 0 then Some part.SessionId
    else if n == 1 then Some part.OriginHost
    else if n == 2 then Some part.OriginRealm
    else if n == 3 then Some part.DestinationRealm
    else if n == 4 then Some part.Avps
    else None
