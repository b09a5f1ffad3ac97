-- Octets of AVPs in parts.
use Rattle.std.proofs.Common.{◌≡◌, ◌++◌, List}
use Rattle.std.proofs.lemmas.List.Concat.{flat_map-append}
use Rattle.pcef_diameter.specs.Avps.{Shown}
use Rattle.pcef_diameter.specs.Spellings.{avp_octets, avps_octets}

pub parts_octets : (front behind : List Shown) → avps_octets (front ++ behind) ≡ avps_octets front ++ avps_octets behind
parts_octets front behind = flat_map-append avp_octets front behind
