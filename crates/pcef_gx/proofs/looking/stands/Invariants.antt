use Rattle.std.proofs.Common.{◌≡◌, drop, map}
use Rattle.pcef_diameter.specs.Avps.{shown}
use Rattle.pcef_gx.specs.Readings.{stands}
use Rattle.pcef_gx.proofs.looking.stands.Given as goal

-- one of the code stands in the rest where one stands in all
abbrev pub invariant-loop-avp : goal.invariant-loop-avp
invariant-loop-avp l = stands l.code (map shown (drop l.avp-index l.avps)) ≡ stands l.code (map shown l.avps)
