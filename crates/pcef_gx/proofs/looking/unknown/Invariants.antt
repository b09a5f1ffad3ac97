use Rattle.std.proofs.Common.{◌≡◌, drop, find, map}
use Rattle.pcef_diameter.specs.Avps.{shown}
use Rattle.pcef_gx.specs.Readings.{is_unknown_avp}
use Rattle.pcef_gx.proofs.looking.unknown.Given as goal

-- the first of the rest is the first of all
abbrev pub invariant-loop-avp : goal.invariant-loop-avp
invariant-loop-avp l = find is_unknown_avp (map shown (drop l.avp-index l.avps)) ≡ find is_unknown_avp (map shown l.avps)
