use Rattle.std.proofs.Common.{◌≡◌, None, drop, map}
use Rattle.std.specs.Prelude.{option_map}
use Rattle.pcef_diameter.specs.Avps.{shown}
use Rattle.pcef_gx.specs.Readings.{only_after}
use Rattle.pcef_gx.proofs.looking.only.Given as goal

-- what is due of the rest, after what was found, is what is due of all
abbrev pub invariant-loop-avp : goal.invariant-loop-avp
invariant-loop-avp l = only_after l.code (option_map shown l.found) (map shown (drop l.avp-index l.avps)) ≡ only_after l.code None (map shown l.avps)
