use Rattle.std.proofs.Common.{◌≡◌, [], drop, map}
use Rattle.pcef_diameter.specs.Avps.{shown}
use Rattle.pcef_gx.specs.Triggers.{triggers_after}
use Rattle.pcef_gx.proofs.triggers.triggers.Given as goal

-- what is due of the rest, behind the numbers so far, is what is due of all
abbrev pub invariant-loop-avp : goal.invariant-loop-avp
invariant-loop-avp l = triggers_after l.numbers.items (map shown (drop l.avp-index l.avps)) ≡ triggers_after [] (map shown l.avps)
