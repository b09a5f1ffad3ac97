use Rattle.std.proofs.Common.{◌≡◌, [], Ok, drop, map}
use Rattle.pcef_diameter.specs.Avps.{shown}
use Rattle.pcef_filter.specs.Reading.{reading_of}
use Rattle.pcef_gx.specs.Flows.{flows_after}
use Rattle.pcef_gx.proofs.flow.flows.Given as goal

-- what is due of the rest, behind the filters so far, is what is due of all
abbrev pub invariant-loop-avp : goal.invariant-loop-avp
invariant-loop-avp l = flows_after reading_of l.found (map shown (drop l.avp-index l.parts)) ≡ flows_after reading_of (Ok []) (map shown l.parts)
