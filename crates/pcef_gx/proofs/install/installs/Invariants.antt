use Rattle.std.proofs.Common.{◌≡◌, drop, map}
use Rattle.pcef_diameter.specs.Avps.{shown}
use Rattle.pcef_filter.specs.Reading.{reading_of}
use Rattle.pcef_gx.specs.Installs.{installs_after}
use Rattle.pcef_gx.proofs.install.installs.Given as goal

-- what is due of the rest, behind the orders so far, is what is due of all
abbrev pub invariant-loop-avp : goal.invariant-loop-avp
invariant-loop-avp l = installs_after reading_of l.orders.items (map shown (drop l.avp-index l.avps)) ≡ installs_after reading_of l.initial.orders.items (map shown l.avps)
