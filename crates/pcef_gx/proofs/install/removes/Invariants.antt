use Rattle.std.proofs.Common.{◌≡◌, drop, map}
use Rattle.pcef_diameter.specs.Avps.{shown}
use Rattle.pcef_gx.specs.Installs.{removes_after}
use Rattle.pcef_gx.proofs.install.removes.Given as goal

-- what is due of the rest, behind the orders so far, is what is due of all
abbrev pub invariant-loop-avp : goal.invariant-loop-avp
invariant-loop-avp l = removes_after l.orders.items (map shown (drop l.avp-index l.avps)) ≡ removes_after l.initial.orders.items (map shown l.avps)
