use Rattle.std.proofs.Common.{◌≡◌, drop, map}
use Rattle.pcef_diameter.specs.Avps.{shown}
use Rattle.pcef_gx.specs.Installs.{parts_removed}
use Rattle.pcef_gx.proofs.install.parts_removed.Given as goal

-- what is due of the rest, behind the orders so far, is what is due of all
abbrev pub invariant-loop-part : goal.invariant-loop-part
invariant-loop-part l = parts_removed l.orders.items (map shown (drop l.part-index l.parts)) ≡ parts_removed l.initial.orders.items (map shown l.parts)
