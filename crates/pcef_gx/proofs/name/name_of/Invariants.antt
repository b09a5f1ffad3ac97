use Rattle.std.proofs.Common.{◌≡◌, ◌++◌, drop}
use Rattle.pcef_gx.specs.Names.{spelled}
use Rattle.pcef_gx.proofs.name.name_of.Given as goal

-- what the rest is spelled as, behind the text so far, is what all is spelled as
abbrev pub invariant-loop-octet : goal.invariant-loop-octet
invariant-loop-octet g l = l.text.bytes ++ spelled (drop l.octet-index l.octets) ≡ spelled l.octets
