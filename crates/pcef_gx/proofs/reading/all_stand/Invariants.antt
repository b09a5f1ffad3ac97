use Rattle.std.proofs.Common.{◌≡◌, drop, map}
use Rattle.pcef_diameter.specs.Avps.{shown}
use Rattle.pcef_gx.specs.Messages.{all_stand}
use Rattle.pcef_gx.proofs.reading.all_stand.Given as goal

-- what is due of the rest is what is due of all
abbrev pub invariant-loop-code : goal.invariant-loop-code
invariant-loop-code l = all_stand (drop l.code-index l.codes) (map shown l.avps) ≡ all_stand l.codes (map shown l.avps)
