use Rattle.std.proofs.Common.{◌≡◌, drop}
use Rattle.json.specs.Print.{escape}
use Rattle.pcef_answer.proofs.written.is_plain.Given as goal

abbrev pub invariant-loop-byte : goal.invariant-loop-byte
invariant-loop-byte l = escape (drop l.byte-index l.name) ≡ drop l.byte-index l.name → escape l.name ≡ l.name
