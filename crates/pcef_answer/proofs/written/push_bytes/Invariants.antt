use Rattle.std.proofs.Common.{◌≡◌, ◌++◌, drop, string_bytes}
use Rattle.json.specs.Print.{escape}
use Rattle.pcef_answer.proofs.written.push_bytes.Given as goal

abbrev pub invariant-loop-byte : goal.invariant-loop-byte
invariant-loop-byte l = string_bytes l.text ++ escape (drop l.byte-index l.name) ≡ string_bytes l.fn.text ++ escape l.name
