use Rattle.std.proofs.Common.{string_bytes}
use Rattle.pcef_explain.specs.Plain.{IsPlain}
use Rattle.pcef_explain.proofs.plain.plain_text.Given as goal

abbrev pub invariant-loop-octet : goal.invariant-loop-octet
invariant-loop-octet l = IsPlain (string_bytes l.plain)
