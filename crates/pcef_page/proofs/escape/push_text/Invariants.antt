use Rattle.std.proofs.Common.{◌≡◌, ◌++◌, string_bytes, take}
use Rattle.pcef_page.specs.Escaping.{escaped}
use Rattle.pcef_page.proofs.escape.push_text.Given as goal

abbrev pub invariant-loop-octet : goal.invariant-loop-octet
invariant-loop-octet l = string_bytes l.page ≡ string_bytes l.fn.page ++ escaped (take l.octet-index l.octet-items)
