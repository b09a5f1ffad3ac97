-- What an answer requires of the header of its request.
use Rattle.std.proofs.Common.{◌≡◌, ◌<◌, ◌^◌, ℕ, Bool, true, false, cond, List, Some, None, sym, subst, arith}
use Rattle.pcef_diameter.specs.Headers.{header_of}
use Rattle.pcef_diameter.specs.declared.header.MessageHeader.{MessageHeader}

found_header : (short : Bool) (found due : MessageHeader) → cond short None (Some found) ≡ Some due → found ≡ due
found_header true found due e = absurd (cc e)
found_header false found due e = cc e

-- A command that was read has three octets.
pub command_fits : (octets : List ℕ) (h : MessageHeader) → Some h ≡ header_of octets → h.command < 2 ^ 24
unfolding header_of
command_fits octets h e =
    subst (λ (x : MessageHeader). x.command < 2 ^ 24) (found_header _ _ h (sym e)) (omega arith)
