-- What a version 6 packet carries, as a function too. It only serves the proof of the reader: it is proved
-- to agree with the chains of extension headers.
use Rattle.std.specs.Prelude.{ℕ, zero, suc, ◌+◌, Bool, true, false, List, length, drop, nat_lt, Option, Some, None, if◌then◌else◌}
use Rattle.pcef_packet.specs.ExtensionHeaders.{Carried, extension_len, is_extension, is_later, next_of}

abbrev pub carried_of : ℕ → List ℕ → Bool → Carried
carried_of proto payload begins = record { proto = proto; payload = payload; begins = begins }

-- behind the header of this kind in front: the kind that it names, what follows, and whether it is a later
-- fragment's; none where the header isn't whole
unfoldable pub past : ℕ → List ℕ → Option (ℕ × List ℕ × Bool)
past kind octets =
    if nat_lt (length octets) (extension_len kind octets) then None
    else Some (next_of octets, drop (extension_len kind octets) octets, is_later kind octets)

abbrev pub after_past : (ℕ → List ℕ → Option Carried) → Option (ℕ × List ℕ × Bool) → Option Carried
after_past go None = None
after_past go (Some p) = if p.2 then Some (carried_of p.0 p.1 false) else go p.0 p.1

-- what is carried behind at most n headers
unfoldable pub carried_within : ℕ → ℕ → List ℕ → Option Carried
carried_within zero kind octets = None
carried_within (suc n) kind octets =
    if is_extension kind then after_past (λ k o. carried_within n k o) (past kind octets)
    else Some (carried_of kind octets true)

-- a header takes octets, so they bound the headers
abbrev pub carried_in : ℕ → List ℕ → Option Carried
carried_in kind octets = carried_within (length octets + 1) kind octets
