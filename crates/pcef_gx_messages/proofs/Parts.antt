-- Octets of AVPs in parts.
use Rattle.std.proofs.Common.{◌≡◌, ◌≤◌, ◌+◌, ◌++◌, ℕ, List, [], length, Result, Ok, Err, ap, arith, append_assoc, refl, sym, ◌∙◌}
use Rattle.std.specs.Prelude.{OnOk}
use Rattle.std.specs.declared.alloc.AllocError.{AllocError}
use Rattle.std.proofs.lemmas.List.{length-append}
use Rattle.pcef_diameter.specs.Avps.{Shown}
use Rattle.pcef_diameter.specs.Spellings.{avp_len, avp_octets, avps_octets}
use Rattle.pcef_diameter.proofs.Again.{avp_octets_len}
use Rattle.pcef_diameter.proofs.Parts.{parts_octets}
use Rattle.pcef_diameter.specs.Headers.{header_octets}
use Rattle.pcef_diameter.specs.Numbers.{octets_of}
use Rattle.pcef_diameter.specs.declared.header.MessageHeader.{MessageHeader}

twenty : (h : MessageHeader) → length (header_octets h) ≡ 20
unfolding octets_of
twenty h = refl

pub both_written : (old mid new : List ℕ) (front behind : List Shown) → mid ≡ old ++ avps_octets front → new ≡ mid ++ avps_octets behind → new ≡ old ++ avps_octets (front ++ behind)
both_written old mid new front behind first written =
    written ∙ ap (λ octets. octets ++ avps_octets behind) first ∙ append_assoc old (avps_octets front) (avps_octets behind) ∙ ap (λ octets. old ++ octets) (sym (parts_octets front behind))

-- a header has 20 octets
pub header_room : (h : MessageHeader) (new old : List ℕ) → new ≡ old ++ header_octets h → length new ≡ length old + 20
header_room h new old written = omega (arith, ap length written, length-append old (header_octets h), twenty h)

-- an AVP alone takes its length and up to three octets more
pub failed_room_most : (avp : Shown) (new old : List ℕ) → old ≡ [] → new ≡ old ++ avp_octets avp → length new ≤ avp_len avp + 3
failed_room_most avp new old empty written =
    omega (arith, ap length written, length-append old (avp_octets avp), ap length empty, avp_octets_len avp)
