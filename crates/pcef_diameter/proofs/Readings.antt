-- What it takes to read AVPs one after another.
use Rattle.std.proofs.Common.{◌≡◌, ◌<◌, ◌∙◌, ℕ, List, [], ◌∷◌, length, eqb, false, Option, Some, None, refl, sym, ap, arith}
use Rattle.pcef_diameter.specs.Avps.{avp_fault, behind_avp}
use Rattle.pcef_diameter.specs.Laws.{OneReading}
use Rattle.pcef_diameter.specs.declared.fault.AvpFault.{AvpFault}
use Rattle.pcef_diameter.specs.declared.fault.AvpFault.TheVariants as fault

-- a list that isn't empty
pub some_length : (octets : List ℕ) → eqb (length octets) 0 ≡ false → 0 < length octets
some_length [] h = absurd (cc h)
some_length (octet ∷ octets) h = omega arith

none_or_some : (octets : List ℕ) → octets ≡ [] → 0 < length octets → ⊥
none_or_some [] e some = omega (arith, some)
none_or_some (octet ∷ octets) e some = absurd (cc e)

-- no octets begin with no AVP
pub empty_fault : (octets : List ℕ) → octets ≡ [] → avp_fault octets ≡ Some fault.Cut
unfolding avp_fault
empty_fault octets e = rw e refl

none_or_fault : (found : Option AvpFault) (f : AvpFault) → found ≡ Some f → found ≡ None → ⊥
none_or_fault found f some none = let bad : Some f ≡ None = sym some ∙ none in absurd (cc bad)

pub read_once : OneReading
read_once octets [] [] r s None None p q = (refl, p.1 ∙ sym q.1, refl)
read_once octets [] [] r s None (Some g) p q = absurd (none_or_some octets p.0 q.0)
read_once octets [] [] r s (Some f) None p q = absurd (none_or_some octets q.0 p.0)
read_once octets [] [] r s (Some f) (Some g) p q =
    let same : Some f ≡ Some g = sym p.1 ∙ q.1 in
    (refl, p.2 ∙ sym q.2, same)
read_once octets [] (b ∷ bs) r s None g p q = absurd (none_or_fault (avp_fault octets) fault.Cut (empty_fault octets p.0) q.0)
read_once octets [] (b ∷ bs) r s (Some f) g p q = absurd (none_or_fault (avp_fault octets) f p.1 q.0)
read_once octets (a ∷ as_) [] r s f None p q = absurd (none_or_fault (avp_fault octets) fault.Cut (empty_fault octets q.0) p.0)
read_once octets (a ∷ as_) [] r s f (Some g) p q = absurd (none_or_fault (avp_fault octets) g q.1 p.0)
read_once octets (a ∷ as_) (b ∷ bs) r s f g p q =
    let others = read_once (behind_avp octets) as_ bs r s f g p.2 q.2 in
    let avp : a ≡ b = sym p.1 ∙ q.1 in
    (ap (λ x. x ∷ as_) avp ∙ ap (λ xs. b ∷ xs) others.0, others.1, others.2)
