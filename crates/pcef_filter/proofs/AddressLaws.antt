-- Addresses and networks: what is read of a token is what it spells, and all that it spells.
use Rattle.std.proofs.Common.{ℕ, ◌≡◌, ◌≤◌, List, [], ◌∷◌, Some, refl, sym, ap, subst}
use Rattle.pcef_packet.specs.declared.header.Addr.{Addr}
use Rattle.pcef_packet.specs.AddressTexts.{WritesAddress, address_of}
use Rattle.pcef_packet.specs.Addresses.{width_of}
use Rattle.pcef_packet.proofs.AddressTextLaws.{address_again, address_found}
use Rattle.pcef_filter.specs.Tokens.{Token}
use Rattle.pcef_filter.specs.Numbers.{IsNumber}
use Rattle.pcef_filter.specs.Pieces.{pieces, slash}
use Rattle.pcef_filter.specs.Classes.{AreNet}
use Rattle.pcef_filter.specs.ReadingClasses.{and_then, bits_in, net_of, net_from, net_in}
use Rattle.pcef_filter.specs.declared.filter.Net.{Net}
use Rattle.pcef_filter.proofs.NumberLaws.{then_found, limited_found, limited_again}

-- ---- numbers
bits_found : (width : ℕ) (t : Token) (n : ℕ) → bits_in width t ≡ Some n → IsNumber 5 t n × (n ≤ width)
unfolding bits_in
bits_found width t n h = limited_found 5 width t n h

bits_again : (width : ℕ) (t : Token) (n : ℕ) → IsNumber 5 t n → n ≤ width → bits_in width t ≡ Some n
unfolding bits_in
bits_again width t n h within = limited_again 5 width t n h within

-- ---- networks
pub net_again : (t : Token) (n : Net) → AreNet (pieces slash t) n → net_in t ≡ Some n
unfolding net_in
net_again t n h = go (pieces slash t) refl h
  where
    go : (ps : List Token) → pieces slash t ≡ ps → AreNet ps n → net_in t ≡ Some n
    go [] order h = absurd h
    go (a ∷ []) order h =
        let addr : address_of a ≡ Some n.addr = address_again a n.addr h.0 in
        rw (order, addr) (ap (λ (k : ℕ). Some (net_of n.addr k)) (sym h.1))
    go (a ∷ b ∷ []) order h =
        let addr : address_of a ≡ Some n.addr = address_again a n.addr h.0 in
        let bits : bits_in (width_of n.addr) b ≡ Some n.bits = bits_again (width_of n.addr) b n.bits h.1 h.2 in
        rw (order, addr, bits) refl
    go (a ∷ b ∷ c ∷ ps) order h = absurd h

pub net_found : (t : Token) (n : Net) → net_in t ≡ Some n → AreNet (pieces slash t) n
unfolding net_in
net_found t n h = go (pieces slash t) h
  where
    go : (ps : List Token) → net_from ps ≡ Some n → AreNet ps n
    go [] h = absurd (cc)
    go (a ∷ []) h =
        let addr = then_found (address_of a) (λ v. Some (net_of v (width_of v))) n h in
        let same : net_of addr.0 (width_of addr.0) ≡ n = (let last = addr.2 in cc) in
        subst (λ (m : Net). WritesAddress a m.addr × (m.bits ≡ width_of m.addr)) same (address_found a addr.0 addr.1, refl)
    go (a ∷ b ∷ []) h =
        let addr = then_found (address_of a) (λ v. and_then (bits_in (width_of v) b) (λ k. Some (net_of v k))) n h in
        let bits = then_found (bits_in (width_of addr.0) b) (λ k. Some (net_of addr.0 k)) n addr.2 in
        let same : net_of addr.0 bits.0 ≡ n = (let last = bits.2 in cc) in
        let fact = bits_found (width_of addr.0) b bits.0 bits.1 in
        subst (λ (m : Net). WritesAddress a m.addr × IsNumber 5 b m.bits × (m.bits ≤ width_of m.addr)) same (address_found a addr.0 addr.1, fact.0, fact.1)
    go (a ∷ b ∷ c ∷ ps) h = absurd (cc)
