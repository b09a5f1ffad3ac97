-- Port lists: what is read of a token is what it spells, and all that it spells.
use Rattle.std.proofs.Common.{ℕ, ◌≡◌, ◌≤◌, true, List, [], ◌∷◌, length, Some, None, refl, sym, ap, subst, arith}
use Rattle.std.specs.Prelude.{nat_le, if◌then◌else◌}
use Rattle.std.proofs.lemmas.Option.{cond_some}
use Rattle.std.proofs.lemmas.Bool.Decides.{nat_tests}
use Rattle.arrayvec.specs.ArrayVec.{ArrayVec}
use Rattle.pcef_filter.specs.Tokens.{Token, begins_with_digit}
use Rattle.pcef_filter.specs.Pieces.{pieces, comma, dash}
use Rattle.pcef_filter.specs.Classes.{IsPort, AreRange, AreRanges, IsPorts}
use Rattle.pcef_filter.specs.ReadingClasses.{and_then, port_in, ports_in, range_of, range_from, range_in, ranges_in, if_room}
use Rattle.pcef_filter.specs.declared.filter.PortRange.{PortRange}
use Rattle.pcef_filter.proofs.NumberLaws.{then_found, number_digit, limited_found, limited_again}
use Rattle.pcef_filter.proofs.PieceLaws.{front_digit, pieces_some}
use Rattle.pcef_filter.proofs.ListLaws.{enough}

-- ---- ports
port_found : (t : Token) (n : ℕ) → port_in t ≡ Some n → IsPort t n
unfolding port_in
port_found t n h = limited_found 5 65535 t n h

port_again : (t : Token) (n : ℕ) → IsPort t n → port_in t ≡ Some n
unfolding port_in
port_again t n h = limited_again 5 65535 t n h.0 h.1

-- ---- ranges
le_test : (m n : ℕ) → m ≤ n → nat_le m n ≡ true
le_test m n h = grind (arith, nat_tests)

range_again : (t : Token) (i : PortRange) → AreRange (pieces dash t) i → range_in t ≡ Some i
unfolding range_in
range_again t i h = go (pieces dash t) refl h
  where
    go : (ps : List Token) → pieces dash t ≡ ps → AreRange ps i → range_in t ≡ Some i
    go [] order h = absurd h
    go (a ∷ []) order h =
        let port : port_in a ≡ Some i.first = port_again a i.first h.0 in
        rw (order, port) (ap (λ (n : ℕ). Some (range_of i.first n)) (sym h.1))
    go (a ∷ b ∷ []) order h =
        let first : port_in a ≡ Some i.first = port_again a i.first h.0 in
        let last : port_in b ≡ Some i.last = port_again b i.last h.1 in
        let test : nat_le i.first i.last ≡ true = le_test i.first i.last h.2 in
        rw (order, first, last, test) refl
    go (a ∷ b ∷ c ∷ ps) order h = absurd h

range_found : (t : Token) (i : PortRange) → range_in t ≡ Some i → AreRange (pieces dash t) i
unfolding range_in
range_found t i h = go (pieces dash t) h
  where
    test_le : (m n : ℕ) → nat_le m n ≡ true → m ≤ n
    test_le m n h = grind (arith, nat_tests)

    go : (ps : List Token) → range_from ps ≡ Some i → AreRange ps i
    go [] h = absurd (cc)
    go (a ∷ []) h =
        let port = then_found (port_in a) (λ n. Some (range_of n n)) i h in
        let same : range_of port.0 port.0 ≡ i = (let last = port.2 in cc) in
        subst (λ (j : PortRange). IsPort a j.first × (j.last ≡ j.first)) same (port_found a port.0 port.1, refl)
    go (a ∷ b ∷ []) h =
        let first = then_found (port_in a) (λ m. and_then (port_in b) (λ n. if nat_le m n then Some (range_of m n) else None)) i h in
        let last = then_found (port_in b) (λ n. if nat_le first.0 n then Some (range_of first.0 n) else None) i first.2 in
        let parted = cond_some (nat_le first.0 last.0) (range_of first.0 last.0) i last.2 in
        subst (λ (j : PortRange). IsPort a j.first × IsPort b j.last × (j.first ≤ j.last)) parted.1
        (port_found a first.0 first.1, port_found b last.0 last.1, test_le first.0 last.0 parted.0)
    go (a ∷ b ∷ c ∷ ps) h = absurd (cc)

ranges_again : (ts : List Token) (is : List PortRange) → AreRanges ts is → ranges_in ts ≡ Some is
unfolding ranges_in
ranges_again [] [] h = refl
ranges_again [] (i ∷ is) h = absurd h
ranges_again (t ∷ ts) [] h = absurd h
ranges_again (t ∷ ts) (i ∷ is) h =
    let first : range_in t ≡ Some i = range_again t i h.0 in
    let rest : ranges_in ts ≡ Some is = ranges_again ts is h.1 in
    rw (first, rest) refl

ranges_found : (ts : List Token) (is : List PortRange) → ranges_in ts ≡ Some is → AreRanges ts is
unfolding ranges_in
ranges_found [] is h =
    let same : [] ≡ is = cc in subst (λ (l : List PortRange). AreRanges [] l) same tt
ranges_found (t ∷ ts) is h =
    let first = then_found (range_in t) (λ i. and_then (ranges_in ts) (λ js. Some (i ∷ js))) is h in
    let rest = then_found (ranges_in ts) (λ js. Some (first.0 ∷ js)) is first.2 in
    let same : first.0 ∷ rest.0 ≡ is = (let last = rest.2 in cc) in
    subst (λ (l : List PortRange). AreRanges (t ∷ ts) l) same (range_found t first.0 first.1, ranges_found ts rest.0 rest.1)

pub ports_found : (t : Token) (a : ArrayVec PortRange) → ports_in t ≡ Some a → IsPorts t a.items
unfolding ports_in
ports_found t a h =
    let items = then_found (ranges_in (pieces comma t)) if_room a h in
    let parted = cond_some (nat_le (length items.0) 8) (record { items = items.0 }) a items.2 in
    subst (λ (v : ArrayVec PortRange). IsPorts t v.items) parted.1 (ranges_found (pieces comma t) items.0 items.1, test_eight (length items.0) parted.0)
  where
    test_eight : (n : ℕ) → nat_le n 8 ≡ true → n ≤ 8
    test_eight n h = grind (arith, nat_tests)

pub ports_again : (t : Token) (a : ArrayVec PortRange) → IsPorts t a.items → ports_in t ≡ Some a
unfolding ports_in
ports_again t a h =
    let items : ranges_in (pieces comma t) ≡ Some a.items = ranges_again (pieces comma t) a.items h.0 in
    let room : nat_le (length a.items) 8 ≡ true = enough (length a.items) h.1 in
    rw (items, room) refl

pub ports_digit : (t : Token) (items : List PortRange) → IsPorts t items → begins_with_digit t ≡ true
ports_digit t items h = go (pieces comma t) refl items h.0
  where
    inner : (a : Token) (i : PortRange) (qs : List Token) → pieces dash a ≡ qs → AreRange qs i → begins_with_digit a ≡ true
    inner a i [] order h = absurd h
    inner a i (p ∷ []) order h = front_digit dash a p [] order (number_digit 5 p i.first h.0.0)
    inner a i (p ∷ q ∷ []) order h = front_digit dash a p (q ∷ []) order (number_digit 5 p i.first h.0.0)
    inner a i (p ∷ q ∷ r ∷ qs) order h = absurd h

    go : (ps : List Token) → pieces comma t ≡ ps → (is : List PortRange) → AreRanges ps is → begins_with_digit t ≡ true
    go [] order is h = let some = pieces_some comma t in (let none : length (pieces comma t) ≡ 0 = rw order refl in absurd (omega arith))
    go (a ∷ ps) order [] h = absurd h
    go (a ∷ ps) order (i ∷ is) h = front_digit comma t a ps order (inner a i (pieces dash a) refl h.0)
