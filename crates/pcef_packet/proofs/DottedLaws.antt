-- IPv4 addresses in text: what is read is what the text writes, and all that it writes.
use Rattle.std.proofs.Common.{ℕ, ◌≡◌, ◌∙◌, ◌==◌, ◌&&◌, true, false, List, [], ◌∷◌, length, Some, refl, sym, ap, arith, inl, inr}
use Rattle.std.specs.Prelude.{nat_le, nat_lt}
use Rattle.std.specs.Char.{is_ascii_digit}
use Rattle.std.specs.Str.{all_ascii_digits}
use Rattle.std.specs.Str.Parse.{digits_value}
use Rattle.std.proofs.lemmas.Bool.{and_parts, cases_Bool, eqb-true}
use Rattle.std.proofs.lemmas.List.Folds.{list_any-append}
use Rattle.std.proofs.lemmas.Option.{cond_some}
use Rattle.pcef_packet.specs.AddressTexts.{cut_at, dotted_of, has_colon, joined}
use Rattle.pcef_packet.specs.DottedDecimal.{IsDotted, dot, is_octet, octet_of}
use Rattle.pcef_packet.specs.Joined.{WritesJoined, number_of}
use Rattle.pcef_packet.proofs.Cuts.{cut_joined, cut_some, has, then_found}

-- ---- an octet's text has digits alone
digits_clear : (s : ℕ) → is_ascii_digit s ≡ false → (xs : List ℕ) → all_ascii_digits xs ≡ true → has s xs ≡ false
digits_clear s other [] h = refl
digits_clear s other (x ∷ xs) h =
    let both = and_parts (is_ascii_digit x) (all_ascii_digits xs) h in
    elim (cases_Bool (x == s)) [
      | inl same ↦ absurd (let is = eqb-true x s same in let digit = both.0 in let clash = rw (is, other) at digit in cc)
      | inr apart ↦ rw apart (digits_clear s other xs both.1)
    ]

octet_clear : (s : ℕ) → is_ascii_digit s ≡ false → (text : List ℕ) (octet : ℕ) → octet_of text ≡ Some octet → has s text ≡ false
unfolding octet_of
octet_clear s other text octet h =
    let parted = cond_some (is_octet text) (digits_value 10 text) octet h in
    let few = and_parts ((nat_lt 0 (length text) && nat_le (length text) 3) && all_ascii_digits text) (nat_le (digits_value 10 text) 255) parted.0 in
    let digits = and_parts (nat_lt 0 (length text) && nat_le (length text) 3) (all_ascii_digits text) few.0 in
    digits_clear s other text digits.1

no_colon : (text octets : List ℕ) → WritesJoined dot octet_of text octets → has_colon text ≡ false
no_colon text [] h = absurd h
no_colon text (octet ∷ []) h = octet_clear 58 refl text octet h
no_colon text (octet ∷ next ∷ octets) h =
    let front = octet_clear 58 refl h.0 octet h.3 in
    let rest = no_colon h.1 (next ∷ octets) h.4 in
    ap has_colon h.2 ∙ list_any-append (λ (o : ℕ). o == 58) h.0 (46 ∷ h.1) ∙ rw (front, rest) refl

pub dotted_no_colon : (text : List ℕ) (number : ℕ) → IsDotted text number → has_colon text ≡ false
dotted_no_colon text number is = no_colon text is.octets is.written

joined_is : (a b c d : ℕ) → joined a b c d ≡ number_of 256 (a ∷ b ∷ c ∷ d ∷ [])
joined_is a b c d = omega arith

-- ---- what is written is read
first_cut : (text : List ℕ) (octet next : ℕ) (octets : List ℕ) (h : WritesJoined dot octet_of text (octet ∷ next ∷ octets)) → cut_at dot text ≡ Some (h.0, h.1)
first_cut text octet next octets h = ap (cut_at dot) h.2 ∙ cut_some dot h.0 h.1 (octet_clear 46 refl h.0 octet h.3)

four_again : (text octets : List ℕ) → WritesJoined dot octet_of text octets → length octets ≡ 4 → dotted_of text ≡ Some (number_of 256 octets)
unfolding dotted_of
four_again text [] h four = absurd h
four_again text (a ∷ []) h four = absurd (omega (arith, four))
four_again text (a ∷ b ∷ []) h four = absurd (omega (arith, four))
four_again text (a ∷ b ∷ c ∷ []) h four = absurd (omega (arith, four))
four_again text (a ∷ b ∷ c ∷ d ∷ []) h four =
    let behind = h.4 in
    let last = behind.4 in
    let one = first_cut text a b (c ∷ d ∷ []) h in
    let two = first_cut h.1 b c (d ∷ []) behind in
    let three = first_cut behind.1 c d [] last in
    rw (one, two, three, h.3, behind.3, last.3, last.4) (ap Some (joined_is a b c d))
four_again text (a ∷ b ∷ c ∷ d ∷ e ∷ more) h four = absurd (omega (arith, four))

pub dotted_again : (text : List ℕ) (number : ℕ) → IsDotted text number → dotted_of text ≡ Some number
dotted_again text number is = four_again text is.octets is.written is.four ∙ ap Some (sym is.value)

-- ---- what is read is written
pub dotted_found : (text : List ℕ) (number : ℕ) → dotted_of text ≡ Some number → IsDotted text number
unfolding dotted_of
dotted_found text number h =
    let one = then_found (cut_at dot text) _ number h in
    let two = then_found (cut_at dot one.0.1) _ number one.2 in
    let three = then_found (cut_at dot two.0.1) _ number two.2 in
    let a = then_found (octet_of one.0.0) _ number three.2 in
    let b = then_found (octet_of two.0.0) _ number a.2 in
    let c = then_found (octet_of three.0.0) _ number b.2 in
    let d = then_found (octet_of three.0.1) _ number c.2 in
    let value : joined a.0 b.0 c.0 d.0 ≡ number = some_same (joined a.0 b.0 c.0 d.0) number d.2 in
    record {
      octets = a.0 ∷ b.0 ∷ c.0 ∷ d.0 ∷ [];
      written = (
        one.0.0,
        one.0.1,
        cut_joined dot text one.0.0 one.0.1 one.1,
        a.1,
        (
          two.0.0,
          two.0.1,
          cut_joined dot one.0.1 two.0.0 two.0.1 two.1,
          b.1,
          (three.0.0, three.0.1, cut_joined dot two.0.1 three.0.0 three.0.1 three.1, c.1, d.1),
        ),
      );
      four = refl;
      value = sym value ∙ joined_is a.0 b.0 c.0 d.0;
    }
  where
    some_same : (a b : ℕ) → Some a ≡ Some b → a ≡ b
    some_same a b h = cc
