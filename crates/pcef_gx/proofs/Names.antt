-- What names are spelled as.
use Rattle.std.proofs.Common.{◌≡◌, ◌≤◌, ◌<◌, ◌^◌, ◌+◌, ◌-◌, ◌*◌, ◌/◌, ◌%◌, ◌∙◌, ◌++◌, ◌&&◌, not, ℕ, Bool, true, false, cond, eqb, leb, ltb, List, [], ◌∷◌, length, All, Option, Some, None, zero, suc, drop, refl, sym, ap, arith, inl, inr, append-nil}
use Rattle.std.specs.List.{flat_map}
use Rattle.std.proofs.lemmas.Bool.{and_parts, and_right, cases_Bool, cases_lt, le-leb, le-ltb, leb-false, leb-true, lt-leb, lt-ltb, not-true}
use Rattle.std.proofs.lemmas.List.{drop_all, length-append}
use Rattle.std.proofs.lemmas.List.Concat.{flat_map-cons}
use Rattle.std.proofs.lemmas.List.Elements.{All-nil, All-cons, All-append, All-head, All-tail}
use Rattle.pcef_rule.specs.Name.{IsVisible}
use Rattle.pcef_gx.specs.Names.{NamesGoBack, digit, escaped, is_digit, is_escape, is_plain, name_of, octets_of, spelled, value_of}

-- ---- what is known of a digit
record Digit (value : ℕ) : Type 0 where
  visible : IsVisible (digit value)
  is : is_digit (digit value) ≡ true
  back : value_of (digit value) ≡ value

digit_low : (value : ℕ) → value < 10 → Digit value
digit_low value lt =
    let low : ltb value 10 ≡ true = lt-ltb _ _ lt in
    let character : digit value ≡ 48 + value = rw low refl in
    let below : ltb (48 + value) 58 ≡ true = lt-ltb _ _ (omega (arith, lt)) in
    let least : leb 48 (48 + value) ≡ true = le-leb _ _ (omega arith) in
    let most : leb (48 + value) 57 ≡ true = le-leb _ _ (omega (arith, lt)) in
    record {
      visible = rw character (omega arith, omega (arith, lt));
      is = rw (character, below, least, most) refl;
      back = rw (character, below) (omega arith);
    }

digit_high : (value : ℕ) → 10 ≤ value → value < 16 → Digit value
digit_high value from lt =
    let high : ltb value 10 ≡ false = le-ltb _ _ from in
    let character : digit value ≡ 55 + value = rw high refl in
    let above : ltb (55 + value) 58 ≡ false = le-ltb _ _ (omega (arith, from)) in
    let least : leb 65 (55 + value) ≡ true = le-leb _ _ (omega (arith, from)) in
    let most : leb (55 + value) 70 ≡ true = le-leb _ _ (omega (arith, lt)) in
    record {
      visible = rw character (omega arith, omega (arith, lt));
      is = rw (character, above, least, most) refl;
      back = rw (character, above) (omega arith);
    }

digit_is : (value : ℕ) → value < 16 → Digit value
digit_is value lt =
    elim (cases_lt value 10) [
      | inl low ↦ digit_low value low
      | inr high ↦ digit_high value high lt
    ]

-- ---- a name is visible
plain_visible : (octet : ℕ) → is_plain octet ≡ true → IsVisible octet
plain_visible octet plain =
    let range = and_parts (leb 33 octet && leb octet 126) (not (eqb octet 37)) plain in
    let ends = and_parts (leb 33 octet) (leb octet 126) range.0 in
    (leb-true _ _ ends.0, leb-true _ _ ends.1)

escape_visible : (octet : ℕ) → All IsVisible (37 ∷ digit (octet / 16 % 16) ∷ digit (octet % 16) ∷ [])
escape_visible octet =
    let high = digit_is (octet / 16 % 16) (omega arith) in
    let low = digit_is (octet % 16) (omega arith) in
    All-cons IsVisible 37 (digit (octet / 16 % 16) ∷ digit (octet % 16) ∷ []) (omega arith, omega arith)
    (All-cons IsVisible (digit (octet / 16 % 16)) (digit (octet % 16) ∷ []) high.visible
    (All-cons IsVisible (digit (octet % 16)) [] low.visible (All-nil IsVisible)))

escaped_visible : (octet : ℕ) → All IsVisible (escaped octet)
escaped_visible octet =
    elim (cases_Bool (is_plain octet)) [
      | inl plain ↦ rw plain (All-cons IsVisible octet [] (plain_visible octet plain) (All-nil IsVisible))
      | inr other ↦ rw other (escape_visible octet)
    ]

pub spelled_visible : (octets : List ℕ) → All IsVisible (spelled octets)
spelled_visible [] = All-nil IsVisible
spelled_visible (o ∷ octets) =
    rw (flat_map-cons escaped o octets) (All-append IsVisible (escaped o) (spelled octets) (escaped_visible o) (spelled_visible octets))

-- ---- how long a name is
spelled_front : (octet : ℕ) (octets : List ℕ) → length (spelled (octet ∷ octets)) ≡ length (escaped octet) + length (spelled octets)
spelled_front octet octets = ap length (flat_map-cons escaped octet octets) ∙ length-append (escaped octet) (spelled octets)

-- a name that has no room for one octet has none for all
pub too_long : (text : List ℕ) (octet : ℕ) (rest octets : List ℕ) → text ++ spelled (octet ∷ rest) ≡ spelled octets → leb (length text + length (escaped octet)) 64 ≡ false → name_of octets ≡ None
unfolding name_of
too_long text octet rest octets all full =
    let count : length (spelled octets) ≡ length text + length (spelled (octet ∷ rest)) = sym (ap length all) ∙ length-append text (spelled (octet ∷ rest)) in
    let over : leb (length (spelled octets)) 64 ≡ false = lt-leb _ _ (omega (arith, count, spelled_front octet rest, leb-false _ _ full)) in
    let out : (leb 1 (length (spelled octets)) && leb (length (spelled octets)) 64) ≡ false = and_right (leb 1 (length (spelled octets))) (leb (length (spelled octets)) 64) over in
    rw out refl

pub named : (text octets : List ℕ) → text ≡ spelled octets → 0 < length text → length text ≤ 64 → name_of octets ≡ Some text
unfolding name_of
named text octets is some few =
    let least : leb 1 (length text) ≡ true = le-leb _ _ some in
    let most : leb (length text) 64 ≡ true = le-leb _ _ few in
    rw (← is, least, most) refl

pub nameless : (text octets : List ℕ) → text ≡ spelled octets → length text ≡ 0 → name_of octets ≡ None
unfolding name_of
nameless text octets is none = rw (← is, none) refl

-- ---- back to the octets
plain_is : (octet : ℕ) → is_plain octet ≡ true → eqb octet 37 ≡ false
plain_is octet plain = not-true (eqb octet 37) (and_parts (leb 33 octet && leb octet 126) (not (eqb octet 37)) plain).1

behind_plain : (octet : ℕ) (rest : List ℕ) → eqb octet 37 ≡ false → octets_of (octet ∷ rest) ≡ octet ∷ octets_of rest
behind_plain octet [] other = refl
behind_plain octet (b ∷ []) other = refl
behind_plain octet (b ∷ c ∷ rest) other = rw other refl

behind_escape : (octet : ℕ) (rest : List ℕ) → octet < 2 ^ 8 → octets_of (37 ∷ digit (octet / 16 % 16) ∷ digit (octet % 16) ∷ rest) ≡ octet ∷ octets_of rest
behind_escape octet rest lt =
    let high = digit_is (octet / 16 % 16) (omega arith) in
    let low = digit_is (octet % 16) (omega arith) in
    let whole : octet / 16 % 16 * 16 + octet % 16 ≡ octet = omega (arith, lt) in
    rw (high.is, low.is, high.back, low.back, whole) refl

behind_escaped : (octet : ℕ) (rest : List ℕ) → octet < 2 ^ 8 → octets_of (escaped octet ++ rest) ≡ octet ∷ octets_of rest
behind_escaped octet rest lt =
    elim (cases_Bool (is_plain octet)) [
      | inl plain ↦ rw plain (behind_plain octet rest (plain_is octet plain))
      | inr other ↦ rw other (behind_escape octet rest lt)
    ]

pub names_go_back : NamesGoBack
names_go_back [] are = refl
names_go_back (o ∷ octets) are =
    ap octets_of (flat_map-cons escaped o octets)
    ∙ behind_escaped o (spelled octets) (All-head (λ octet. octet < 2 ^ 8) o octets are)
    ∙ ap (λ others. o ∷ others) (names_go_back octets (All-tail (λ octet. octet < 2 ^ 8) o octets are))

-- ---- for the reader of names
pub at_end : (text octets : List ℕ) (i : ℕ) → length octets ≤ i → text ++ spelled (drop i octets) ≡ spelled octets → text ≡ spelled octets
at_end text octets i past all = sym (append-nil text) ∙ ap (λ rest. text ++ spelled rest) (sym (drop_all i octets past)) ∙ all

pub positive : (n : ℕ) → eqb n 0 ≡ false → 0 < n
positive zero isnt = absurd (cc isnt)
positive (suc n) isnt = omega arith
