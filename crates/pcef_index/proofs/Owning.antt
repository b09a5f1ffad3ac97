-- Lines that are left out, since no packet that is looked up fits them.
use Rattle.std.proofs.Common.{◌≡◌, ◌-◌, ◌/◌, ◌^◌, ◌++◌, ◌∙◌, ◌<◌, ℕ, zero, suc, true, false, nat_lt, length, take, get_or, Option, Some, None, List, [], ◌∷◌, find, ap, refl, subst, sym, arith, inl, inr}
use Rattle.std.specs.Option.{option_or}
use Rattle.std.proofs.lemmas.Bool.{and_parts, cases_Bool, eq-eqb, eqb-true, ltb-false, ltb-true}
use Rattle.std.proofs.lemmas.List.Folds.{find-append}
use Rattle.pcef_base.proofs.Tests.{contrary}
use Rattle.pcef_catalog.specs.declared.listing.Offer.{Offer}
use Rattle.pcef_packet.specs.Addresses.{agrees_in, is_assigned, same_front}
use Rattle.pcef_packet.specs.declared.header.Addr.{Addr}
use Rattle.pcef_packet.specs.declared.header.Addr.TheVariants.{V4, V6}
use Rattle.pcef_packet.specs.declared.header.Header.{Header}
use Rattle.pcef_filter.specs.declared.filter.Filter.{Filter}
use Rattle.pcef_index.specs.declared.lines.Line.{Line}
use Rattle.pcef_index.specs.private.Lines.{IsFor, KeepFor, filter_line, filter_lines, line_fits, shared_bits, standing_fits, stands}
use Rattle.pcef_index.proofs.DigitLaws.{front_agrees}
use Rattle.pcef_index.proofs.Numbering.{place_of, skip_one}

pub keep_none : (own : Option Addr) → KeepFor own [] []
keep_none own places offers ue h is = refl

same_or : (a b c : Option Line) → place_of a ≡ place_of b → place_of (option_or a c) ≡ place_of (option_or b c)
same_or None None c same = refl
same_or None (Some y) c same = absurd (cc)
same_or (Some x) None c same = absurd (cc)
same_or (Some x) (Some y) c same = same

-- one more line that is kept
pub keep_more : (own : Option Addr) (all kept : List Line) (l : Line) → KeepFor own all kept → KeepFor own (all ++ l ∷ []) (kept ++ l ∷ [])
keep_more own all kept l keep places offers ue h is =
    let test = standing_fits places offers ue h in
    ap place_of (find-append test kept (l ∷ []))
    ∙ same_or (find test kept) (find test all) (find test (l ∷ [])) (keep places offers ue h is)
    ∙ sym (ap place_of (find-append test all (l ∷ [])))

-- one more line that no packet fits is left out
pub keep_less : (own : Option Addr) (all kept : List Line) (l : Line) → KeepFor own all kept
    → ((offers : List Offer) (ue : Addr) (h : Header) → IsFor own ue h → line_fits offers ue h l ≡ false) → KeepFor own (all ++ l ∷ []) kept
keep_less own all kept l keep fails places offers ue h is =
    let test = standing_fits places offers ue h in
    let none : test l ≡ false = elim (cases_Bool (test l)) [
      | inl fits ↦ contrary (line_fits offers ue h l) (and_parts (line_fits offers ue h l) (stands places l.place) fits).0 (fails offers ue h is)
      | inr not_fits ↦ not_fits
    ] in
    keep places offers ue h is ∙ sym (ap place_of (skip_one test all l none))

-- a network with one of a session's addresses agrees with the session's in the bits that all these share
pub meets_net : (bits : ℕ) (ue a net : Addr) → is_assigned a ue ≡ true → agrees_in bits a net ≡ true → agrees_in (shared_bits bits ue) ue net ≡ true
meets_net bits (V4 u) (V4 a) (V4 n) own fits = subst (λ (k : ℕ). same_front 32 bits k n ≡ true) (eqb-true a u own) fits
meets_net bits (V4 u) (V4 a) (V6 n) own fits = absurd (cc)
meets_net bits (V4 u) (V6 a) net own fits = absurd (cc)
meets_net bits (V6 u) (V4 a) net own fits = absurd (cc)
meets_net bits (V6 u) (V6 a) (V4 n) own fits = absurd (cc)
meets_net bits (V6 u) (V6 a) (V6 n) own fits =
    let front : a / 2 ^ 64 ≡ u / 2 ^ 64 = eqb-true (a / 2 ^ 64) (u / 2 ^ 64) own in
    let same : a / 2 ^ (128 - bits) ≡ n / 2 ^ (128 - bits) = eqb-true (a / 2 ^ (128 - bits)) (n / 2 ^ (128 - bits)) fits in
    elim (cases_Bool (nat_lt 64 bits)) [
      | inl many ↦
          (let more = ltb-true 64 bits many in
          rw many (eq-eqb (u / 2 ^ 64) (n / 2 ^ 64) (sym front ∙ front_agrees a n (128 - bits) 64 (omega (arith, more)) same)))
      | inr few ↦
          (let less = ltb-false 64 bits few in
          rw few (eq-eqb (u / 2 ^ (128 - bits)) (n / 2 ^ (128 - bits)) (sym (front_agrees a u 64 (128 - bits) (omega (arith, less)) front) ∙ same)))
    ]

-- the lines of one more filter
pub filters_more : (k : ℕ) (fs : List Filter) (i : ℕ) (d : Filter) → i < length fs → filter_lines k (take (suc i) fs) ≡ filter_lines k (take i fs) ++ filter_line k (get_or fs i d) ∷ []
filters_more k [] i d less = absurd (omega arith)
filters_more k (f ∷ fs) zero d less = refl
filters_more k (f ∷ fs) (suc i) d less = ap (λ (ls : List Line). filter_line k f ∷ ls) (filters_more k fs i d (omega arith))
