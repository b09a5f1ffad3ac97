-- What it takes to look for an option.
use Rattle.std.proofs.Common.{ℕ, zero, suc, inl, inr, take, drop, ◌≡◌, ◌+◌, ◌<◌, ◌∙◌, List, length, Option, Some, None, refl, sym, ap, arith, true, false}
use Rattle.std.specs.Prelude.{◌==◌, ◌≢◌, nat_lt, ◌≤◌}
use Rattle.std.proofs.lemmas.Bool.{cases_Bool}
use Rattle.std.proofs.lemmas.Bool.Decides.{nat_tests}
use Rattle.std.proofs.lemmas.List.{length-drop}
use Rattle.pcef_capture_file.specs.Numbers.{number_by}
use Rattle.pcef_capture_file.specs.Options.{option_at, option_len, value_among, value_of, option_value}
use Rattle.pcef_capture_file.specs.declared.endianness.Endianness.{Endianness}

-- an option takes octets
pub option_shorter : (e : Endianness) (octets : List ℕ) (o : ℕ × List ℕ × List ℕ) → option_at e octets ≡ Some o → length o.2 < length octets
unfolding option_at
option_shorter e octets o is =
    let len = option_len (number_by e octets 2 2) in
    elim (cases_Bool (nat_lt (length octets) 4)) [
      | inl short ↦ absurd (let clash = rw short at is in cc)
      | inr front ↦
          elim (cases_Bool (number_by e octets 0 2 == 0)) [
            | inl last ↦ absurd (let clash = rw (front, last) at is in cc)
            | inr more ↦
                elim (cases_Bool (nat_lt (length octets) len)) [
                  | inl cut ↦ absurd (let clash = rw (front, more, cut) at is in cc)
                  | inr whole ↦
                      let same : o ≡ (number_by e octets 0 2, take (number_by e octets 2 2) (drop 4 octets), drop len octets) = let there = rw (front, more, whole) at is in cc in
                      let rest : length o.2 ≡ length (drop len octets) = ap (λ (q : ℕ × List ℕ × List ℕ). length q.2) same in
                      let within : len ≤ length octets = grind (arith, nat_tests) in
                      omega (arith, rest, within, length-drop len octets)
                ]
          ]
    ]

-- any number of options that the octets can't hold serves
enough : (m n : ℕ) (e : Endianness) (code : ℕ) (octets : List ℕ) → length octets < m → length octets < n → value_among m e code octets ≡ value_among n e code octets
unfolding value_among
enough zero n e code octets h k = absurd (omega arith)
enough (suc m) zero e code octets h k = absurd (omega arith)
enough (suc m) (suc n) e code octets h k = go (option_at e octets) refl (λ rest shorter. enough m n e code rest (omega arith) (omega arith))
  where
    go : (o : Option (ℕ × List ℕ × List ℕ)) → option_at e octets ≡ o → ((rest : List ℕ) → length rest < length octets → value_among m e code rest ≡ value_among n e code rest)
        → option_value (λ rest. value_among m e code rest) code o ≡ option_value (λ rest. value_among n e code rest) code o
    go None is rest = refl
    go (Some o) is rest =
        let shorter = option_shorter e octets o is in
        rw (rest o.2 shorter) refl

among_of : (n : ℕ) (e : Endianness) (code : ℕ) (octets : List ℕ) → length octets < n → value_among n e code octets ≡ value_of e code octets
among_of n e code octets h = enough n (length octets + 1) e code octets h (omega arith)

-- the first step
step : (e : Endianness) (code : ℕ) (octets : List ℕ) → value_of e code octets ≡ option_value (λ rest. value_among (length octets) e code rest) code (option_at e octets)
unfolding value_among
step e code octets =
    let one : length octets + 1 ≡ suc (length octets) = omega arith in
    ap (λ (n : ℕ). value_among n e code octets) one

pub no_option : (e : Endianness) (code : ℕ) (octets : List ℕ) (whole : Option (List ℕ)) → value_of e code octets ≡ whole → option_at e octets ≡ None → None ≡ whole
no_option e code octets whole is none =
    sym (ap (option_value (λ rest. value_among (length octets) e code rest) code) none) ∙ sym (step e code octets) ∙ is

pub option_found : (e : Endianness) (code found : ℕ) (octets value behind : List ℕ) (whole : Option (List ℕ))
    → value_of e code octets ≡ whole → option_at e octets ≡ Some (found, value, behind) → found ≡ code → Some value ≡ whole
option_found e code found octets value behind whole is there same =
    let test : (found == code) ≡ true = grind (arith, nat_tests) in
    let here : option_value (λ rest. value_among (length octets) e code rest) code (Some (found, value, behind)) ≡ Some value = rw test refl in
    sym here ∙ sym (ap (option_value (λ rest. value_among (length octets) e code rest) code) there) ∙ sym (step e code octets) ∙ is

pub option_passed : (e : Endianness) (code found : ℕ) (octets value behind : List ℕ) (whole : Option (List ℕ))
    → value_of e code octets ≡ whole → option_at e octets ≡ Some (found, value, behind) → found ≢ code → value_of e code behind ≡ whole
option_passed e code found octets value behind whole is there other =
    let test : (found == code) ≡ false = grind (arith, nat_tests) in
    let shorter = option_shorter e octets (found, value, behind) there in
    let here : option_value (λ rest. value_among (length octets) e code rest) code (Some (found, value, behind)) ≡ value_among (length octets) e code behind = rw test refl in
    sym (among_of (length octets) e code behind shorter) ∙ sym here ∙ sym (ap (option_value (λ rest. value_among (length octets) e code rest) code) there) ∙ sym (step e code octets) ∙ is
