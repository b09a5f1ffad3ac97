-- What a packet carries, header by header.
use Rattle.std.proofs.Common.{ℕ, zero, suc, ◌≡◌, ◌+◌, ◌*◌, ◌<◌, ◌≤◌, ◌∙◌, Bool, true, false, List, length, drop, slice_index, Option, Some, None, refl, sym, ap, arith, inl, inr}
use Rattle.std.specs.Prelude.{nat_lt, if◌then◌else◌}
use Rattle.std.proofs.lemmas.Bool.{cases_Bool}
use Rattle.std.proofs.lemmas.Bool.Decides.{nat_tests}
use Rattle.std.proofs.lemmas.List.{length-drop}
use Rattle.pcef_packet.specs.ExtensionHeaders.{Carried, extension_len, is_extension, is_fragment, is_later, next_of}
use Rattle.pcef_packet.specs.Carrying.{after_past, carried_in, carried_of, carried_within, past}

pub not_less : (a b : ℕ) → nat_lt a b ≡ false → b ≤ a
not_less a b h = grind (arith, nat_tests)

pub least_len : (kind : ℕ) (octets : List ℕ) → 8 ≤ extension_len kind octets
unfolding extension_len
least_len kind octets = elim (is_fragment kind) as (λ b. 8 ≤ (if b then 8 else 8 + 8 * slice_index octets 1)) [ true ↦ omega arith | false ↦ omega arith ]

-- what `past` answers, where it answers
abbrev pub past_parts : ℕ → List ℕ → ℕ × List ℕ × Bool
past_parts kind octets = (next_of octets, drop (extension_len kind octets) octets, is_later kind octets)

pub past_whole : (kind : ℕ) (octets : List ℕ) (p : ℕ × List ℕ × Bool) → past kind octets ≡ Some p → (extension_len kind octets ≤ length octets) × (p ≡ past_parts kind octets)
unfolding past
past_whole kind octets p is =
    elim (cases_Bool (nat_lt (length octets) (extension_len kind octets))) [
      | inl short ↦ absurd (let clash = rw short at is in cc)
      | inr long ↦ (not_less (length octets) (extension_len kind octets) long, let same = rw long at is in cc)
    ]

-- a header that is passed takes octets
pub past_shorter : (kind : ℕ) (octets : List ℕ) (p : ℕ × List ℕ × Bool) → past kind octets ≡ Some p → length p.1 < length octets
past_shorter kind octets p is =
    let whole = past_whole kind octets p is in
    let least = least_len kind octets in
    let left = length-drop (extension_len kind octets) octets in
    let same : length p.1 ≡ length (drop (extension_len kind octets) octets) = ap (λ (q : ℕ × List ℕ × Bool). length q.1) whole.1 in
    omega (arith, whole.0)

-- any number of headers that the octets can't hold serves
pub enough : (m n kind : ℕ) (octets : List ℕ) → length octets < m → length octets < n → carried_within m kind octets ≡ carried_within n kind octets
unfolding carried_within
enough zero n kind octets h k = absurd (omega arith)
enough (suc m) zero kind octets h k = absurd (omega arith)
enough (suc m) (suc n) kind octets h k = go (past kind octets) refl (λ next left shorter. enough m n next left (omega arith) (omega arith))
  where
    go : (o : Option (ℕ × List ℕ × Bool)) → past kind octets ≡ o → ((next : ℕ) (left : List ℕ) → length left < length octets → carried_within m next left ≡ carried_within n next left)
        → carried_within (suc m) kind octets ≡ carried_within (suc n) kind octets
    go None is rest = rw is refl
    go (Some p) is rest =
        let shorter = past_shorter kind octets p is in
        rw (is, rest p.0 p.1 shorter) refl

-- one more than the octets serves, and so does any number above them
carried_more : (n kind : ℕ) (octets : List ℕ) → length octets < n → carried_within n kind octets ≡ carried_in kind octets
carried_more n kind octets h = enough n (length octets + 1) kind octets h (omega arith)

-- ---- the steps of a walk over headers
pub step_end : (kind : ℕ) (octets : List ℕ) (whole : Option Carried) → carried_in kind octets ≡ whole → is_extension kind ≡ false → Some (carried_of kind octets true) ≡ whole
unfolding carried_within
step_end kind octets whole is ends =
    let one : length octets + 1 ≡ suc (length octets) = omega arith in
    let opened : carried_within (suc (length octets)) kind octets ≡ Some (carried_of kind octets true) = rw ends refl in
    sym opened ∙ ap (λ (n : ℕ). carried_within n kind octets) (sym one) ∙ is

-- the first step from an extension header
step : (kind : ℕ) (octets : List ℕ) → is_extension kind ≡ true → after_past (λ k o. carried_within (length octets) k o) (past kind octets) ≡ carried_in kind octets
unfolding carried_within
step kind octets extends =
    let one : length octets + 1 ≡ suc (length octets) = omega arith in
    let opened : carried_within (suc (length octets)) kind octets ≡ after_past (λ k o. carried_within (length octets) k o) (past kind octets) = rw extends refl in
    sym opened ∙ ap (λ (n : ℕ). carried_within n kind octets) (sym one)

pub step_cut : (kind : ℕ) (octets : List ℕ) (whole : Option Carried) → carried_in kind octets ≡ whole → is_extension kind ≡ true → past kind octets ≡ None → None ≡ whole
step_cut kind octets whole is extends cut =
    sym (ap (after_past (λ k o. carried_within (length octets) k o)) cut) ∙ step kind octets extends ∙ is

pub step_later : (kind : ℕ) (octets : List ℕ) (whole : Option Carried) (next : ℕ) (left : List ℕ) → carried_in kind octets ≡ whole → is_extension kind ≡ true → past kind octets ≡ Some (next, left, true) → Some (carried_of next left false) ≡ whole
step_later kind octets whole next left is extends on =
    sym (ap (after_past (λ k o. carried_within (length octets) k o)) on) ∙ step kind octets extends ∙ is

pub step_on : (kind : ℕ) (octets : List ℕ) (whole : Option Carried) (next : ℕ) (left : List ℕ) → carried_in kind octets ≡ whole → is_extension kind ≡ true → past kind octets ≡ Some (next, left, false) → carried_in next left ≡ whole
step_on kind octets whole next left is extends on =
    let shorter = past_shorter kind octets (next, left, false) on in
    sym (carried_more (length octets) next left shorter)
    ∙ sym (ap (after_past (λ k o. carried_within (length octets) k o)) on) ∙ step kind octets extends ∙ is
