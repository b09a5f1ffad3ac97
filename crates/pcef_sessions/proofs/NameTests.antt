-- The test of a name finds names.
use Rattle.std.proofs.Common.{◌≡◌, ◌∙◌, ℕ, ◌≤◌, ◌<◌, List, length, Bool, true, false, Option, Some, None, refl, sym, ap, arith}
use Rattle.std.specs.Prelude.{◌&&◌, not, if◌then◌else◌}
use Rattle.std.specs.Bool.{Decides}
use Rattle.std.specs.List.{list_all}
use Rattle.std.specs.Str.{IsUtf8, bytes_eq}
use Rattle.std.proofs.lemmas.Bool.{and_parts, false_from_ne_true}
use Rattle.std.proofs.lemmas.Bool.Decides.{Decides-and, Decides-like, Decides-by_and, nat_tests}
use Rattle.std.proofs.lemmas.List.Elements.{All-weaker}
use Rattle.std.proofs.lemmas.Str.{IsUtf8-from_ascii}
use Rattle.std.proofs.lemmas.Str.Ascii.{IsAscii-from_all}
use Rattle.pcef_rule.specs.Name.{IsName, IsVisible}
use Rattle.pcef_line.specs.LineValues.{is_visible, is_name}
use Rattle.pcef_base.specs.Readings.{is_from_to}
use Rattle.pcef_sessions.specs.Addressed.{is_session_name, no_name}

decides_range : (least most n : ℕ) → Decides (is_from_to least most n) ((least ≤ n) × (n ≤ most))
decides_range least most n = (λ e. (grind (arith, nat_tests), grind (arith, nat_tests)), λ h. let low = h.0 in let high = h.1 in grind (arith, nat_tests))

pub decides_name : (text : List ℕ) → Decides (is_name text) (IsName text)
decides_name text =
    Decides-like (is_name text)
    (λ h. (omega (arith, h.0.0), h.0.1, h.1))
    (λ h. ((omega (arith, h.0), h.1), h.2))
    (Decides-and _ _ (decides_range 1 64 (length text)) (Decides-by_and is_visible IsVisible (list_all is_visible) (decides_range 33 126) refl (λ _ _. refl) text))

-- the name of a session is a name
pub session_names : (text : List ℕ) → is_session_name text ≡ true → IsName text
session_names text is = (decides_name text).0 (and_parts (is_name text) (not (bytes_eq text no_name)) is).0

abbrev pub named_as : List ℕ → Option (List ℕ)
named_as text = if is_session_name text then Some text else None

pub named : (text octets : List ℕ) → text ≡ octets → IsName text → bytes_eq octets no_name ≡ false → Some text ≡ named_as octets
named text octets same is other =
    let name : is_name octets ≡ true = (decides_name octets).1 (rw (← same) is) in
    ap (λ t. Some t) same ∙ sym (rw (name, other) refl)

pub unnamed : (text octets : List ℕ) → text ≡ octets → (IsName text → ⊥) → None ≡ named_as octets
unnamed text octets same isnt =
    sym (rw (false_from_ne_true (is_name octets) (λ e. isnt (rw same ((decides_name octets).0 e)))) refl)

-- nor has a session what stands where there is no name
by_dash : (named : Bool) → (named && not true) ≡ false
by_dash true = refl
by_dash false = refl

pub dash : (octets : List ℕ) → bytes_eq octets no_name ≡ true → None ≡ named_as octets
dash octets is =
    let isnt : is_session_name octets ≡ false = ap (λ same. is_name octets && not same) is ∙ by_dash (is_name octets) in
    sym (rw isnt refl)

-- a name is ASCII, and so UTF-8
pub name_utf8 : (text : List ℕ) → IsName text → IsUtf8 text
name_utf8 text is = IsUtf8-from_ascii text (IsAscii-from_all text (All-weaker IsVisible (λ b. b < 128) (λ b v. omega (arith, v.1)) text is.2))
