-- Which octets are texts.
use Rattle.std.proofs.Common.{◌≡◌, List, ℕ, true, false}
use Rattle.std.specs.Str.{IsUtf8, is_utf8}
use Rattle.std.proofs.lemmas.Bool.{false_from_ne_true}
use Rattle.std.proofs.lemmas.Str.{IsUtf8-from_is_utf8, is_utf8-from_IsUtf8}

pub text_is : (octets : List ℕ) → IsUtf8 octets → is_utf8 octets ≡ true
text_is octets is = is_utf8-from_IsUtf8 octets is

pub text_isnt : (octets : List ℕ) → ¬ (IsUtf8 octets) → is_utf8 octets ≡ false
text_isnt octets isnt = false_from_ne_true (is_utf8 octets) (λ is. isnt (IsUtf8-from_is_utf8 octets is))
