-- What a line asks, where it is within the limit.
use Rattle.std.proofs.Common.{◌≡◌, ◌∙◌, ℕ, ◌≤◌, Bool, true, false, nat_lt, List, length, refl, sym, ap, arith}
use Rattle.std.specs.Str.{IsUtf8, is_utf8}
use Rattle.std.proofs.lemmas.Bool.{false_from_ne_true}
use Rattle.std.proofs.lemmas.Bool.Decides.{nat_tests}
use Rattle.std.proofs.lemmas.Str.{IsUtf8-from_is_utf8, is_utf8-from_IsUtf8}
use Rattle.pcef_script.specs.ScriptLines.{line_most}
use Rattle.pcef_sessions.specs.declared.asking.Asking.{Asking}
use Rattle.pcef_sessions.specs.declared.asking.Asking.TheVariants.{Script}
use Rattle.pcef_sessions.specs.Asked.{asked_of, asked_text}

short : (n : ℕ) → n ≤ line_most → nat_lt line_most n ≡ false
short n le = grind (arith, nat_tests)

pub asked_utf8 : (line text : List ℕ) → length line ≤ line_most → text ≡ line → IsUtf8 line → asked_text text ≡ asked_of line
asked_utf8 line text le same holds =
    let within : nat_lt line_most (length line) ≡ false = short (length line) le in
    let utf8 : is_utf8 line ≡ true = is_utf8-from_IsUtf8 line holds in
    ap asked_text same ∙ sym (rw (within, utf8) refl)

pub asked_other : (line : List ℕ) → length line ≤ line_most → ¬ (IsUtf8 line) → Script ≡ asked_of line
asked_other line le isnt =
    let within : nat_lt line_most (length line) ≡ false = short (length line) le in
    let utf8 : is_utf8 line ≡ false = false_from_ne_true (is_utf8 line) (λ e. isnt (IsUtf8-from_is_utf8 line e)) in
    sym (rw (within, utf8) refl)
