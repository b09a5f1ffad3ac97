-- The first line of some octets, and lines that are left.
use Rattle.std.proofs.Common.{◌≡◌, ◌∙◌, ◌+◌, ◌<◌, ◌≤◌, ℕ, suc, true, false, List, [], ◌∷◌, ◌++◌, length, take, drop, refl, sym, ap, arith}
use Rattle.std.specs.Prelude.{◌==◌, Some, None, slice_index}
use Rattle.std.specs.List.{All}
use Rattle.std.proofs.lemmas.Bool.{eqb-true, false_from_ne_true}
use Rattle.std.proofs.lemmas.List.{get_or-take, length-drop, length-take-le, take-append-drop, take_all}
use Rattle.std.proofs.lemmas.List.Elements.{All-from_get_or}
use Rattle.std.proofs.lemmas.List.Splits.{slice_split_at, slice_split_none}
use Rattle.std.proofs.Math.Seq.{drop-cons}
use Rattle.memchr.specs.Find.{IsFirstByte, Nowhere, Passes, is_byte}
use Rattle.pcef_page.specs.Pairing.{filled_from, is_unanswered, split_lines}
use Rattle.pcef_page.specs.private.Lines.{IsFirstLine}

none_before : (octets : List ℕ) (place : ℕ) → place ≤ length octets → Nowhere (Passes (is_byte 10) octets) 0 place
    → All (λ b. (b == 10) ≡ false) (take place octets)
none_before octets place le none =
    let long : length (take place octets) ≡ place = length-take-le place octets le in
    All-from_get_or (λ b. (b == 10) ≡ false) (take place octets) 0
    (λ i below. rw (get_or-take place octets i 0 (omega (arith, below, long))) (false_from_ne_true _ (none i (omega arith) (omega (arith, below, long)))))

-- nothing ends it
pub first_alone : (octets : List ℕ) → IsFirstByte (is_byte 10) octets None → split_lines octets ≡ octets ∷ []
first_alone octets none =
    let all = none_before octets (length octets) (omega arith) none in
    slice_split_none (λ b. b == 10) octets (rw (← take_all (length octets) octets (omega arith)) all)

-- where a search finds the line feed
pub first_found : (octets line back rest : List ℕ) (place : ℕ) → IsFirstByte (is_byte 10) octets (Some place) → line ≡ take place octets → back ≡ drop place octets → rest ≡ drop 1 back
    → IsFirstLine octets line (Some rest)
first_found octets line back rest place found front back_is rest_is =
    let below : place < length octets = found.0.high in
    let plain = none_before octets place (omega (arith, below)) found.0.before in
    let feed : slice_index octets place ≡ 10 = eqb-true (slice_index octets place) 10 found.1 in
    let at : drop place octets ≡ 10 ∷ drop (suc place) octets = drop-cons octets place 0 below ∙ ap (λ b. b ∷ drop (suc place) octets) feed in
    let later : rest ≡ drop (suc place) octets = rest_is ∙ ap (drop 1) (back_is ∙ at) in
    let whole : octets ≡ take place octets ++ 10 ∷ rest =
    sym (take-append-drop place octets) ∙ ap (λ t. take place octets ++ t) (at ∙ ap (λ t. 10 ∷ t) (sym later)) in
    let shorter : length rest + 1 ≤ length octets = omega (arith, ap length later ∙ length-drop (suc place) octets, below) in
    (ap split_lines whole ∙ slice_split_at (λ b. b == 10) (take place octets) 10 rest plain refl ∙ ap (λ l. l ∷ split_lines rest) (sym front), shorter)

-- a blank line is skipped, and the next one comes first
pub blank_first : (number : ℕ) (line : List ℕ) (lines : List (List ℕ)) → is_unanswered line ≡ true → filled_from number (line ∷ lines) ≡ filled_from (number + 1) lines
blank_first number line lines is = rw is refl

pub filled_first : (number : ℕ) (line : List ℕ) (lines : List (List ℕ)) → is_unanswered line ≡ false → filled_from number (line ∷ lines) ≡ (number, line) ∷ filled_from (number + 1) lines
filled_first number line lines is = rw is refl
