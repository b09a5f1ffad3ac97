-- The first line of an input.
use Rattle.std.proofs.Common.{◌≡◌, ◌∙◌, ◌+◌, ◌<◌, ◌≤◌, ℕ, suc, false, List, [], ◌∷◌, ◌++◌, length, take, drop, refl, sym, ap, arith}
use Rattle.std.specs.Prelude.{Option, Some, None}
use Rattle.std.specs.Prelude.{◌==◌, slice_index}
use Rattle.std.proofs.lemmas.Bool.{eqb-true, or_parts}
use Rattle.std.proofs.lemmas.List.{length-drop, take-append-drop, take_all}
use Rattle.std.proofs.Math.Seq.{drop-cons}
use Rattle.memchr.specs.Find.{IsFirstByte, is_byte}
use Rattle.pcef_script.specs.ScriptLines.{has_feed}
use Rattle.pcef_script.specs.Scripts.{IsFirstLine, all_lines, cut}
use Rattle.pcef_script.proofs.Cuts.{cut_run}
use Rattle.pcef_script.proofs.Feeds.{before_feed, without_feed}

cut_first : (plain rest : List ℕ) → has_feed plain ≡ false → cut (plain ++ 10 ∷ rest) ≡ (plain ∷ (cut rest).0, (cut rest).1)
unfolding cut
cut_first [] rest none = refl
cut_first (b ∷ plain) rest none =
    let parts = or_parts (b == 10) (has_feed plain) none in
    rw (parts.0, cut_first plain rest parts.1) refl

none_cut : cut [] ≡ ([], [])
unfolding cut
none_cut = refl

-- a line feed ends it
pub first_ended : (plain rest : List ℕ) → has_feed plain ≡ false → all_lines (plain ++ 10 ∷ rest) ≡ plain ∷ all_lines rest
first_ended plain rest none = ap (λ (c : List (List ℕ) × List ℕ). c.0 ++ c.1 ∷ []) (cut_first plain rest none)

-- nothing ends it
pub first_alone : (input : List ℕ) → IsFirstByte (is_byte 10) input None → all_lines input ≡ input ∷ []
first_alone input found =
    let all : input ≡ take (length input) input = sym (take_all (length input) input (omega arith)) in
    let none : has_feed input ≡ false = ap has_feed all ∙ without_feed input input (length input) all found refl in
    ap (λ (c : List (List ℕ) × List ℕ). c.0 ++ c.1 ∷ []) (cut_run [] input none ∙ ap (λ (c : List (List ℕ) × List ℕ). (c.0, c.1 ++ input)) none_cut)

-- whatever follows it
pub first_then : (input line : List ℕ) (later : Option (List ℕ)) → IsFirstLine input line later → (rest : List (List ℕ)) × (all_lines input ≡ line ∷ rest)
first_then input line None is = ([], is)
first_then input line (Some rest) is = (all_lines rest, is.0)

-- where a search finds the line feed
pub first_found : (input line back rest : List ℕ) (place : ℕ) → IsFirstByte (is_byte 10) input (Some place) → line ≡ take place input → back ≡ drop place input → rest ≡ drop 1 back
    → IsFirstLine input line (Some rest)
first_found input line back rest place found front back_is rest_is =
    let all : input ≡ take (length input) input = sym (take_all (length input) input (omega arith)) in
    let below : place < length input = found.0.high in
    let none : has_feed (take place input) ≡ false = before_feed input input (length input) place all (omega arith) refl found in
    let feed : slice_index input place ≡ 10 = eqb-true (slice_index input place) 10 found.1 in
    let at : drop place input ≡ 10 ∷ drop (suc place) input = drop-cons input place 0 below ∙ ap (λ b. b ∷ drop (suc place) input) feed in
    let later : rest ≡ drop (suc place) input = rest_is ∙ ap (drop 1) (back_is ∙ at) in
    let whole : input ≡ line ++ 10 ∷ rest = sym (take-append-drop place input) ∙ ap (λ t. take place input ++ t) (at ∙ ap (λ t. 10 ∷ t) (sym later)) ∙ ap (λ t. t ++ 10 ∷ rest) (sym front) in
    let plain : has_feed line ≡ false = ap has_feed front ∙ none in
    let shorter : length rest + 1 ≤ length input = omega (arith, ap length later ∙ length-drop (suc place) input, below) in
    (ap all_lines whole ∙ first_ended line rest plain, shorter)
