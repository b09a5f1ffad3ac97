-- Where the first space of a line stands.
use Rattle.std.proofs.Common.{◌≡◌, ◌∙◌, ◌+◌, ℕ, suc, List, [], ◌∷◌, length, take, drop, sym, ap, arith}
use Rattle.std.specs.Prelude.{◌==◌, Some, None, slice_index}
use Rattle.std.proofs.lemmas.Bool.{false_from_ne_true}
use Rattle.std.proofs.lemmas.List.{drop_all, take_all}
use Rattle.std.proofs.lemmas.List.Sums.{position_or_len_is}
use Rattle.std.proofs.Math.Seq.{drop-cons}
use Rattle.memchr.specs.Find.{IsFirstByte, is_byte}
use Rattle.pcef_page.specs.Times.{space_in}

none_is : (line : List ℕ) → IsFirstByte (is_byte 32) line None → space_in line ≡ length line
none_is line none =
    position_or_len_is (λ b. b == 32) line (length line) 0 (omega arith)
    (λ k below. false_from_ne_true _ (none k (omega arith) below)) (λ bad. absurd (omega (arith, bad)))

place_is : (line : List ℕ) (place : ℕ) → IsFirstByte (is_byte 32) line (Some place) → space_in line ≡ place
place_is line place found =
    position_or_len_is (λ b. b == 32) line place 0 (omega (arith, found.0.high))
    (λ k below. false_from_ne_true _ (found.0.before k (omega arith) below)) (λ _. found.1)

pub front_alone : (line : List ℕ) → IsFirstByte (is_byte 32) line None → line ≡ take (space_in line) line
front_alone line none = sym (take_all (space_in line) line (omega (arith, none_is line none)))

pub back_alone : (line : List ℕ) → IsFirstByte (is_byte 32) line None → drop (space_in line + 1) line ≡ []
back_alone line none = drop_all (space_in line + 1) line (omega (arith, none_is line none))

pub front_found : (line : List ℕ) (place : ℕ) → IsFirstByte (is_byte 32) line (Some place) → take place line ≡ take (space_in line) line
front_found line place found = ap (λ n. take n line) (sym (place_is line place found))

pub back_found : (line back : List ℕ) (place : ℕ) → IsFirstByte (is_byte 32) line (Some place) → back ≡ drop place line → drop 1 back ≡ drop (space_in line + 1) line
back_found line back place found is =
    let at : drop place line ≡ slice_index line place ∷ drop (suc place) line = drop-cons line place 0 found.0.high in
    let next : suc place ≡ space_in line + 1 = omega (arith, place_is line place found) in
    ap (drop 1) (is ∙ at) ∙ ap (λ n. drop n line) next
