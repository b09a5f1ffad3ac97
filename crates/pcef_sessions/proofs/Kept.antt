-- What is kept of a line, and the lines that get an answer.
use Rattle.std.proofs.Common.{◌≡◌, ◌∙◌, ℕ, zero, suc, ◌-◌, Bool, true, false, append-nil, List, [], ◌∷◌, ◌++◌, length, take, min, refl, sym, ap, arith}
use Rattle.std.proofs.lemmas.List.{take_min}
use Rattle.pcef_script.specs.ScriptAnswers.{answered}
use Rattle.pcef_script.specs.ScriptLines.{is_blank_line}
use Rattle.pcef_script.proofs.Answering.{answered_blank, answered_more, answered_one}
use Rattle.pcef_sessions.specs.private.Running.{most_kept}
use Rattle.pcef_sessions.proofs.Cutting.{blank_kept}

take_on : (n : ℕ) (xs ys : List ℕ) → take n xs ++ take (n - length (take n xs)) ys ≡ take n (xs ++ ys)
take_on zero xs ys = refl
take_on (suc n) [] ys =
    let same : suc n - 0 ≡ suc n = omega arith in
    ap (λ m. take m ys) same
take_on (suc n) (x ∷ xs) ys =
    let same : suc n - length (x ∷ take n xs) ≡ n - length (take n xs) = omega arith in
    ap (λ m. x ∷ (take n xs ++ take m ys)) same ∙ ap (λ t. x ∷ t) (take_on n xs ys)

pub kept_more : (line bytes whole : List ℕ) (most : ℕ) → line ≡ take most whole → line ++ take (min (most - length line) (length bytes)) bytes ≡ take most (whole ++ bytes)
kept_more line bytes whole most is =
    ap (λ t. line ++ t) (take_min (most - length line) bytes) ∙ ap (λ t. t ++ take (most - length t) bytes) is ∙ take_on most whole bytes

pub answered_kept : (lines : List (List ℕ)) (line kept : List ℕ) → kept ≡ take most_kept line → is_blank_line kept ≡ false → answered (lines ++ line ∷ []) ≡ answered lines ++ line ∷ []
answered_kept lines line kept is filled =
    answered_more lines (line ∷ []) ∙ ap (λ t. answered lines ++ t) (answered_one line (sym (blank_kept line) ∙ ap is_blank_line (sym is) ∙ filled))

pub answered_kept_blank : (lines : List (List ℕ)) (line kept : List ℕ) → kept ≡ take most_kept line → is_blank_line kept ≡ true → answered (lines ++ line ∷ []) ≡ answered lines
answered_kept_blank lines line kept is blank =
    answered_more lines (line ∷ []) ∙ ap (λ t. answered lines ++ t) (answered_blank line (sym (blank_kept line) ∙ ap is_blank_line (sym is) ∙ blank)) ∙ append-nil (answered lines)
