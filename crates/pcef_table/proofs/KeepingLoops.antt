-- A loop that keeps some of a list's items.
use Rattle.std.proofs.Common.{◌≡◌, ◌∙◌, ◌<◌, ◌+◌, ◌++◌, ◌∷◌, [], ℕ, Bool, List, cond, filter, get_or, length, take, append_assoc, ap, sym, subst, if◌then◌else◌}
use Rattle.std.proofs.lemmas.List.Elements.{filter_more}

-- one more was looked at
pub one_more : {X : Type 0} (p : X → Bool) (xs first now new : List X) (i : ℕ) (x : X) (stays : Bool) → i < length xs → get_or xs i x ≡ x → stays ≡ p x
    → now ≡ first ++ filter p (take i xs) → new ≡ now ++ (if stays then x ∷ [] else []) → new ≡ first ++ filter p (take (i + 1) xs)
one_more {X} p xs first now new i x stays within own asked so_far is =
    let last : List X = if stays then x ∷ [] else [] in
    let more : filter p (take (i + 1) xs) ≡ filter p (take i xs) ++ cond (p x) (x ∷ []) [] =
    subst (λ y. filter p (take (i + 1) xs) ≡ filter p (take i xs) ++ cond (p y) (y ∷ []) []) own (filter_more p xs i x within) in
    is ∙ ap (λ ys. ys ++ last) so_far ∙ append_assoc first (filter p (take i xs)) last
    ∙ ap (λ ys. first ++ ys) (ap (λ b. filter p (take i xs) ++ cond b (x ∷ []) []) asked ∙ sym more)
