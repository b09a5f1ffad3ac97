-- Rows of a list, one after the other.
use Rattle.std.proofs.Common.{◌≡◌, ◌∙◌, ◌+◌, ◌<◌, ℕ, List, ◌∷◌, drop, length, get_or, map, sym, ap}
use Rattle.std.proofs.lemmas.List.{drop-map, drop_more}

pub mapped_here : {X Y : Type 0} (f : X → Y) (xs : List X) (i : ℕ) (x : X) → i < length xs → x ≡ get_or xs i x
    → drop i (map f xs) ≡ f x ∷ drop (i + 1) (map f xs)
mapped_here f xs i x within is =
    drop-map f i xs ∙ ap (map f) (drop_more xs i x within) ∙ ap (λ y. f y ∷ map f (drop (i + 1) xs)) (sym is) ∙ ap (λ ys. f x ∷ ys) (sym (drop-map f (i + 1) xs))
