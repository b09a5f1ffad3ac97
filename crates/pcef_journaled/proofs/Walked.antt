-- Lists read from the oldest on and from the newest on.
use Rattle.std.proofs.Common.{◌≡◌, ◌∙◌, sym, ap, refl, Bool, true, false, List, [], ◌∷◌, ◌++◌}
use Rattle.std.specs.Prelude.{reverse, filter, if◌then◌else◌}
use Rattle.std.proofs.lemmas.List.{append-nil, reverse-append}
use Rattle.std.proofs.lemmas.List.Elements.{filter-append}

reverse-filter-cons : {X : Type 0} (p : X → Bool) (x : X) (xs : List X) → reverse (filter p (x ∷ xs)) ≡ reverse (filter p xs) ++ filter p (x ∷ [])
reverse-filter-cons p x xs =
    elim (p x) as (λ b. reverse (if b then x ∷ filter p xs else filter p xs) ≡ reverse (filter p xs) ++ (if b then x ∷ [] else [])) [
      | true ↦ reverse-append (x ∷ []) (filter p xs)
      | false ↦ sym (append-nil (reverse (filter p xs)))
    ]

pub filter-reverse : {X : Type 0} (p : X → Bool) (xs : List X) → filter p (reverse xs) ≡ reverse (filter p xs)
filter-reverse p [] = refl
filter-reverse p (x ∷ xs) =
    ap (filter p) (reverse-append (x ∷ []) xs) ∙ filter-append p (reverse xs) (x ∷ [])
    ∙ ap (λ ys. ys ++ filter p (x ∷ [])) (filter-reverse p xs) ∙ sym (reverse-filter-cons p x xs)
