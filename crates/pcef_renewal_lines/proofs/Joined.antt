-- Texts with something between them, whatever they are texts of.
use Rattle.std.proofs.Common.{◌≡◌, ◌∙◌, ℕ, List, [], ◌∷◌, ◌++◌, ap, map, refl, sym}
use Rattle.std.specs.List.{flat_map, join_by}

following : {X : Type 0} (f : X → List ℕ) (sep : List ℕ) (xs : List X) → flat_map (λ x. sep ++ f x) xs ≡ flat_map (λ t. sep ++ t) (map f xs)
following f sep [] = refl
following f sep (x ∷ xs) = ap (λ rest. (sep ++ f x) ++ rest) (following f sep xs)

pub joined : {X : Type 0} (f : X → List ℕ) (sep : List ℕ) (xs : List X) → join_by f sep xs ≡ join_by (λ t. t) sep (map f xs)
joined f sep [] = refl
joined f sep (x ∷ xs) = ap (λ rest. f x ++ rest) (following f sep xs)

pub joined_alike : {X Y : Type 0} (f : X → List ℕ) (g : Y → List ℕ) (sep : List ℕ) (xs : List X) (ys : List Y) → map f xs ≡ map g ys → join_by f sep xs ≡ join_by g sep ys
joined_alike f g sep xs ys same = joined f sep xs ∙ ap (join_by (λ t. t) sep) same ∙ sym (joined g sep ys)
