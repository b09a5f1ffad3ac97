-- A front of what is written.
use Rattle.std.proofs.Common.{◌∙◌, ◌++◌, ℕ, List, [], Option, refl, sym, ap, append_assoc}
use Rattle.std.specs.Io.KnownBytes.{Appends}
use Rattle.std.proofs.KnownBytes.{Appends-nil, Appends-trans}
use Rattle.pcef_base.specs.Writing.{AppendsFront}

-- nothing is a front of any bytes
pub front_none : (a : Option (List ℕ)) (xs : List ℕ) → AppendsFront a a xs
front_none a xs = ([], xs, refl, Appends-nil a)

-- some bytes of a text are some of a longer one
pub front_more : (a b : Option (List ℕ)) (xs ys : List ℕ) → AppendsFront a b xs → AppendsFront a b (xs ++ ys)
front_more a b xs ys h = (h.0, h.1 ++ ys, ap (λ t. t ++ ys) h.2 ∙ append_assoc h.0 h.1 ys, h.3)

-- a text, and then some bytes of another one
pub front_after : (a b c : Option (List ℕ)) (xs ys : List ℕ) → Appends a b xs → AppendsFront b c ys → AppendsFront a c (xs ++ ys)
front_after a b c xs ys w h =
    (xs ++ h.0, h.1, ap (λ t. xs ++ t) h.2 ∙ sym (append_assoc xs h.0 h.1), Appends-trans a b c xs h.0 w h.3)
