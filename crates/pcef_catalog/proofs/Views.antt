-- What a place of the rules says of the same place of their offers.
use Rattle.std.proofs.Common.{◌≡◌, ◌<◌, ◌∙◌, ℕ, zero, suc, Bool, true, List, [], ◌∷◌, Some, ap, arith, drop, find, get_or, length, map, refl}
use Rattle.std.specs.List.{slice_get}
use Rattle.std.specs.Option.{option_map}
use Rattle.std.proofs.lemmas.Option.{slice_get-map, slice_get_read}
use Rattle.std.proofs.lemmas.List.{length-map}
use Rattle.pcef_catalog.specs.declared.listing.Offer.{Offer}
use Rattle.pcef_catalog.specs.declared.predefined.Predefined.{Predefined}
use Rattle.pcef_catalog.specs.Offers.{names_of}
use Rattle.pcef_catalog.specs.PlainRules.{offer_of, offers_in}

-- the view of what indexing read stands in the list of the views
pub read_view : {A B : Type 0} (view : A → B) (xs : List A) (i : ℕ) (x : A) → i < length (map view xs) → x ≡ get_or xs i x → slice_get (map view xs) i ≡ Some (view x)
read_view view xs i x h e =
    let in_range : i < length xs = rw length-map at h in
    slice_get-map view xs i ∙ ap (option_map view) (slice_get_read xs (length xs) i x refl in_range e)

-- the name of the rule that indexing read stands among the names
pub read_name : {d h g : _} (rules : List (Predefined d h g)) (i : ℕ) (x : Predefined d h g) → i < length rules → x ≡ get_or rules i x → slice_get (names_of (offers_in rules)) i ≡ Some x.properties.name
read_name rules i x h e =
    slice_get-map (λ (o : Offer). o.properties.name) (offers_in rules) i
    ∙ ap (option_map (λ (o : Offer). o.properties.name)) (read_view offer_of rules i x (rw length-map h) e)

-- the first one that passes a test from a place on, where the one at the place does
pub find_here : {A : Type 0} (test : A → Bool) (xs : List A) (i : ℕ) (x : A) → i < length xs → x ≡ get_or xs i x → test x ≡ true → slice_get xs i ≡ find test (drop i xs)
find_here test [] i x within is passes = absurd (omega arith)
find_here test (y ∷ ys) zero x within is passes = let first : test y ≡ true = rw is at passes in rw first refl
find_here test (y ∷ ys) (suc i) x within is passes = find_here test ys i x (omega arith) is passes
