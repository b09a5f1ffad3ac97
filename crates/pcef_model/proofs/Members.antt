-- The elements of lists that are filtered, and of rules that are put in.
use Rattle.std.proofs.Common.{◌≡◌, ◌∙◌, suc, zero, Bool, true, false, List, [], ◌∷◌, refl, sym, ap, arith, inl, inr, filter, map, Contains}
use Rattle.std.specs.Prelude.{◌⊎◌}
use Rattle.std.specs.List.{list_any}
use Rattle.std.proofs.lemmas.Bool.{cases_Bool}
use Rattle.pcef_model.proofs.Names.{Once}
use Rattle.pcef_model.specs.ActiveRules.{Active, is_named, put}
use Rattle.pcef_base.proofs.Tests.{contrary}
use Rattle.pcef_model.proofs.Sameness.{same_name_is, same_name_of}
use Rattle.pcef_model.proofs.BoundRules.{NamesOnce}
use Rattle.pcef_base.proofs.Found.{any_from}

pub first_there : {X : Type 0} (x : X) (xs : List X) → Contains (x ∷ xs) x
first_there x xs = (0, omega arith, refl)

pub later_there : {X : Type 0} (y : X) (xs : List X) (x : X) → Contains xs x → Contains (y ∷ xs) x
later_there y xs x (k, within, is) = (suc k, omega arith, is)

pub there_cases : {X : Type 0} (y : X) (xs : List X) (x : X) → Contains (y ∷ xs) x → (y ≡ x) ⊎ Contains xs x
there_cases y xs x (zero, within, is) = inl is
there_cases y xs x (suc k, within, is) = inr (k, omega arith, is)

-- ---- filters
pub filter_from : {X : Type 0} (t : X → Bool) (xs : List X) (x : X) → Contains (filter t xs) x → Contains xs x × (t x ≡ true)
filter_from t [] x (k, within, is) = absurd (omega arith)
filter_from t (y ∷ xs) x there =
    elim (cases_Bool (t y)) [
      | inl is ↦ elim (there_cases y (filter t xs) x (rw is at there)) [
        | inl same ↦ ((0, omega arith, same), ap t (sym same) ∙ is)
        | inr later ↦ let r = filter_from t xs x later in (later_there y xs x r.0, r.1)
      ]
      | inr isnt ↦ let r = filter_from t xs x (rw isnt at there) in (later_there y xs x r.0, r.1)
    ]

pub filter_to : {X : Type 0} (t : X → Bool) (xs : List X) (x : X) → Contains xs x → t x ≡ true → Contains (filter t xs) x
filter_to t [] x (k, within, is) passes = absurd (omega arith)
filter_to t (y ∷ xs) x there passes =
    elim (there_cases y xs x there) [
      | inl same ↦ let at_y : t y ≡ true = ap t same ∙ passes in rw at_y (0, omega arith, same)
      | inr later ↦ elim (cases_Bool (t y)) [
        | inl is ↦ rw is (later_there y (filter t xs) x (filter_to t xs x later passes))
        | inr isnt ↦ rw isnt (filter_to t xs x later passes)
      ]
    ]

-- ---- rules that are put in
pub put_new : (new : Active) (rules : List Active) → Contains (put new rules) new
put_new new [] = first_there new []
put_new new (r ∷ rules) =
    elim (cases_Bool (is_named new.properties.name r)) [
      | inl is ↦ rw is (first_there new rules)
      | inr isnt ↦ rw isnt (later_there r (put new rules) new (put_new new rules))
    ]

pub put_old : (new : Active) (rules : List Active) (r : Active) → Contains rules r → is_named new.properties.name r ≡ false → Contains (put new rules) r
put_old new [] r (k, within, is) differs = absurd (omega arith)
put_old new (x ∷ rules) r there differs =
    elim (there_cases x rules r there) [
      | inl same ↦ let at_x : is_named new.properties.name x ≡ false = ap (is_named new.properties.name) same ∙ differs in rw at_x (0, omega arith, same)
      | inr later ↦ elim (cases_Bool (is_named new.properties.name x)) [
        | inl is ↦ rw is (later_there new rules r later)
        | inr isnt ↦ rw isnt (later_there x (put new rules) r (put_old new rules r later differs))
      ]
    ]

-- a rule that is there after a put is the new one, or an older one of another name
pub put_cases : (new : Active) (rules : List Active) (r : Active) → NamesOnce rules → Contains (put new rules) r →
    (new ≡ r) ⊎ (Contains rules r × (is_named new.properties.name r ≡ false))
unfolding Once
put_cases new [] r once there =
    elim (there_cases new [] r there) [ inl same ↦ inl same | inr later ↦ absurd (omega (arith, later.1)) ]
put_cases new (x ∷ rules) r once there =
    elim (cases_Bool (is_named new.properties.name x)) [
      | inl is ↦ elim (there_cases new rules r (rw is at there)) [
        | inl same ↦ inl same
        | inr later ↦ inr (
          later_there x rules r later,
          elim (cases_Bool (is_named new.properties.name r)) [
            | inr isnt ↦ isnt
            | inl named ↦
                contrary (list_any (is_named x.properties.name) rules)
                (any_from (is_named x.properties.name) rules r later
                (same_name_of r.properties.name x.properties.name
                (same_name_is r.properties.name new.properties.name named ∙ sym (same_name_is x.properties.name new.properties.name is)))) once.0
          ],
        )
      ]
      | inr isnt ↦ elim (there_cases x (put new rules) r (rw isnt at there)) [
        | inl same ↦ inr ((0, omega arith, same), ap (is_named new.properties.name) (sym same) ∙ isnt)
        | inr later ↦ elim (put_cases new rules r once.1 later) [
          | inl same ↦ inl same
          | inr old ↦ inr (later_there x rules r old.0, old.1)
        ]
      ]
    ]

-- ---- entries that are changed one by one
pub map_from : {X Y : Type 0} (f : X → Y) (xs : List X) (y : Y) → Contains (map f xs) y → (x : X) × Contains xs x × (f x ≡ y)
map_from f [] y (k, within, is) = absurd (omega arith)
map_from f (x ∷ xs) y (zero, within, is) = (x, first_there x xs, is)
map_from f (x ∷ xs) y (suc k, within, is) = let r = map_from f xs y (k, omega arith, is) in (r.0, later_there x xs r.0 r.1, r.2)

pub map_to : {X Y : Type 0} (f : X → Y) (xs : List X) (x : X) → Contains xs x → Contains (map f xs) (f x)
map_to f [] x (k, within, is) = absurd (omega arith)
map_to f (y ∷ xs) x there =
    elim (there_cases y xs x there) [
      | inl same ↦ (0, omega arith, ap f same)
      | inr later ↦ later_there (f y) (map f xs) (f x) (map_to f xs x later)
    ]
