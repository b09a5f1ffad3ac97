-- The rules that are kept by name, as commands change them.
use Rattle.std.proofs.Common.{◌≡◌, ◌∙◌, ℕ, suc, true, false, List, [], ◌∷◌, length, refl, ap, inl, inr, Some}
use Rattle.std.specs.List.{list_any}
use Rattle.std.proofs.lemmas.Bool.{cases_Bool}
use Rattle.pcef_table.specs.declared.entry.Source.{Source}
use Rattle.pcef_catalog.specs.declared.listing.Offer.{Offer}
use Rattle.pcef_model.specs.Setting.{same_name}
use Rattle.pcef_model.specs.ActiveRules.{Active, is_named, put}
use Rattle.pcef_session.specs.Agreement.{AreKept}
use Rattle.pcef_session.specs.Shown.{entry_rule}
use Rattle.pcef_active.specs.ByName.{NamedSource, is_kept_as, put_kept}

-- as many are kept as there are
pub kept_length : (offers : List Offer) (kept : List NamedSource) (rules : List Active) → AreKept offers kept rules → length kept ≡ length rules
kept_length offers [] [] are = refl
kept_length offers [] (r ∷ rules) are = absurd are
kept_length offers (e ∷ kept) [] are = absurd are
kept_length offers (e ∷ kept) (r ∷ rules) are = ap suc (kept_length offers kept rules are.2)

-- a rule becomes active
pub kept_put : (offers : List Offer) (new : Active) (source : Source) (kept : List NamedSource) (rules : List Active) → entry_rule offers source ≡ Some new → AreKept offers kept rules →
    AreKept offers (put_kept (new.properties.name, source) kept) (put new rules)
kept_put offers new source [] [] stands are = (refl, stands, tt)
kept_put offers new source [] (r ∷ rules) stands are = absurd are
kept_put offers new source (e ∷ kept) [] stands are = absurd are
kept_put offers new source (e ∷ kept) (r ∷ rules) stands are =
    let same : is_kept_as new.properties.name e ≡ is_named new.properties.name r = ap (λ (n : List ℕ). same_name n new.properties.name) are.0 in
    elim (cases_Bool (is_named new.properties.name r)) [
      | inl is ↦ let hit : is_kept_as new.properties.name e ≡ true = same ∙ is in rw (is, hit) (refl, stands, are.2)
      | inr isnt ↦
          let miss : is_kept_as new.properties.name e ≡ false = same ∙ isnt in
          rw (isnt, miss) (are.0, are.1, kept_put offers new source kept rules stands are.2)
    ]

-- a name is kept where a rule has it
pub kept_name : (offers : List Offer) (name : List ℕ) (kept : List NamedSource) (rules : List Active) → AreKept offers kept rules → list_any (is_kept_as name) kept ≡ list_any (is_named name) rules
kept_name offers name [] [] are = refl
kept_name offers name [] (r ∷ rules) are = absurd are
kept_name offers name (e ∷ kept) [] are = absurd are
kept_name offers name (e ∷ kept) (r ∷ rules) are =
    let same : is_kept_as name e ≡ is_named name r = ap (λ (n : List ℕ). same_name n name) are.0 in
    rw (same, kept_name offers name kept rules are.2) refl
