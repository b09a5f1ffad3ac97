-- What the map's definitions say of the rule of a name, in terms of this crate's.
use Rattle.std.proofs.Common.{◌≡◌, ℕ, true, false, List, [], ◌∷◌, refl, ap, sym, subst, inl, inr, is_some}
use Rattle.std.specs.List.{AllByRecursion, IsDistinct, list_any}
use Rattle.std.specs.Map.{keys_of, lookup}
use Rattle.std.proofs.lemmas.Bool.{cases_Bool}
use Rattle.indexmap.specs.IndexMap.{insert_entry, shift_remove_entry}
use Rattle.pcef_model.specs.Setting.{same_name}
use Rattle.pcef_model.proofs.Sameness.{same_name_is, same_name_not, same_name_turned}
use Rattle.pcef_table.specs.declared.entry.Source.{Source}
use Rattle.pcef_active.specs.ByName.{NamedSource, is_kept_as, put_kept, without_kept}

pub found_is : (name : List ℕ) (rules : List NamedSource) → is_some (lookup (same_name name) rules) ≡ list_any (is_kept_as name) rules
found_is name [] = refl
found_is name (e ∷ rules) =
    elim (cases_Bool (same_name name e.0)) [
      | inl is ↦ let own : is_kept_as name e ≡ true = same_name_turned name e.0 is in rw (is, own) refl
      | inr isnt ↦ let other : is_kept_as name e ≡ false = same_name_not name e.0 isnt in rw (isnt, other) (found_is name rules)
    ]

pub inserted_is : (name : List ℕ) (source : Source) (rules : List NamedSource) → insert_entry same_name rules name source ≡ put_kept (name, source) rules
inserted_is name source [] = refl
inserted_is name source (e ∷ rules) =
    elim (cases_Bool (same_name name e.0)) [
      | inl is ↦
          let own : is_kept_as name e ≡ true = same_name_turned name e.0 is in
          rw (is, own) (ap (λ (n : List ℕ). (n, source) ∷ rules) (sym (same_name_is name e.0 is)))
      | inr isnt ↦
          let other : is_kept_as name e ≡ false = same_name_not name e.0 isnt in
          rw (isnt, other) (ap (λ rest. e ∷ rest) (inserted_is name source rules))
    ]

-- where no rule has the name, all stay
all_stay : (name : List ℕ) (rules : List NamedSource) → AllByRecursion (λ other. same_name name other ≡ false) (keys_of rules) → without_kept name rules ≡ rules
all_stay name [] none = refl
all_stay name (e ∷ rules) none =
    let other : is_kept_as name e ≡ false = same_name_not name e.0 none.0 in
    rw other (ap (λ rest. e ∷ rest) (all_stay name rules none.1))

-- the map removes the first one of a name, and no other has it
pub removed_is : (name : List ℕ) (rules : List NamedSource) → IsDistinct same_name (keys_of rules) → shift_remove_entry (same_name name) rules ≡ without_kept name rules
unfolding IsDistinct
removed_is name [] once = refl
removed_is name (e ∷ rules) once =
    elim (cases_Bool (same_name name e.0)) [
      | inl is ↦
          let own : is_kept_as name e ≡ true = same_name_turned name e.0 is in
          let none : AllByRecursion (λ other. same_name name other ≡ false) (keys_of rules) =
          subst (λ (n : List ℕ). AllByRecursion (λ other. same_name n other ≡ false) (keys_of rules)) (sym (same_name_is name e.0 is)) once.0 in
          rw (is, own) (sym (all_stay name rules none))
      | inr isnt ↦
          let other : is_kept_as name e ≡ false = same_name_not name e.0 isnt in
          rw (isnt, other) (ap (λ rest. e ∷ rest) (removed_is name rules once.1))
    ]
