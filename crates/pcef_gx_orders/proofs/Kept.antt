-- What is kept of a session is what its journal says.
use Rattle.std.proofs.Common.{◌≡◌, ◌∙◌, ◌+◌, ℕ, zero, suc, Bool, true, false, List, [], ◌∷◌, drop, filter, map, refl, sym, ap, arith, inl, inr, Some, None}
use Rattle.std.specs.Prelude.{Option, find, option_map, slice_get, if◌then◌else◌}
use Rattle.std.specs.List.{AllByRecursion}
use Rattle.std.proofs.lemmas.Bool.{cases_Bool}
use Rattle.pcef_active.specs.ByName.{NamedSource, is_kept_as}
use Rattle.pcef_catalog.specs.declared.listing.Offer.{Offer}
use Rattle.pcef_model.specs.ActiveRules.{Active, dynamic, is_named, predefined}
use Rattle.pcef_model.specs.Commands.{is_among}
use Rattle.pcef_model.specs.Entries.{Journal}
use Rattle.pcef_model.specs.Journals.{now, slots}
use Rattle.pcef_model.specs.Setting.{Setting, same_name}
use Rattle.pcef_rule.specs.Definition.{Definition}
use Rattle.pcef_session.specs.Agreement.{AreKept, KeyAgrees, KeysAgree}
use Rattle.pcef_session.specs.Shown.{entry_rule}
use Rattle.pcef_table.specs.declared.entry.Source.{Source}
use Rattle.pcef_table.specs.declared.entry.Source.TheVariants.{Dynamic, Predefined}
use Rattle.pcef_usage.specs.declared.usage.KeyState.{KeyState}
use Rattle.pcef_gx_orders.specs.Keeping.{definition_of, kept_definition, kept_if, on_of}
use Rattle.pcef_gx_orders.specs.Standing.{definition_by, definition_if, keys_on}

-- ---- rules
-- a dynamic rule is kept by its definition, and a predefined one has none
offered : (o : Option Offer) (r : Active) → option_map predefined o ≡ Some r → None ≡ definition_by r.properties r.detection
offered None r is = absurd cc
offered (Some o) r is = let e : predefined o ≡ r = cc in rw (← e) refl

one_definition : (offers : List Offer) (source : Source) (r : Active) → entry_rule offers source ≡ Some r → definition_of source ≡ definition_if (Some r)
one_definition offers (Dynamic rule) r is = let e : dynamic rule ≡ r = cc in rw (← e) refl
one_definition offers (Predefined place) r is = offered (slice_get offers place) r is

-- the rule of a name is kept by it
pub kept_active : (offers : List Offer) (name : List ℕ) (kept : List NamedSource) (rules : List Active) → AreKept offers kept rules →
    kept_definition name kept ≡ definition_if (find (is_named name) rules)
kept_active offers name [] [] are = refl
kept_active offers name [] (r ∷ rules) are = absurd are
kept_active offers name (e ∷ kept) [] are = absurd are
kept_active offers name (e ∷ kept) (r ∷ rules) are =
    let same : is_kept_as name e ≡ is_named name r = ap (λ (n : List ℕ). same_name n name) are.0 in
    elim (cases_Bool (is_named name r)) [
      | inl is ↦ let hit : is_kept_as name e ≡ true = same ∙ is in rw (is, hit) (one_definition offers e.1 r are.1)
      | inr isnt ↦ let miss : is_kept_as name e ≡ false = same ∙ isnt in rw (isnt, miss) (kept_active offers name kept rules are.2)
    ]

-- ---- keys
on_are : (p : Setting) (j : Journal) (states : List KeyState) → AllByRecursion (KeyAgrees p j) states →
    on_of states ≡ filter (λ key. is_among key (now p j).on) (map (λ s. s.key) states)
on_are p j [] agree = refl
on_are p j (s ∷ states) agree =
    elim (cases_Bool s.on) [
      | inl is ↦ let among : is_among s.key (now p j).on ≡ true = sym agree.0.on_is ∙ is in rw (is, among, on_are p j states agree.1) refl
      | inr isnt ↦ let among : is_among s.key (now p j).on ≡ false = sym agree.0.on_is ∙ isnt in rw (isnt, among, on_are p j states agree.1) refl
    ]

pub keys_are_on : (p : Setting) (j : Journal) (states : List KeyState) → KeysAgree p j states → on_of states ≡ keys_on p j
keys_are_on p j states agree = on_are p j states agree.usage_is ∙ ap (λ keys. filter (λ key. is_among key (now p j).on) keys) agree.keys_are

-- ---- places
-- what is kept from a place on: the rule there, or one behind it
pub kept_from : (name : List ℕ) (kept : List NamedSource) (place : ℕ) (e : NamedSource) → slice_get kept place ≡ Some e →
    kept_definition name (drop place kept) ≡ (if is_kept_as name e then definition_of e.1 else kept_definition name (drop (place + 1) kept))
kept_from name [] place e is = absurd cc
kept_from name (first ∷ kept) zero e is =
    let same : first ≡ e = cc in
    elim (cases_Bool (is_kept_as name first)) [
      | inl hit ↦ rw (← same, hit) refl
      | inr miss ↦ rw (← same, miss) refl
    ]
kept_from name (first ∷ kept) (suc place) e is = let more : suc place + 1 ≡ suc (place + 1) = omega arith in rw more (kept_from name kept place e is)

-- behind the last place there is nothing
pub kept_past : (name : List ℕ) (kept : List NamedSource) (place : ℕ) → slice_get kept place ≡ None →
    kept_definition name (drop (place + 1) kept) ≡ kept_definition name (drop place kept)
kept_past name [] zero none = refl
kept_past name [] (suc place) none = let more : suc place + 1 ≡ suc (place + 1) = omega arith in rw more refl
kept_past name (first ∷ kept) zero none = absurd cc
kept_past name (first ∷ kept) (suc place) none = let more : suc place + 1 ≡ suc (place + 1) = omega arith in rw more (kept_past name kept place none)

pub kept_here : (name : List ℕ) (kept : List NamedSource) (place : ℕ) (e : NamedSource) → slice_get kept place ≡ Some e → is_kept_as name e ≡ true →
    kept_definition name (drop place kept) ≡ definition_of e.1
kept_here name kept place e is hit = kept_from name kept place e is ∙ (rw hit refl)

pub kept_later : (name : List ℕ) (kept : List NamedSource) (place : ℕ) (e : NamedSource) → slice_get kept place ≡ Some e → is_kept_as name e ≡ false →
    kept_definition name (drop place kept) ≡ kept_definition name (drop (place + 1) kept)
kept_later name kept place e is miss = kept_from name kept place e is ∙ (rw miss refl)
