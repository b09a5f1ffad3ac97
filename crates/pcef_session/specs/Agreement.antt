-- When what a session keeps beside its journal agrees with it.
use Rattle.std.specs.Prelude.{ℕ, ◌≡◌, ◌+◌, List, [], ◌∷◌, Some, map}
use Rattle.std.specs.List.{AllByRecursion}
use Rattle.pcef_model.specs.Setting.{Setting}
use Rattle.pcef_model.specs.ActiveRules.{Active}
use Rattle.pcef_model.specs.Commands.{is_among}
use Rattle.pcef_model.specs.Entries.{Journal}
use Rattle.pcef_model.specs.Journals.{counted, grant, level_of, now, reported, slots}
use Rattle.pcef_table.specs.declared.entry.Source.{Source}
use Rattle.pcef_catalog.specs.declared.listing.Offer.{Offer}
use Rattle.pcef_usage.specs.declared.usage.KeyState.{KeyState}
use Rattle.pcef_session.specs.Shown.{entry_rule}

-- ---- rules
-- these are the rules by name, in their order: a dynamic rule is kept itself, a predefined one by its
-- place in the catalog
abbrev pub AreKept : List Offer → List (List ℕ × Source) → List Active → Type 0
AreKept offers [] [] = Unit {0}
AreKept offers [] (r ∷ rules) = ⊥
AreKept offers (e ∷ kept) [] = ⊥
AreKept offers (e ∷ kept) (r ∷ rules) = (e.0 ≡ r.properties.name) × (entry_rule offers e.1 ≡ Some r) × AreKept offers kept rules

-- ---- keys (TS 29.212, clauses 4.5.16 and 4.5.17)
-- what is kept of a key: its level, whether it is on, its grant, and its octets, which are those of the journal's rows
-- that count for it
pub record KeyAgrees (p : Setting) (j : Journal) (s : KeyState) : Type 0 where
  pub level_is : s.level ≡ level_of (now p j) s.key
  pub on_is : s.on ≡ is_among s.key (now p j).on
  pub grant_is : s.grant ≡ grant j s.key
  pub reported_is : s.reported ≡ reported j s.key
  pub counted_is : s.reported + s.unreported ≡ counted p j s.key

-- the keys that have a slot, in slot order, each as the journal says
pub record KeysAgree (p : Setting) (j : Journal) (keys : List KeyState) : Type 0 where
  pub keys_are : map (λ s. s.key) keys ≡ slots p j
  pub usage_is : AllByRecursion (KeyAgrees p j) keys
