-- Slots stay as the journal grows, and the key of each active rule has one.
use Rattle.std.proofs.Common.{◌≡◌, ◌∙◌, ℕ, true, List, [], ◌∷◌, ◌++◌, length, refl, sym, ap, subst, arith, inl, inr, Contains, Some, None, append-nil, append_assoc, nat_le}
use Rattle.std.specs.Prelude.{◌⊎◌, Option}
use Rattle.std.proofs.lemmas.Bool.{cases_Bool}
use Rattle.pcef_model.specs.declared.entry.Entry.TheVariants as entry
use Rattle.pcef_model.specs.declared.command.Command.{Command}
use Rattle.pcef_model.specs.Setting.{Setting}
use Rattle.pcef_model.specs.ActiveRules.{Active}
use Rattle.pcef_model.specs.Generations.{Generation, add_if_some, made_by, oldest, rules_after, slots_of, stays}
use Rattle.pcef_model.specs.Commands.{is_among, key_named, is_table}
use Rattle.pcef_model.specs.Entries.{Journal}
use Rattle.pcef_model.specs.Journals.{at, slots, tables}
use Rattle.pcef_model.proofs.Growth.{tables_of_other, tables_of_table}
use Rattle.pcef_model.specs.Slots.{place_of, slot_of}
use Rattle.pcef_model.proofs.BoundRules.{NamesOnce}
use Rattle.pcef_model.proofs.Members.{filter_from, put_cases}
use Rattle.pcef_model.proofs.Decisive.{made_once}
use Rattle.pcef_model.proofs.RulesAfter.{makes_active, rule_change, rules_left, rules_put}
use Rattle.pcef_model.proofs.SlotPlaces.{Grows, add_among, more_among, place_grown, slots_grow}

-- ---- the key of each active rule has a slot
abbrev pub HasSlot : List (List ℕ) → Option (List ℕ) → Type 0
HasSlot keys None = Unit {0}
HasSlot keys (Some key) = is_among key keys ≡ true

has_slot_later : (keys all : List (List ℕ)) (key : Option (List ℕ)) → Grows keys all → HasSlot keys key → HasSlot all key
has_slot_later keys all None grows has = tt
has_slot_later keys all (Some key) grows has = ap (is_among key) grows.1 ∙ more_among key keys grows.0 has

has_slot_named : (key : Option (List ℕ)) (keys : List (List ℕ)) → HasSlot (add_if_some key keys) key
has_slot_named None keys = tt
has_slot_named (Some key) keys = add_among key keys

-- a rule after a command was there before, or has the key that the command names
older : (p : Setting) (g : Generation) (c : Command) (r : Active) → NamesOnce g.rules → Contains (rules_after p g c) r → Contains g.rules r ⊎ (key_named p c ≡ r.properties.key)
older p g c r once there =
    elim (rule_change p c) [
      | inl makes ↦
          let named = (makes_active p c makes.0 makes.1).key_is in
          elim (put_cases makes.0 g.rules r once (subst (λ rs. Contains rs r) (rules_put p g c makes.0 makes.1) there)) [
            | inl new ↦ inr (named ∙ ap (λ (x : Active). x.properties.key) new)
            | inr old ↦ inl old.0
          ]
      | inr none ↦ inl (filter_from (stays g c) g.rules r (subst (λ rs. Contains rs r) (rules_left p g c none) there)).0
    ]

pub rules_have_slots : (p : Setting) (cs : List Command) (r : Active) → Contains (made_by p cs).rules r → HasSlot (slots_of p cs) r.properties.key
unfolding made_by slots_of
rules_have_slots p [] r there = absurd (omega (arith, there.1))
rules_have_slots p (c ∷ cs) r there =
    elim (older p (made_by p cs) c r (made_once p cs) there) [
      | inl old ↦ has_slot_later (slots_of p cs) (slots_of p (c ∷ cs)) r.properties.key (slots_grow p c cs) (rules_have_slots p cs r old)
      | inr named ↦ subst (λ k. HasSlot (slots_of p (c ∷ cs)) k) named (has_slot_named (key_named p c) (slots_of p cs))
    ]

-- the slots of the first commands are the first slots
pub grows_all : (a b c : List (List ℕ)) → Grows a b → Grows b c → Grows a c
grows_all a b c first second = (first.0 ++ second.0, second.1 ∙ ap (λ ks. ks ++ second.0) first.1 ∙ append_assoc a first.0 second.0)

pub oldest_grow : (p : Setting) (g : ℕ) (cs : List Command) → Grows (slots_of p (oldest g cs)) (slots_of p cs)
unfolding oldest slots_of
oldest_grow p g [] = ([], refl)
oldest_grow p g (c ∷ cs) =
    elim (cases_Bool (nat_le g (length cs))) [
      | inl before ↦ rw before (grows_all (slots_of p (oldest g cs)) (slots_of p cs) (slots_of p (c ∷ cs)) (oldest_grow p g cs) (slots_grow p c cs))
      | inr all ↦ rw all ([], sym (append-nil (slots_of p (c ∷ cs))))
    ]

-- each rule of an earlier generation has a slot now
pub shown_slots : (p : Setting) (j : Journal) (g : ℕ) (r : Active) → Contains (at p j g).rules r → HasSlot (slots p j) r.properties.key
shown_slots p j g r there =
    has_slot_later (slots_of p (oldest g (tables j))) (slots p j) r.properties.key (oldest_grow p g (tables j)) (rules_have_slots p (oldest g (tables j)) r there)

-- ---- a table as the journal grows
pub slot_stays : (keys all : List (List ℕ)) (key : Option (List ℕ)) → Grows keys all → HasSlot keys key → slot_of all key ≡ slot_of keys key
slot_stays keys all None grows has = refl
slot_stays keys all (Some key) grows has = ap (place_of key) grows.1 ∙ place_grown key keys grows.0 has

-- slots after a command
pub slots_grow_by : (p : Setting) (j : Journal) (c : Command) → Grows (slots p j) (slots p (entry.Command c ∷ j))
slots_grow_by p j c =
    elim (cases_Bool (is_table c)) [
      | inl is ↦ let grown = slots_grow p c (tables j) in (grown.0, ap (slots_of p) (tables_of_table j c is) ∙ grown.1)
      | inr isnt ↦ ([], ap (slots_of p) (tables_of_other j c isnt) ∙ sym (append-nil (slots p j)))
    ]
