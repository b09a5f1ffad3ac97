-- What a command does to the rules: it makes one active and leaves the others, or it makes none active and may take some away.
use Rattle.std.proofs.Common.{◌≡◌, ◌∙◌, ℕ, true, false, List, [], ◌∷◌, refl, sym, ap, inl, inr, filter, Some, None}
use Rattle.std.specs.Prelude.{Option, ◌⊎◌, find}
use Rattle.std.specs.Option.{option_map}
use Rattle.std.proofs.lemmas.Bool.{cases_Bool}
use Rattle.pcef_catalog.specs.declared.listing.Offer.{Offer}
use Rattle.pcef_model.specs.declared.command.Command.{Command}
use Rattle.pcef_model.specs.declared.command.Command.TheVariants.{Install, Activate, Remove, Monitor, Stop, ReportNow, Triggers, Notice, LoseBearer, Close, Terminate}
use Rattle.pcef_model.specs.Setting.{Setting, offer_named, same_name}
use Rattle.pcef_model.specs.ActiveRules.{Active, dynamic, predefined, put, put_if_some}
use Rattle.pcef_model.specs.Commands.{activated, is_table, key_offered}
use Rattle.pcef_model.specs.Generations.{Generation, rules_after, stays}
use Rattle.pcef_model.specs.Changes.{MakesActive}
use Rattle.pcef_model.proofs.Sameness.{same_name_is}

pub filter_all : {X : Type 0} (xs : List X) → filter (λ x. true) xs ≡ xs
filter_all [] = refl
filter_all (x ∷ xs) = ap (λ ys. x ∷ ys) (filter_all xs)

-- ---- a command that makes a rule active
-- it leaves the others
others_stay : (p : Setting) (g : Generation) (c : Command) (r : Active) → activated p c ≡ Some r → filter (stays g c) g.rules ≡ g.rules
others_stay p g (Install rule) r is = filter_all g.rules
others_stay p g (Activate name) r is = filter_all g.rules
others_stay p g (Remove name) r is = absurd cc
others_stay p g (Monitor key amount level) r is = absurd cc
others_stay p g (Stop key) r is = absurd cc
others_stay p g (ReportNow key) r is = absurd cc
others_stay p g (Triggers set) r is = absurd cc
others_stay p g (Notice kind value) r is = absurd cc
others_stay p g (LoseBearer id) r is = absurd cc
others_stay p g Close r is = absurd cc
others_stay p g Terminate r is = absurd cc

pub rules_put : (p : Setting) (g : Generation) (c : Command) (r : Active) → activated p c ≡ Some r → rules_after p g c ≡ put r g.rules
rules_put p g c r is = ap (λ o. put_if_some o (filter (stays g c) g.rules)) is ∙ ap (put r) (others_stay p g c r is)

-- it makes a generation, names the key of the rule and switches none
pub makes_active : (p : Setting) (c : Command) (r : Active) → activated p c ≡ Some r → MakesActive p c r
makes_active p (Install d) r is =
    let same : dynamic d ≡ r = cc in
    record { is_table = refl; rules_are = λ g. rules_put p g (Install d) r is; key_is = ap (λ (x : Active). x.properties.key) same; on_is = λ on. refl }
makes_active p (Activate name) r is =
    record { is_table = refl; rules_are = λ g. rules_put p g (Activate name) r is; key_is = from (offer_named p name) is; on_is = λ on. refl }
  where
    from : (o : Option Offer) → option_map predefined o ≡ Some r → key_offered o ≡ r.properties.key
    from None is = absurd cc
    from (Some o) is = let same : predefined o ≡ r = cc in ap (λ (x : Active). x.properties.key) same
makes_active p (Remove name) r is = absurd cc
makes_active p (Monitor key amount level) r is = absurd cc
makes_active p (Stop key) r is = absurd cc
makes_active p (ReportNow key) r is = absurd cc
makes_active p (Triggers set) r is = absurd cc
makes_active p (Notice kind value) r is = absurd cc
makes_active p (LoseBearer id) r is = absurd cc
makes_active p Close r is = absurd cc
makes_active p Terminate r is = absurd cc

-- an offer that is found by a name has it
offer_has_name : (name : List ℕ) (offers : List Offer) (o : Offer) → find (λ (x : Offer). same_name x.properties.name name) offers ≡ Some o → o.properties.name ≡ name
offer_has_name name [] o is = absurd cc
offer_has_name name (x ∷ offers) o is =
    elim (cases_Bool (same_name x.properties.name name)) [
      | inl hit ↦
          let here : Some x ≡ Some o = rw hit at is in
          let same : x ≡ o = cc in
          ap (λ (y : Offer). y.properties.name) (sym same) ∙ same_name_is x.properties.name name hit
      | inr miss ↦ offer_has_name name offers o (rw miss at is)
    ]

pub name_activated : (p : Setting) (name : List ℕ) (r : Active) → activated p (Activate name) ≡ Some r → r.properties.name ≡ name
name_activated p name r is = from (offer_named p name) refl is
  where
    from : (o : Option Offer) → offer_named p name ≡ o → option_map predefined o ≡ Some r → r.properties.name ≡ name
    from None there is = absurd cc
    from (Some o) there is = let same : predefined o ≡ r = cc in ap (λ (x : Active). x.properties.name) (sym same) ∙ offer_has_name name p.catalog o there

-- ---- a command that makes none active
pub rules_left : (p : Setting) (g : Generation) (c : Command) → activated p c ≡ None → rules_after p g c ≡ filter (stays g c) g.rules
rules_left p g c is = ap (λ o. put_if_some o (filter (stays g c) g.rules)) is

-- one that makes no generation leaves the rules
pub other_leaves : (p : Setting) (g : Generation) (c : Command) → is_table c ≡ false → rules_after p g c ≡ g.rules
other_leaves p g (ReportNow key) isnt = filter_all g.rules
other_leaves p g (Triggers set) isnt = filter_all g.rules
other_leaves p g (Notice kind value) isnt = filter_all g.rules
other_leaves p g (Install rule) isnt = absurd cc
other_leaves p g (Activate name) isnt = absurd cc
other_leaves p g (Remove name) isnt = absurd cc
other_leaves p g (Monitor key amount level) isnt = absurd cc
other_leaves p g (Stop key) isnt = absurd cc
other_leaves p g (LoseBearer id) isnt = absurd cc
other_leaves p g Close isnt = absurd cc
other_leaves p g Terminate isnt = absurd cc

-- ---- every command
pub rule_change : (p : Setting) (c : Command) → ((r : Active) × (activated p c ≡ Some r)) ⊎ (activated p c ≡ None)
rule_change p c = from (activated p c) refl
  where
    from : (o : Option Active) → activated p c ≡ o → ((r : Active) × (activated p c ≡ Some r)) ⊎ (activated p c ≡ None)
    from None is = inr is
    from (Some r) is = inl (r, is)
