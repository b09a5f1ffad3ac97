-- What is told of orders, one after the other.
use Rattle.std.proofs.Common.{◌≡◌, ◌∙◌, ◌<◌, ◌≤◌, ◌++◌, ℕ, suc, Bool, true, false, List, [], ◌∷◌, length, drop, get_or, refl, sym, ap, inl, inr, Some, None, Err, Ok}
use Rattle.std.specs.Prelude.{Option, Result}
use Rattle.std.proofs.Math.Seq.{drop-cons}
use Rattle.std.proofs.Math.ListN.{drop_of_length-le}
use Rattle.std.proofs.lemmas.List.{append-nil}
use Rattle.pcef_gx.specs.declared.writing.RuleReport.{RuleReport}
use Rattle.std.proofs.lemmas.Bool.{cases_Bool}
use Rattle.pcef_model.specs.declared.answer.Accepted.{Accepted}
use Rattle.pcef_model.specs.declared.answer.Refusal.{Refusal}
use Rattle.pcef_model.specs.declared.command.Command.TheVariants as command
use Rattle.pcef_model.specs.Entries.{Journal}
use Rattle.pcef_gx.specs.declared.order.Order.{Order}
use Rattle.pcef_model.specs.Setting.{Setting}
use Rattle.pcef_gx_orders.specs.Carrying.{Carries, CarriesOut, FatedBy, ReportsAll}
use Rattle.pcef_gx_orders.specs.Fates.{is_unknown_key, key_fate}
use Rattle.pcef_gx_orders.specs.declared.fate.Fate.{Fate}
use Rattle.pcef_gx_orders.specs.declared.fate.Fate.TheVariants.{Done, NoRule, Refused}

-- the item at a place, and those behind it
pub item_at : {X : Type 0} (xs : List X) (place : ℕ) (x : X) → place < length xs → x ≡ get_or xs place x → drop place xs ≡ x ∷ drop (suc place) xs
item_at xs place x below is = drop-cons xs place x below ∙ ap (λ y. y ∷ drop (suc place) xs) (sym is)

-- what isn't done is refused
refused_else : (answer : Result Accepted Refusal) → (key_fate answer ≡ Done → ⊥) → key_fate answer ≡ Refused
refused_else (Ok accepted) not = absurd (not refl)
refused_else (Err reason) not =
    elim (cases_Bool (is_unknown_key reason)) [
      | inl is ↦ absurd (not (rw is refl))
      | inr isnt ↦ rw isnt refl
    ]

-- reports end at a key that is refused
pub stopped : (p : Setting) (before after : Journal) (key : List ℕ) (keys : List (List ℕ)) (fate : Fate) → FatedBy key_fate p before (command.ReportNow key) fate after → (fate ≡ Done → ⊥) →
    ReportsAll p before (key ∷ keys) fate after
stopped p before after key keys fate (answer, step, is) not =
    let refused : fate ≡ Refused = is ∙ refused_else answer (λ done. not (is ∙ done)) in
    inr (refused, (answer, step, sym refused ∙ is))

-- a refused order leaves those behind it undone
pub told_refused : (p : Setting) (before after : Journal) (asked : Order) (orders : List Order) → Carries p before asked Refused after →
    CarriesOut p before (asked ∷ orders) [] (Some asked) after
told_refused p before after asked orders carries = (Refused, after, carries, (refl, refl, refl))

-- an order is refused behind what was told before
pub told_so_far : (p : Setting) (before mid after : Journal) (orders : List Order) (told : List RuleReport) (place : ℕ) (asked : Order) →
    ((more : List RuleReport) (refused : Option Order) (later : Journal) → CarriesOut p mid (drop place orders) more refused later → CarriesOut p before orders (told ++ more) refused later) →
    place < length orders → asked ≡ get_or orders place asked → Carries p mid asked Refused after →
    CarriesOut p before orders told (Some asked) after
told_so_far p before mid after orders told place asked so_far below is carries =
    rw (← append-nil told) (so_far [] (Some asked) after (rw (item_at orders place asked below is) (told_refused p mid after asked _ carries)))

-- nothing is left to be told
pub told_whole : (p : Setting) (before mid : Journal) (orders : List Order) (told : List RuleReport) (place : ℕ) →
    ((more : List RuleReport) (refused : Option Order) (later : Journal) → CarriesOut p mid (drop place orders) more refused later → CarriesOut p before orders (told ++ more) refused later) →
    length orders ≤ place → CarriesOut p before orders told None mid
told_whole p before mid orders told place so_far past = rw (← append-nil told) (so_far [] None mid (rw (drop_of_length-le orders past) (refl, refl, refl)))
