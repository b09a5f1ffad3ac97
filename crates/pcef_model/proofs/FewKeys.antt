-- No more keys have a slot than may.
use Rattle.std.proofs.Common.{◌≡◌, ◌≤◌, ◌∙◌, ◌&&◌, not, ℕ, true, false, List, [], ◌∷◌, Some, None, length, refl, ap, arith, inl, inr, nat_le}
use Rattle.std.specs.Prelude.{Option}
use Rattle.std.proofs.lemmas.Bool.{cases_Bool, leb-false}
use Rattle.std.proofs.lemmas.List.{length-append}
use Rattle.pcef_catalog.specs.declared.listing.Offer.{Offer}
use Rattle.pcef_model.specs.declared.command.Command.{Command}
use Rattle.pcef_model.specs.declared.command.Command.TheVariants.{Install, Activate, Remove, Monitor, Stop, ReportNow, Triggers, Notice, LoseBearer, Close, Terminate}
use Rattle.pcef_model.specs.declared.entry.Entry.TheVariants as entry
use Rattle.pcef_model.specs.Setting.{Setting, most_keys, offer_named}
use Rattle.pcef_model.specs.Commands.{is_among, is_table, key_named, key_offered}
use Rattle.pcef_model.specs.Entries.{Journal}
use Rattle.pcef_model.specs.Generations.{add_if_some, slots_of}
use Rattle.pcef_model.specs.Journals.{slots}
use Rattle.pcef_model.specs.Lawful.{Lawful, at_first, by_attach, by_command, by_flush, by_leave}
use Rattle.pcef_model.specs.Outcomes.{changes}
use Rattle.pcef_model.specs.Refusals.{finds_no_slot, first_of, is_new_key, refusals}
use Rattle.pcef_model.proofs.Acceptance.{activate_accepted, can_become, install_accepted, monitor_accepted}
use Rattle.pcef_model.proofs.AfterEvents.{slots_after}
use Rattle.pcef_model.proofs.Growth.{tables_of_other, tables_of_table}
use Rattle.pcef_model.proofs.JournalExtends.{tables_after_flush}

-- the key that an accepted command names finds a slot
finds_slot : (p : Setting) (j : Journal) (c : Command) → first_of (refusals p j c) ≡ None → changes p j c ≡ true → finds_no_slot p j (key_named p c) ≡ false
finds_slot p j (Install rule) accepted changing = (can_become p j rule.properties (install_accepted p j rule accepted)).slot
finds_slot p j (Activate name) accepted changing = from (offer_named p name) refl
  where
    from : (o : Option Offer) → offer_named p name ≡ o → finds_no_slot p j (key_offered o) ≡ false
    from None there = refl
    from (Some o) there = (can_become p j o.properties (activate_accepted p j name o accepted changing there)).slot
finds_slot p j (Remove name) accepted changing = refl
finds_slot p j (Monitor key amount level) accepted changing = (monitor_accepted p j key amount level accepted).1
finds_slot p j (Stop key) accepted changing = refl
finds_slot p j (ReportNow key) accepted changing = refl
finds_slot p j (Triggers set) accepted changing = refl
finds_slot p j (Notice kind value) accepted changing = refl
finds_slot p j (LoseBearer id) accepted changing = refl
finds_slot p j Close accepted changing = refl
finds_slot p j Terminate accepted changing = refl

few_added : (key : Option (List ℕ)) (keys : List (List ℕ)) → (is_new_key key keys && nat_le most_keys (length keys)) ≡ false → length keys ≤ most_keys →
    length (add_if_some key keys) ≤ most_keys
few_added None keys finds few = few
few_added (Some key) keys finds few =
    elim (cases_Bool (is_among key keys)) [
      | inl there ↦ rw there few
      | inr new ↦
          let room : nat_le most_keys (length keys) ≡ false = rw new at finds in
          rw new (omega (arith, leb-false most_keys (length keys) room, length-append keys (key ∷ [])))
    ]

few_named : (p : Setting) (j : Journal) (c : Command) → first_of (refusals p j c) ≡ None → changes p j c ≡ true → length (slots p j) ≤ most_keys →
    length (slots p (entry.Command c ∷ j)) ≤ most_keys
unfolding slots_of
few_named p j c accepted changing few =
    elim (cases_Bool (is_table c)) [
      | inl is ↦
          let added = few_added (key_named p c) (slots p j) (finds_slot p j c accepted changing) few in
          omega (arith, added, ap (λ cs. length (slots_of p cs)) (tables_of_table j c is))
      | inr isnt ↦ omega (arith, few, ap (λ cs. length (slots_of p cs)) (tables_of_other j c isnt))
    ]

pub few_slots : (p : Setting) (j : Journal) → Lawful p j → length (slots p j) ≤ most_keys
unfolding slots_of
few_slots p _ at_first = omega arith
few_slots p _ (by_command j c l accepted changing) =
    let few = few_named p j c accepted changing (few_slots p j l) in omega (arith, few, ap length (slots_after p j c))
few_slots p _ (by_attach j l accepted) = few_slots p j l
few_slots p _ (by_leave j worker l there) = few_slots p j l
few_slots p _ (by_flush j worker rs l accepted follows) =
    let few = few_slots p j l in omega (arith, few, ap (λ cs. length (slots_of p cs)) (tables_after_flush p j rs))
