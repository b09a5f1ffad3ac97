-- What it takes that a command isn't refused.
use Rattle.std.proofs.Common.{◌≡◌, ◌∙◌, ℕ, true, false, List, length, refl, sym, ap, subst, arith, Some, None, Ok, nat_le}
use Rattle.std.specs.Prelude.{Option, Result, is_none}
use Rattle.std.specs.Option.{option_map}
use Rattle.std.proofs.lemmas.Bool.{leb-false}
use Rattle.pcef_rule.specs.declared.rule.Properties.{Properties}
use Rattle.pcef_catalog.specs.declared.listing.Offer.{Offer}
use Rattle.pcef_model.specs.Refusals.{becoming_active, first_of, is_active, refusals}
use Rattle.pcef_model.specs.declared.answer.Accepted.{Accepted}
use Rattle.pcef_model.specs.declared.answer.Refusal.{Refusal}
use Rattle.pcef_model.specs.declared.command.Command.{Command}
use Rattle.pcef_model.specs.declared.command.Command.TheVariants.{Install, Activate, Remove, Monitor, Stop, ReportNow, Triggers, Notice, LoseBearer, Close, Terminate}
use Rattle.pcef_model.specs.Setting.{most_rules, Setting, offer_named}
use Rattle.pcef_model.specs.ActiveRules.{predefined}
use Rattle.pcef_model.specs.Commands.{key_named, key_offered, activated}
use Rattle.pcef_model.specs.Entries.{Journal}
use Rattle.pcef_model.specs.Journals.{now, slots}
use Rattle.pcef_usage.specs.declared.usage.KeyState.{KeyState}
use Rattle.pcef_usage.specs.Commands.{Asks}
use Rattle.pcef_usage.specs.Keys.{finds_no_place as slotless, keys_of}
use Rattle.pcef_bearer.specs.Standing.{binding_of}
use Rattle.pcef_session.specs.declared.prepared.Activation.{Activation}
use Rattle.pcef_model.specs.Outcomes.{Gives, accepted, bearer_named, changes, command_outcome}
use Rattle.pcef_model.specs.Reports.{after_command}
use Rattle.pcef_session.specs.private.Changes.{Binds, CanBind}
use Rattle.pcef_session.specs.Preparing.{Activates}
use Rattle.pcef_session.proofs.Activations.{brought}
use Rattle.pcef_bearer.proofs.BoundBearers.{length_bound, named_bound, refusals_bound}
use Rattle.pcef_session.proofs.Refused.{slotless_is}
use Rattle.pcef_model.proofs.Acceptance.{can_become, install_accepted, activate_accepted, activate_named, monitor_accepted, report_accepted, stop_accepted, activation_accepted}
use Rattle.pcef_model.specs.Generations.{Generation}

-- an accepted command that makes no rule active names no bearer
pub names_none : (p : Setting) (j : Journal) (c : Command) (g : Generation) → first_of (refusals p j c) ≡ None → activated p c ≡ None → bearer_named g c ≡ None
names_none p j (Install rule) g accepted none = absurd cc
names_none p j (Activate name) g accepted none = absurd (from (offer_named p name) none (activate_named p j name accepted))
  where
    from : (o : Option Offer) → option_map predefined o ≡ None → is_none o ≡ false → ⊥
    from None none named = cc
    from (Some o) none named = cc
names_none p j (Remove name) g accepted none = refl
names_none p j (Monitor key amount level) g accepted none = refl
names_none p j (Stop key) g accepted none = refl
names_none p j (ReportNow key) g accepted none = refl
names_none p j (Triggers set) g accepted none = refl
names_none p j (Notice kind value) g accepted none = refl
names_none p j (LoseBearer id) g accepted none = refl
names_none p j Close g accepted none = refl
names_none p j Terminate g accepted none = refl

-- a key that a command asks for is known
pub asks_known : (p : Setting) (j : Journal) (c : Command) → first_of (refusals p j c) ≡ None → Asks p j c
asks_known p j (Stop key) accepted = stop_accepted p j key accepted
asks_known p j (ReportNow key) accepted = report_accepted p j key accepted
asks_known p j (Install rule) accepted = tt
asks_known p j (Activate name) accepted = tt
asks_known p j (Remove name) accepted = tt
asks_known p j (Monitor key amount level) accepted = tt
asks_known p j (Triggers set) accepted = tt
asks_known p j (Notice kind value) accepted = tt
asks_known p j (LoseBearer id) accepted = tt
asks_known p j Close accepted = tt
asks_known p j Terminate accepted = tt

-- its key finds a slot
pub served_slot : (p : Setting) (j : Journal) (c : Command) (states : List KeyState) → keys_of states ≡ slots p j → first_of (refusals p j c) ≡ None → changes p j c ≡ true →
    slotless (key_named p c) states ≡ false
served_slot p j (Install rule) states keys accepted changing =
    slotless_is p j rule.properties.key states keys ∙ (can_become p j rule.properties (install_accepted p j rule accepted)).slot
served_slot p j (Activate name) states keys accepted changing = from (offer_named p name) refl
  where
    from : (o : Option Offer) → offer_named p name ≡ o → slotless (key_offered o) states ≡ false
    from None there = refl
    from (Some o) there = slotless_is p j o.properties.key states keys ∙ (can_become p j o.properties (activate_accepted p j name o accepted changing there)).slot
served_slot p j (Remove name) states keys accepted changing = refl
served_slot p j (Monitor key amount level) states keys accepted changing = slotless_is p j (Some key) states keys ∙ (monitor_accepted p j key amount level accepted).1
served_slot p j (Stop key) states keys accepted changing = refl
served_slot p j (ReportNow key) states keys accepted changing = refl
served_slot p j (Triggers set) states keys accepted changing = refl
served_slot p j (Notice kind value) states keys accepted changing = refl
served_slot p j (LoseBearer id) states keys accepted changing = refl
served_slot p j Close states keys accepted changing = refl
served_slot p j Terminate states keys accepted changing = refl

-- ---- the rule can be bound
pub binds_rule : (p : Setting) (j : Journal) (rule : Properties) → first_of (becoming_active p j rule) ≡ None → Binds rule (binding_of p (now p j))
binds_rule p j rule accepted =
    let g = now p j in
    let can = can_become p j rule accepted in
    record {
      accepted = refusals_bound p g rule ∙ can.binds;
      room = λ absent.
          let new : is_active p j rule.name ≡ false = sym (named_bound rule.name g g.rules) ∙ absent in
          let place : nat_le most_rules (length g.rules) ≡ false = rw new at can.place in
          omega (arith, length_bound g g.rules, leb-false most_rules (length g.rules) place);
    }

pub can_bind : (p : Setting) (j : Journal) (c : Command) (x : Option Activation) → first_of (refusals p j c) ≡ None → changes p j c ≡ true → Activates p (activated p c) x →
    CanBind x (binding_of p (now p j))
can_bind p j c None accepted changing brings = tt
can_bind p j c (Some x) accepted changing brings =
    let b = brought p c (Some x) x refl brings in
    binds_rule p j x.properties
    (subst (λ (q : Properties). first_of (becoming_active p j q) ≡ None) (sym b.is_of.properties_are) (activation_accepted p j c b.rule accepted changing b.becomes))

-- ---- an accepted command
told_same : (a b : Accepted) (r s : Result Accepted Refusal) → r ≡ s → r ≡ Ok a → s ≡ Ok b → a ≡ b
told_same a b r s same first second = cc

-- one that changes something
pub changed_by : (p : Setting) (j : Journal) (c : Command) (a : Accepted) (k : Journal) → first_of (refusals p j c) ≡ None → changes p j c ≡ true → Gives (command_outcome p j c) (Ok a) k →
    (a.unchanged ≡ false) × (k ≡ after_command p j c)
unfolding command_outcome
changed_by p j c a k unrefused changing gives =
    let g = rw (unrefused, changing) at gives in
    (ap (λ (x : Accepted). x.unchanged) (told_same a (accepted p c j (after_command p j c) false) (Ok a) (Ok (accepted p c j (after_command p j c) false)) g.0 refl refl), g.1)

-- one that changes nothing
pub unchanged_by : (p : Setting) (j : Journal) (name : List ℕ) (a : Accepted) (k : Journal) → first_of (refusals p j (Activate name)) ≡ None → is_active p j name ≡ true → Gives (command_outcome p j (Activate name)) (Ok a) k →
    (a.unchanged ≡ true) × (k ≡ j)
unfolding command_outcome
unchanged_by p j name a k unrefused active gives =
    let g = rw (unrefused, active) at gives in
    (ap (λ (x : Accepted). x.unchanged) (told_same a (accepted p (Activate name) j j true) (Ok a) (Ok (accepted p (Activate name) j j true)) g.0 refl refl), g.1)
