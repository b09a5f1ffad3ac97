-- The refusals of commands in a journal that nothing ended.
use Rattle.std.proofs.Common.{Bool}
use Rattle.std.proofs.Common.{◌≡◌, ◌∙◌, ℕ, true, false, not, ◌&&◌, List, [], ◌∷◌, ◌++◌, length, refl, sym, ap, arith, Some, None, nat_le, true≢false, inl, inr}
use Rattle.std.specs.Prelude.{Option, is_none, is_some, if◌then◌else◌}
use Rattle.std.specs.Option.{option_map}
use Rattle.std.proofs.lemmas.Bool.{cases_Bool}
use Rattle.pcef_rule.specs.declared.rule.Properties.{Properties}
use Rattle.pcef_catalog.specs.declared.listing.Offer.{Offer}
use Rattle.pcef_model.specs.declared.command.Command.TheVariants.{Install, Activate, Remove, Monitor, Stop, ReportNow, Triggers, Notice, LoseBearer, Close, Terminate}
use Rattle.pcef_model.specs.declared.entry.Entry.TheVariants as entry
use Rattle.pcef_model.specs.declared.level.Level.TheVariants.{Rule}
use Rattle.pcef_model.specs.Setting.{most_rules, Setting, offer_named}
use Rattle.pcef_model.specs.ActiveRules.{predefined, without}
use Rattle.pcef_model.specs.Entries.{Journal, commands}
use Rattle.pcef_model.specs.Journals.{now, slots}
use Rattle.pcef_usage.specs.declared.usage.KeyState.{KeyState}
use Rattle.pcef_usage.specs.Keys.{finds_no_place as slotless, keys_of}
use Rattle.pcef_usage.proofs.Monitors.{finds_no_slot_is}
use Rattle.pcef_model.specs.declared.answer.Refusal.{Refusal}
use Rattle.pcef_model.specs.declared.answer.Refusal.TheVariants.{RulesFull, KeysFull, LevelClash, NameIsPredefined, UnknownRule}
use Rattle.pcef_model.specs.Refusals.{Conditions, becoming_active, becoming_active_if, bindings, clashes, finds_no_slot, first_of, is_active, limited_count, was_closed, was_terminated}
use Rattle.pcef_session.specs.declared.prepared.Activation.{Activation}
use Rattle.pcef_session.specs.Preparing.{Activates}

-- ---- conditions one after the other
pub first_after : {R : Type 0} (cs ds : Conditions R) → None ≡ first_of cs → first_of (cs ++ ds) ≡ first_of ds
first_after [] ds none = refl
first_after (c ∷ cs) ds none =
    elim (cases_Bool c.0) [
      | inl is ↦ absurd (let some : None ≡ Some c.1 = rw is at none in cc)
      | inr isnt ↦ let later : None ≡ first_of cs = rw isnt at none in rw isnt (first_after cs ds later)
    ]

pub first_before : {R : Type 0} (cs ds : Conditions R) (r : R) → Some r ≡ first_of cs → Some r ≡ first_of (cs ++ ds)
first_before [] ds r some = absurd cc
first_before (c ∷ cs) ds r some =
    elim (cases_Bool c.0) [
      | inl is ↦ let here : Some r ≡ Some c.1 = rw is at some in rw is here
      | inr isnt ↦ let later : Some r ≡ first_of cs = rw isnt at some in rw isnt (first_before cs ds r later)
    ]

-- ---- the budget of commands
pub limited_plain : (j : Journal) → was_closed j ≡ false → was_terminated j ≡ false → limited_count j ≡ length (commands j)
unfolding limited_count
limited_plain [] closed terminated = refl
limited_plain (entry.Row r ∷ j) closed terminated = let rest = limited_plain j closed terminated in omega (arith, rest)
limited_plain (entry.Report r ∷ j) closed terminated = let rest = limited_plain j closed terminated in omega (arith, rest)
limited_plain (entry.Attach w ∷ j) closed terminated = let rest = limited_plain j closed terminated in omega (arith, rest)
limited_plain (entry.Leave w ∷ j) closed terminated = let rest = limited_plain j closed terminated in omega (arith, rest)
limited_plain (entry.Command Close ∷ j) closed terminated = absurd (true≢false closed)
limited_plain (entry.Command Terminate ∷ j) closed terminated = absurd (true≢false terminated)
limited_plain (entry.Command (Install rule) ∷ j) closed terminated = let rest = limited_plain j closed terminated in omega (arith, rest)
limited_plain (entry.Command (Activate name) ∷ j) closed terminated = let rest = limited_plain j closed terminated in omega (arith, rest)
limited_plain (entry.Command (Remove name) ∷ j) closed terminated = let rest = limited_plain j closed terminated in omega (arith, rest)
limited_plain (entry.Command (Monitor key amount level) ∷ j) closed terminated = let rest = limited_plain j closed terminated in omega (arith, rest)
limited_plain (entry.Command (Stop key) ∷ j) closed terminated = let rest = limited_plain j closed terminated in omega (arith, rest)
limited_plain (entry.Command (ReportNow key) ∷ j) closed terminated = let rest = limited_plain j closed terminated in omega (arith, rest)
limited_plain (entry.Command (Triggers set) ∷ j) closed terminated = let rest = limited_plain j closed terminated in omega (arith, rest)
limited_plain (entry.Command (Notice kind value) ∷ j) closed terminated = let rest = limited_plain j closed terminated in omega (arith, rest)
limited_plain (entry.Command (LoseBearer id) ∷ j) closed terminated = let rest = limited_plain j closed terminated in omega (arith, rest)

-- a journal is full where nothing ended it
pub full_is : (p : Setting) (j : Journal) (n m : ℕ) (full : Bool) → n ≡ length (commands j) → m ≡ p.commands → full ≡ nat_le m n →
    was_closed j ≡ false → was_terminated j ≡ false → full ≡ nat_le p.commands (limited_count j)
full_is p j n m full count number is opened living =
    is ∙ ap (λ k. nat_le k n) number ∙ ap (nat_le p.commands) (count ∙ sym (limited_plain j opened living))

-- ---- slots
pub slotless_is : (p : Setting) (j : Journal) (key : Option (List ℕ)) (states : List KeyState) → keys_of states ≡ slots p j → slotless key states ≡ finds_no_slot p j key
slotless_is p j None states keys = refl
slotless_is p j (Some key) states keys =
    finds_no_slot_is p j key states keys

-- ---- becoming active
pub becoming_full : (p : Setting) (j : Journal) (rule : Properties) → true ≡ (not (is_active p j rule.name) && nat_le most_rules (length (now p j).rules)) →
    Some RulesFull ≡ first_of (becoming_active p j rule)
becoming_full p j rule full = rw (← full) refl

pub becoming_clashing : (p : Setting) (j : Journal) (rule : Properties) → false ≡ (not (is_active p j rule.name) && nat_le most_rules (length (now p j).rules)) →
    true ≡ clashes p j Rule rule.key → Some LevelClash ≡ first_of (becoming_active p j rule)
becoming_clashing p j rule place clash = rw (← place, ← clash) refl

pub becoming_slotless : (p : Setting) (j : Journal) (rule : Properties) → false ≡ (not (is_active p j rule.name) && nat_le most_rules (length (now p j).rules)) →
    false ≡ clashes p j Rule rule.key → true ≡ finds_no_slot p j rule.key → Some KeysFull ≡ first_of (becoming_active p j rule)
becoming_slotless p j rule place level lacks = rw (← place, ← level, ← lacks) refl

pub becoming_bound : (p : Setting) (j : Journal) (rule : Properties) (o : Option Refusal) → false ≡ (not (is_active p j rule.name) && nat_le most_rules (length (now p j).rules)) →
    false ≡ clashes p j Rule rule.key → false ≡ finds_no_slot p j rule.key → o ≡ first_of (bindings p (now p j) rule (without rule.name (now p j).rules)) → o ≡ first_of (becoming_active p j rule)
becoming_bound p j rule o place level has is = is ∙ rw (← place, ← level, ← has) refl

-- ---- Install
abbrev installations : Setting → Journal → Properties → Option Offer → Conditions Refusal
installations p j rule o = (is_some o, NameIsPredefined) ∷ becoming_active p j rule

pub install_offered : (p : Setting) (j : Journal) (rule : Properties) (x : Activation) → Activates p (option_map predefined (offer_named p rule.name)) (Some x) →
    Some NameIsPredefined ≡ first_of (installations p j rule (offer_named p rule.name))
install_offered p j rule x brings = from (offer_named p rule.name) brings
  where
    from : (o : Option Offer) → Activates p (option_map predefined o) (Some x) → Some NameIsPredefined ≡ first_of (installations p j rule o)
    from None brings = absurd brings
    from (Some o) brings = refl

pub install_free : (p : Setting) (j : Journal) (rule : Properties) (r : Option Refusal) → Activates p (option_map predefined (offer_named p rule.name)) None → r ≡ first_of (becoming_active p j rule) →
    r ≡ first_of (installations p j rule (offer_named p rule.name))
install_free p j rule r brings is = from (offer_named p rule.name) brings
  where
    from : (o : Option Offer) → Activates p (option_map predefined o) None → r ≡ first_of (installations p j rule o)
    from None brings = is
    from (Some o) brings = absurd brings

-- ---- Activate
abbrev activations : Setting → Journal → List ℕ → Option Offer → Conditions Refusal
activations p j name o = (is_none o, UnknownRule) ∷ (if is_active p j name then [] else becoming_active_if p j o)

pub activate_again : (p : Setting) (j : Journal) (name : List ℕ) (x : Activation) → Activates p (option_map predefined (offer_named p name)) (Some x) → is_active p j name ≡ true →
    None ≡ first_of (activations p j name (offer_named p name))
activate_again p j name x brings is = from (offer_named p name) brings
  where
    from : (o : Option Offer) → Activates p (option_map predefined o) (Some x) → None ≡ first_of (activations p j name o)
    from None brings = absurd brings
    from (Some o) brings = rw is refl

pub activate_new : (p : Setting) (j : Journal) (name : List ℕ) (x : Activation) (r : Option Refusal) → Activates p (option_map predefined (offer_named p name)) (Some x) → is_active p j name ≡ false →
    r ≡ first_of (becoming_active p j x.properties) → r ≡ first_of (activations p j name (offer_named p name))
activate_new p j name x r brings isnt is = from (offer_named p name) brings
  where
    from : (o : Option Offer) → Activates p (option_map predefined o) (Some x) → r ≡ first_of (activations p j name o)
    from None brings = absurd brings
    from (Some o) brings = rw isnt (is ∙ ap (λ (q : Properties). first_of (becoming_active p j q)) brings.properties_are)
