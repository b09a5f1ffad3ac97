-- A key that goes off is reported.
use Rattle.std.proofs.Common.{◌≡◌, ◌∙◌, ◌&&◌, ◌||◌, ℕ, Bool, true, false, not, List, [], ◌∷◌, ◌++◌, filter, map, inl, inr, refl, sym, ap}
use Rattle.std.specs.Prelude.{if◌then◌else◌, nat_lt}
use Rattle.std.specs.List.{list_any}
use Rattle.std.proofs.lemmas.Bool.{cases_Bool}
use Rattle.pcef_base.proofs.Tests.{contrary}
use Rattle.pcef_model.specs.declared.command.Command.{Command}
use Rattle.pcef_model.specs.declared.command.Command.TheVariants.{Activate, Close, Install, LoseBearer, Monitor, Notice, Remove, ReportNow, Stop, Terminate, Triggers}
use Rattle.pcef_model.specs.declared.pending_report.PendingReport.TheVariants.{Usage}
use Rattle.pcef_model.specs.declared.report.Cause.{Cause}
use Rattle.pcef_model.specs.declared.report.Cause.TheVariants.{RulesGone, Terminated}
use Rattle.pcef_model.specs.Setting.{Setting, same_name}
use Rattle.pcef_model.specs.ActiveRules.{Active, has_key}
use Rattle.pcef_model.specs.Commands.{add_key, is_among, switched}
use Rattle.pcef_model.specs.Entries.{Journal}
use Rattle.pcef_model.specs.Generations.{Generation, made_by, rules_after, still_on}
use Rattle.pcef_model.specs.Journals.{now, slots, unreported}
use Rattle.pcef_model.specs.Reports.{after_command, inactive, keys_ended, noticed, plan, requested}
use Rattle.pcef_model.specs.declared.entry.Entry.TheVariants as entry
use Rattle.pcef_model.proofs.AfterEvents.{now_after}
use Rattle.pcef_model.proofs.Sameness.{same_name_is, same_name_of}
use Rattle.pcef_core.specs.Reporting.{is_usage_of}
use Rattle.pcef_model.proofs.Ending.{among_kept}
use Rattle.pcef_core.proofs.Among.{any_back, any_front}

-- ---- reports of keys
told_of : (key : List ℕ) (cause : Cause) (keys : List (List ℕ)) → list_any (is_usage_of key) (map (λ k. Usage k cause) keys) ≡ is_among key keys
told_of key cause [] = refl
told_of key cause (k ∷ keys) = ap (λ b. same_name key k || b) (told_of key cause keys)

-- a report of a key that ends is in the plan, and so is one that was requested
by_end : (p : Setting) (j : Journal) (c : Command) (key : List ℕ) → list_any (is_usage_of key) (keys_ended p j c) ≡ true → list_any (is_usage_of key) (plan p j c) ≡ true
by_end p j c key told = any_back (is_usage_of key) (inactive (now p j) c) _ (any_front (is_usage_of key) (keys_ended p j c) _ told)

by_request : (p : Setting) (j : Journal) (c : Command) (key : List ℕ) → list_any (is_usage_of key) (requested c) ≡ true → list_any (is_usage_of key) (plan p j c) ≡ true
by_request p j c key told =
    any_back (is_usage_of key) (inactive (now p j) c) _ (any_back (is_usage_of key) (keys_ended p j c) _ (any_front (is_usage_of key) (requested c) (noticed j c) told))

-- ---- keys that go off with their last rule
-- one that isn't on any more had a rule and has none
had_none : (old new : Bool) → (not old || new) ≡ false → (old ≡ true) × (new ≡ false)
had_none true true is = absurd cc
had_none true false is = (refl, refl)
had_none false new is = absurd cc

lost_its_last : (old new : List Active) (on : List (List ℕ)) (key : List ℕ) → is_among key on ≡ true → is_among key (still_on old new on) ≡ false →
    (has_key key old ≡ true) × (has_key key new ≡ false)
lost_its_last old new on key was isnt =
    elim (cases_Bool (not (has_key key old) || has_key key new)) [
      | inl stays ↦ contrary (is_among key (still_on old new on)) (among_kept (λ k. not (has_key k old) || has_key k new) key on was stays) isnt
      | inr goes ↦ had_none (has_key key old) (has_key key new) goes
    ]

-- the test of a key that ends with its last rule
abbrev ends : Setting → Journal → Command → List ℕ → Bool
ends p j c k = is_among k (switched c (now p j).on) && has_key k (now p j).rules && not (has_key k (rules_after p (now p j) c))

all_three : (a b c : Bool) → a ≡ true → b ≡ true → c ≡ false → (a && b && not c) ≡ true
all_three a b c one two three = rw (one, two, three) refl

ended : (p : Setting) (j : Journal) (c : Command) (key : List ℕ) → keys_ended p j c ≡ map (λ k. Usage k RulesGone) (filter (ends p j c) (slots p j)) →
    is_among key (slots p j) ≡ true → is_among key (switched c (now p j).on) ≡ true →
    is_among key (still_on (now p j).rules (rules_after p (now p j) c) (switched c (now p j).on)) ≡ false → list_any (is_usage_of key) (plan p j c) ≡ true
ended p j c key all slot on off =
    let lost = lost_its_last (now p j).rules (rules_after p (now p j) c) (switched c (now p j).on) key on off in
    let among : is_among key (filter (ends p j c) (slots p j)) ≡ true =
    among_kept (ends p j c) key (slots p j) slot
    (all_three (is_among key (switched c (now p j).on)) (has_key key (now p j).rules) (has_key key (rules_after p (now p j) c)) on lost.0 lost.1) in
    by_end p j c key (ap (list_any (is_usage_of key)) all ∙ told_of key RulesGone (filter (ends p j c) (slots p j)) ∙ among)

-- ---- commands
-- a key that is on stays on as another is added, and as another is stopped
added : (key other : List ℕ) (on : List (List ℕ)) → is_among key on ≡ true → is_among key (add_key other on) ≡ true
added key other on was = from (is_among other on)
  where
    from : (there : Bool) → is_among key (if there then on else on ++ other ∷ []) ≡ true
    from true = was
    from false = any_front (same_name key) on (other ∷ []) was

not_stopped : (key other : List ℕ) (on : List (List ℕ)) → is_among key on ≡ true → same_name other key ≡ false → is_among key (switched (Stop other) on) ≡ true
not_stopped key other on was differs = among_kept (λ k. not (same_name other k)) key on was (rw differs refl)

-- all keys that are on end with the session
at_the_end : (p : Setting) (j : Journal) (key : List ℕ) → is_among key (slots p j) ≡ true → is_among key (now p j).on ≡ true →
    list_any (is_usage_of key) (plan p j Terminate) ≡ true
at_the_end p j key slot was =
    let wants : (is_among key (now p j).on || nat_lt 0 (unreported p j key)) ≡ true = rw was refl in
    by_end p j Terminate key
    (told_of key Terminated (filter (λ k. is_among k (now p j).on || nat_lt 0 (unreported p j k)) (slots p j))
    ∙ among_kept (λ k. is_among k (now p j).on || nat_lt 0 (unreported p j k)) key (slots p j) slot wants)

by_command : (p : Setting) (j : Journal) (c : Command) (key : List ℕ) → is_among key (slots p j) ≡ true → is_among key (now p j).on ≡ true →
    is_among key (now p (entry.Command c ∷ j)).on ≡ false → list_any (is_usage_of key) (plan p j c) ≡ true
unfolding made_by
by_command p j (Install rule) key slot was off = ended p j (Install rule) key refl slot was off
by_command p j (Activate name) key slot was off = ended p j (Activate name) key refl slot was off
by_command p j (Remove name) key slot was off = ended p j (Remove name) key refl slot was off
by_command p j (LoseBearer id) key slot was off = ended p j (LoseBearer id) key refl slot was off
by_command p j Close key slot was off = ended p j Close key refl slot was off
by_command p j (Monitor other amount level) key slot was off =
    ended p j (Monitor other amount level) key refl slot (added key other (now p j).on was) off
by_command p j (Stop other) key slot was off =
    elim (cases_Bool (same_name other key)) [
      | inl same ↦
          let own : same_name key other ≡ true = same_name_of key other (sym (same_name_is other key same)) in
          by_request p j (Stop other) key (rw own refl)
      | inr differs ↦ ended p j (Stop other) key refl slot (not_stopped key other (now p j).on was differs) off
    ]
by_command p j Terminate key slot was off = at_the_end p j key slot was
by_command p j (ReportNow other) key slot was off = contrary (is_among key (now p j).on) was off
by_command p j (Triggers set) key slot was off = contrary (is_among key (now p j).on) was off
by_command p j (Notice kind value) key slot was off = contrary (is_among key (now p j).on) was off

pub gone_off : (p : Setting) (j : Journal) (c : Command) (key : List ℕ) → is_among key (slots p j) ≡ true → is_among key (now p j).on ≡ true →
    is_among key (now p (after_command p j c)).on ≡ false → list_any (is_usage_of key) (plan p j c) ≡ true
gone_off p j c key slot was off = by_command p j c key slot was (ap (λ (g : Generation). is_among key g.on) (sym (now_after p j c)) ∙ off)
