-- A command to a session without rows that ends no key makes no report.
use Rattle.std.proofs.Common.{◌≡◌, ◌∙◌, ◌&&◌, ℕ, Bool, true, false, not, List, [], ◌∷◌, filter, map, refl, ap, arith, inl, inr}
use Rattle.std.proofs.lemmas.Bool.{and_right, cases_Bool}
use Rattle.pcef_model.specs.declared.command.Command.{Command}
use Rattle.pcef_model.specs.declared.entry.Entry.TheVariants as entry
use Rattle.pcef_model.specs.declared.pending_report.PendingReport.TheVariants.{Usage}
use Rattle.pcef_model.specs.declared.report.Cause.TheVariants.{RulesGone, Threshold}
use Rattle.pcef_model.specs.ActiveRules.{has_key}
use Rattle.pcef_model.specs.Commands.{is_among, switched}
use Rattle.pcef_model.specs.Entries.{Journal, rows}
use Rattle.pcef_model.specs.Generations.{rules_after}
use Rattle.pcef_model.specs.Journals.{counts, grant, now, octets_of, slots, subscribed, unreported}
use Rattle.pcef_model.specs.Reports.{after_command, is_reached, is_reached_by, plan, thresholds, with_reports, with_thresholds}
use Rattle.pcef_model.specs.Setting.{Setting}

pub filter_none : {X : Type 0} (t : X → Bool) (xs : List X) → ((x : X) → t x ≡ false) → filter t xs ≡ []
filter_none t [] none = refl
filter_none t (x ∷ xs) none = rw (none x) (filter_none t xs none)

-- no grant is reached by nothing
abbrev pub NoneReached : Journal → Type 0
NoneReached k = (key : List ℕ) → is_reached_by (grant k key) 0 ≡ false

pub nothing_counted : (p : Setting) (k : Journal) (key : List ℕ) → rows k ≡ [] → unreported p k key ≡ 0
unfolding octets_of
nothing_counted p k key none = let counted_is = ap (octets_of (counts p k key)) none in omega (arith, counted_is)

no_thresholds : (p : Setting) (k : Journal) → rows k ≡ [] → NoneReached k → thresholds p k ≡ []
unfolding thresholds
no_thresholds p k none far =
    elim (cases_Bool (subscribed k).usage_report) [
      | inl is ↦ rw is
          (ap (map (λ key. Usage key Threshold)) (filter_none (is_reached p k) (slots p k)
          (λ key. and_right (is_among key (now p k).on) (is_reached_by (grant k key) (unreported p k key)) (ap (is_reached_by (grant k key)) (nothing_counted p k key none) ∙ far key))))
      | inr isnt ↦ rw isnt refl
    ]

pub quiet_by : (p : Setting) (k : Journal) (c : Command) → rows k ≡ [] → NoneReached (entry.Command c ∷ k) → plan p k c ≡ [] → after_command p k c ≡ entry.Command c ∷ k
unfolding after_command with_reports
quiet_by p k c none far planned =
    ap (λ ts. with_thresholds p (with_reports p ts (entry.Command c ∷ k))) planned
    ∙ ap (λ ts. with_reports p ts (entry.Command c ∷ k)) (no_thresholds p (entry.Command c ∷ k) none far)

-- ---- keys that keep their rules don't end
abbrev pub ends : Setting → Journal → Command → List ℕ → Bool
ends p k c key = is_among key (switched c (now p k).on) && has_key key (now p k).rules && not (has_key key (rules_after p (now p k) c))

pub none_ends : (p : Setting) (k : Journal) (c : Command) → ((key : List ℕ) → has_key key (now p k).rules ≡ true → has_key key (rules_after p (now p k) c) ≡ true) →
    map (λ key. Usage key RulesGone) (filter (ends p k c) (slots p k)) ≡ []
none_ends p k c keeps =
    ap (map (λ key. Usage key RulesGone)) (filter_none (ends p k c) (slots p k) (λ key.
    from (is_among key (switched c (now p k).on)) (has_key key (now p k).rules) (has_key key (rules_after p (now p k) c)) (keeps key)))
  where
    from : (a b d : Bool) → (b ≡ true → d ≡ true) → (a && b && not d) ≡ false
    from a true d keep = and_right (a && true) (not d) (ap not (keep refl))
    from true false d keep = refl
    from false false d keep = refl
