-- Which keys are on after a command, and which of them its reports end.
use Rattle.std.proofs.Common.{◌≡◌, ◌∙◌, ℕ, Bool, true, false, List, [], ◌∷◌, ◌++◌, refl, sym, ap, map, inl, inr, nat_lt}
use Rattle.std.specs.Prelude.{not, ◌||◌, ◌&&◌, ◌==◌, ◌≢◌, filter}
use Rattle.std.proofs.lemmas.Bool.{cases_Bool}
use Rattle.pcef_model.specs.declared.command.Command.{Command}
use Rattle.pcef_model.specs.declared.command.Command.TheVariants.{Install, Activate, Remove, Monitor, Stop, ReportNow, Triggers, Notice, LoseBearer, Close, Terminate}
use Rattle.pcef_model.specs.declared.entry.Entry.TheVariants as entry
use Rattle.pcef_model.specs.declared.report.Cause.{Cause}
use Rattle.pcef_model.specs.declared.report.Cause.TheVariants.{RulesGone, Terminated}
use Rattle.pcef_model.specs.declared.pending_report.PendingReport.{PendingReport}
use Rattle.pcef_model.specs.declared.pending_report.PendingReport.TheVariants.{Inactive, Usage}
use Rattle.pcef_model.specs.declared.level.Level.{Level}
use Rattle.pcef_model.specs.Setting.{Setting, same_name}
use Rattle.pcef_model.specs.ActiveRules.{has_key}
use Rattle.pcef_model.specs.Generations.{Generation, made_by, rules_after, slots_of}
use Rattle.pcef_model.specs.Commands.{add_key, is_among, switched, is_table}
use Rattle.pcef_model.specs.Entries.{Journal}
use Rattle.pcef_model.specs.Journals.{ends_grant, now, slots, subscribed, tables, unreported}
use Rattle.pcef_model.specs.Reports.{requested, keys_ended, in_order, inactive, is_subscribed, noticed, plan}
use Rattle.pcef_model.proofs.Sameness.{same_name_is, same_name_not, same_name_turned}
use Rattle.pcef_usage.specs.Commands.{OnAfter, switched_on}
use Rattle.pcef_usage.specs.PendingReports.{ended, ends}
use Rattle.pcef_model.proofs.Strangers.{stranger_off}
use Rattle.pcef_usage.proofs.Slots.{and_no, or_assoc, or_false}
use Rattle.pcef_model.proofs.RulesAfter.{filter_all}

and_true : (a : Bool) → (a && true) ≡ a
and_true true = refl
and_true false = refl

and_false : (a : Bool) → (a && false) ≡ false
and_false true = refl
and_false false = refl

-- ---- keys that pass a test
pub among_filter : (test : List ℕ → Bool) (k : List ℕ) (keys : List (List ℕ)) → is_among k (filter test keys) ≡ (is_among k keys && test k)
among_filter test k [] = refl
among_filter test k (l ∷ keys) =
    let rest = among_filter test k keys in
    elim (cases_Bool (same_name k l)) [
      | inl same ↦ let alike : test l ≡ test k = sym (ap test (same_name_is k l same)) in
          elim (cases_Bool (test k)) [
            | inl yes_k ↦ let yes_l : test l ≡ true = alike ∙ yes_k in rw (yes_l, same, yes_k) refl
            | inr no_k ↦ let no_l : test l ≡ false = alike ∙ no_k in rw (no_l, same, no_k) (rest ∙ and_no (is_among k keys) (test k) no_k)
          ]
      | inr differs ↦ elim (cases_Bool (test l)) [ inl is ↦ rw (is, differs) rest | inr isnt ↦ rw (isnt, differs) rest ]
    ]

-- ---- what a plan ends
pub ended_append : (ts us : List PendingReport) (k : List ℕ) → ended (ts ++ us) k ≡ (ended ts k || ended us k)
ended_append [] us k = refl
ended_append (t ∷ ts) us k = ap (λ b. ends k t || b) (ended_append ts us k) ∙ or_assoc (ends k t) (ended ts k) (ended us k)

ended_map : (cause : Cause) (keys : List (List ℕ)) (k : List ℕ) → ends_grant cause ≡ true → ended (map (λ l. Usage l cause) keys) k ≡ is_among k keys
ended_map cause [] k is = refl
ended_map cause (l ∷ keys) k is = rw (ended_map cause keys k is, is) (ap (λ b. b || is_among k keys) (and_true (same_name k l)))

inactive_ends : (names : List (List ℕ)) (k : List ℕ) → ended (map Inactive names) k ≡ false
inactive_ends [] k = refl
inactive_ends (n ∷ names) k = inactive_ends names k

inactive_none : (g : Generation) (c : Command) (k : List ℕ) → ended (inactive g c) k ≡ false
inactive_none g (LoseBearer id) k = inactive_ends (in_order (map (λ r. r.properties.name) (filter (λ r. g.id_of r.properties.qos == id.0) g.rules))) k
inactive_none g (Install rule) k = refl
inactive_none g (Activate name) k = refl
inactive_none g (Remove name) k = refl
inactive_none g (Monitor l amount level) k = refl
inactive_none g (Stop l) k = refl
inactive_none g (ReportNow l) k = refl
inactive_none g (Triggers set) k = refl
inactive_none g (Notice kind value) k = refl
inactive_none g Close k = refl
inactive_none g Terminate k = refl

noticed_none : (j : Journal) (c : Command) (k : List ℕ) → ended (noticed j c) k ≡ false
noticed_none j (Notice kind value) k = elim (cases_Bool (is_subscribed (subscribed j) kind)) [ inl is ↦ rw is refl | inr isnt ↦ rw isnt refl ]
noticed_none j (Install rule) k = refl
noticed_none j (Activate name) k = refl
noticed_none j (Remove name) k = refl
noticed_none j (Monitor l amount level) k = refl
noticed_none j (Stop l) k = refl
noticed_none j (ReportNow l) k = refl
noticed_none j (Triggers set) k = refl
noticed_none j (LoseBearer id) k = refl
noticed_none j Close k = refl
noticed_none j Terminate k = refl

-- a plan ends the keys that lose their rules, and the one that is stopped
pub plan_ends : (p : Setting) (j : Journal) (c : Command) (k : List ℕ) → ended (plan p j c) k ≡ (ended (keys_ended p j c) k || ended (requested c) k)
plan_ends p j c k =
    ended_append (inactive (now p j) c) (keys_ended p j c ++ (requested c ++ noticed j c)) k
    ∙ ap (λ b. b || ended (keys_ended p j c ++ (requested c ++ noticed j c)) k) (inactive_none (now p j) c k)
    ∙ ended_append (keys_ended p j c) (requested c ++ noticed j c) k
    ∙ ap (λ b. ended (keys_ended p j c) k || b)
    (ended_append (requested c) (noticed j c) k ∙ ap (λ b. ended (requested c) k || b) (noticed_none j c k) ∙ or_false (ended (requested c) k))

-- ---- keys that lose their last rule
abbrev pub is_gone : Setting → Journal → Command → List ℕ → Bool
is_gone p j c k = is_among k (switched c (now p j).on) && has_key k (now p j).rules && not (has_key k (rules_after p (now p j) c))

-- a Terminate apart, a command ends these
pub gone_are : (p : Setting) (j : Journal) (c : Command) → c ≢ Terminate → keys_ended p j c ≡ map (λ k. Usage k RulesGone) (filter (is_gone p j c) (slots p j))
gone_are p j (Install rule) differs = refl
gone_are p j (Activate name) differs = refl
gone_are p j (Remove name) differs = refl
gone_are p j (Monitor l amount level) differs = refl
gone_are p j (Stop l) differs = refl
gone_are p j (ReportNow l) differs = refl
gone_are p j (Triggers set) differs = refl
gone_are p j (Notice kind value) differs = refl
gone_are p j (LoseBearer id) differs = refl
gone_are p j Close differs = refl
gone_are p j Terminate differs = absurd (differs refl)

gone_ends : (p : Setting) (j : Journal) (c : Command) (k : List ℕ) → c ≢ Terminate → ended (keys_ended p j c) k ≡ (is_among k (slots p j) && is_gone p j c k)
gone_ends p j c k differs =
    ap (λ ts. ended ts k) (gone_are p j c differs) ∙ ended_map RulesGone (filter (is_gone p j c) (slots p j)) k refl ∙ among_filter (is_gone p j c) k (slots p j)

terminate_ends : (p : Setting) (j : Journal) (k : List ℕ) →
    ended (keys_ended p j Terminate) k ≡ (is_among k (slots p j) && (is_among k (now p j).on || nat_lt 0 (unreported p j k)))
terminate_ends p j k =
    ended_map Terminated (filter (λ l. is_among l (now p j).on || nat_lt 0 (unreported p j l)) (slots p j)) k refl
    ∙ among_filter (λ l. is_among l (now p j).on || nat_lt 0 (unreported p j l)) k (slots p j)

still : (on old new : Bool) → (on && (not old || new)) ≡ (on && not (on && old && not new))
still true true true = refl
still true true false = refl
still true false new = refl
still false old new = refl

next_on : (p : Setting) (j : Journal) (c : Command) (k : List ℕ) → is_table c ≡ true →
    is_among k (now p (entry.Command c ∷ j)).on ≡ (is_among k (switched c (now p j).on) && not (is_gone p j c k))
unfolding made_by
next_on p j c k is =
    rw is
    (among_filter (λ l. not (has_key l (now p j).rules) || has_key l (rules_after p (now p j) c)) k (switched c (now p j).on)
    ∙ still (is_among k (switched c (now p j).on)) (has_key k (now p j).rules) (has_key k (rules_after p (now p j) c)))

-- a key that goes has a slot
gone_has_slot : (p : Setting) (j : Journal) (c : Command) (k : List ℕ) → switched c (now p j).on ≡ (now p j).on → (is_among k (slots p j) && is_gone p j c k) ≡ is_gone p j c k
gone_has_slot p j c k same =
    elim (cases_Bool (is_among k (slots p j))) [
      | inl is ↦ rw is refl
      | inr isnt ↦
          let off : is_among k (switched c (now p j).on) ≡ false = ap (is_among k) same ∙ stranger_off p (tables j) k isnt in
          let stays : is_gone p j c k ≡ false = ap (λ b. b && has_key k (now p j).rules && not (has_key k (rules_after p (now p j) c))) off in
          ap (λ b. b && is_gone p j c k) isnt ∙ sym stays
    ]

-- ---- commands that make a new generation
-- one that switches no key by itself
plain_after : (p : Setting) (j : Journal) (c : Command) → is_table c ≡ true → c ≢ Terminate → ((k : List ℕ) → ended (requested c) k ≡ false) →
    switched c (now p j).on ≡ (now p j).on → switched_on c (now p j).on ≡ (now p j).on → OnAfter p j c
plain_after p j c is differs unasked same same_on k has =
    let ended_is : ended (plan p j c) k ≡ is_gone p j c k =
    plan_ends p j c k ∙ ap (λ b. ended (keys_ended p j c) k || b) (unasked k) ∙ or_false (ended (keys_ended p j c) k) ∙ gone_ends p j c k differs ∙ gone_has_slot p j c k same in
    next_on p j c k is ∙ ap (λ b. is_among k (switched c (now p j).on) && not b) (sym ended_is)
    ∙ ap (λ on. is_among k on && not (ended (plan p j c) k)) (same ∙ sym same_on)

off_anyway : (on has : Bool) → (on && not (true && (on || has))) ≡ false
off_anyway true has = refl
off_anyway false has = refl

after_terminate : (p : Setting) (j : Journal) → OnAfter p j Terminate
unfolding slots_of
after_terminate p j k has =
    next_on p j Terminate k refl
    ∙ sym
    (ap (λ b. is_among k (now p j).on && not b)
    (plan_ends p j Terminate k ∙ or_false (ended (keys_ended p j Terminate) k) ∙ terminate_ends p j k
    ∙ ap (λ b. b && (is_among k (now p j).on || nat_lt 0 (unreported p j k))) has)
    ∙ off_anyway (is_among k (now p j).on) (nat_lt 0 (unreported p j k)))

-- ---- commands that leave the rules
never_gone : (on has : Bool) → (on && has && not has) ≡ false
never_gone true true = refl
never_gone true false = refl
never_gone false has = refl

pub none_gone : (p : Setting) (j : Journal) (c : Command) (k : List ℕ) → rules_after p (now p j) c ≡ (now p j).rules → is_gone p j c k ≡ false
none_gone p j c k same =
    ap (λ rules. is_among k (switched c (now p j).on) && has_key k (now p j).rules && not (has_key k rules)) same
    ∙ never_gone (is_among k (switched c (now p j).on)) (has_key k (now p j).rules)

-- such a plan ends what is asked
quiet_ends : (p : Setting) (j : Journal) (c : Command) (k : List ℕ) → c ≢ Terminate → rules_after p (now p j) c ≡ (now p j).rules → ended (plan p j c) k ≡ ended (requested c) k
quiet_ends p j c k differs same =
    plan_ends p j c k
    ∙ ap (λ b. b || ended (requested c) k) (gone_ends p j c k differs ∙ ap (λ b. is_among k (slots p j) && b) (none_gone p j c k same) ∙ and_false (is_among k (slots p j)))

after_monitor : (p : Setting) (j : Journal) (l : List ℕ) (amount : ℕ) (level : Level) → OnAfter p j (Monitor l amount level)
after_monitor p j l amount level k has =
    next_on p j (Monitor l amount level) k refl
    ∙ ap (λ b. is_among k (add_key l (now p j).on) && not b) (none_gone p j (Monitor l amount level) k (filter_all (now p j).rules) ∙ sym (quiet_ends p j (Monitor l amount level) k (λ e. cc) (filter_all (now p j).rules)))

turned : (l k : List ℕ) → same_name l k ≡ same_name k l
turned l k =
    elim (cases_Bool (same_name l k)) [
      | inl same ↦ same ∙ sym (same_name_turned l k same)
      | inr differs ↦ differs ∙ sym (same_name_not l k differs)
    ]

after_stop : (p : Setting) (j : Journal) (l : List ℕ) → OnAfter p j (Stop l)
after_stop p j l k has =
    next_on p j (Stop l) k refl
    ∙ ap (λ b. is_among k (filter (λ m. not (same_name l m)) (now p j).on) && not b) (none_gone p j (Stop l) k (filter_all (now p j).rules))
    ∙ and_true (is_among k (filter (λ m. not (same_name l m)) (now p j).on)) ∙ among_filter (λ m. not (same_name l m)) k (now p j).on
    ∙ ap (λ b. is_among k (now p j).on && not b) (turned l k ∙ sym (quiet_ends p j (Stop l) k (λ e. cc) (filter_all (now p j).rules) ∙ or_false (same_name k l && true) ∙ and_true (same_name k l)))

-- ---- commands that make no generation
other_after : (p : Setting) (j : Journal) (c : Command) → is_table c ≡ false → c ≢ Terminate → rules_after p (now p j) c ≡ (now p j).rules →
    ((k : List ℕ) → ended (requested c) k ≡ false) → switched_on c (now p j).on ≡ (now p j).on → OnAfter p j c
other_after p j c isnt differs same unasked same_on k has =
    let stays : (now p (entry.Command c ∷ j)).on ≡ (now p j).on = rw isnt refl in
    ap (is_among k) stays
    ∙ sym
    (ap (λ b. is_among k (switched_on c (now p j).on) && not b) (quiet_ends p j c k differs same ∙ unasked k)
    ∙ and_true (is_among k (switched_on c (now p j).on)) ∙ ap (is_among k) same_on)

requested_ends : (l k : List ℕ) → ended (requested (ReportNow l)) k ≡ false
requested_ends l k = or_false (same_name k l && false) ∙ and_false (same_name k l)

-- ---- every command
pub on_after : (p : Setting) (j : Journal) (c : Command) → OnAfter p j c
on_after p j (Install rule) = plain_after p j (Install rule) refl (λ e. cc) (λ k. refl) refl refl
on_after p j (Activate name) = plain_after p j (Activate name) refl (λ e. cc) (λ k. refl) refl refl
on_after p j (Remove name) = plain_after p j (Remove name) refl (λ e. cc) (λ k. refl) refl refl
on_after p j (Monitor l amount level) = after_monitor p j l amount level
on_after p j (Stop l) = after_stop p j l
on_after p j (ReportNow l) = other_after p j (ReportNow l) refl (λ e. cc) (filter_all (now p j).rules) (requested_ends l) refl
on_after p j (Triggers set) = other_after p j (Triggers set) refl (λ e. cc) (filter_all (now p j).rules) (λ k. refl) refl
on_after p j (Notice kind value) = other_after p j (Notice kind value) refl (λ e. cc) (filter_all (now p j).rules) (λ k. refl) refl
on_after p j (LoseBearer id) = plain_after p j (LoseBearer id) refl (λ e. cc) (λ k. refl) refl refl
on_after p j Close = plain_after p j Close refl (λ e. cc) (λ k. refl) refl refl
on_after p j Terminate = after_terminate p j
