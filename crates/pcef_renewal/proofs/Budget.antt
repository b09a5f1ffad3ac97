-- What stands in a renewal took commands: its keys that are on, its rules, and its subscriptions.
use Rattle.std.proofs.Common.{◌≡◌, ◌∙◌, ◌≤◌, ◌+◌, ◌||◌, ℕ, Bool, true, false, not, List, [], ◌∷◌, Some, length, length-append, refl, ap, arith, inl, inr}
use Rattle.std.specs.Prelude.{if◌then◌else◌}
use Rattle.std.proofs.lemmas.Bool.{cases_Bool}
use Rattle.pcef_base.proofs.Keeping.{filter_length}
use Rattle.pcef_model.specs.declared.command.Command.{Command}
use Rattle.pcef_model.specs.declared.command.Command.TheVariants.{Install, Activate, Remove, Monitor, Stop, ReportNow, Triggers, Notice, LoseBearer, Close, Terminate}
use Rattle.pcef_model.specs.declared.entry.Entry.TheVariants as entry
use Rattle.pcef_model.specs.declared.pending_report.PendingReport.{PendingReport}
use Rattle.pcef_model.specs.declared.row.Row.{Row}
use Rattle.pcef_model.specs.ActiveRules.{Active, has_key, is_named, put}
use Rattle.pcef_model.specs.Commands.{activated, add_key, is_among, is_table, switched}
use Rattle.pcef_model.specs.Entries.{Journal}
use Rattle.pcef_model.specs.Generations.{Generation, made_by, rules_after, stays}
use Rattle.pcef_model.specs.Journals.{now, report_count, subscribed}
use Rattle.pcef_model.specs.Lawful.{Lawful, at_first, by_attach, by_command, by_flush, by_leave}
use Rattle.pcef_model.specs.Refusals.{is_limited, limited_count}
use Rattle.pcef_model.specs.Reports.{after_command, after_flush, body_of, plan, thresholds, with_reports, with_rows}
use Rattle.pcef_model.specs.Setting.{Setting, same_name}
use Rattle.pcef_model.proofs.AfterEvents.{now_after, subscribed_settled}
use Rattle.pcef_model.proofs.Growth.{now_after_table}
use Rattle.pcef_model.proofs.JournalExtends.{tables_after_flush}
use Rattle.pcef_model.proofs.Reports.{tell_subscribed}
use Rattle.pcef_model.proofs.RulesAfter.{rule_change, rules_left, rules_put}
use Rattle.pcef_model.proofs.RulesNow.{now_after_other}
use Rattle.pcef_renewal.specs.Renewal.{is_any}

-- ---- what a command adds
abbrev one_if : Bool → ℕ
one_if b = if b then 1 else 0

abbrev switches_on : Command → ℕ
switches_on (Monitor key amount level) = 1
switches_on _ = 0

abbrev activates : Command → ℕ
activates (Install rule) = 1
activates (Activate name) = 1
activates _ = 0

abbrev subscribes : Command → ℕ
subscribes (Triggers set) = 1
subscribes _ = 0

costs_one : (c : Command) → switches_on c + activates c + subscribes c ≤ one_if (is_limited (entry.Command c))
costs_one (Install rule) = omega arith
costs_one (Activate name) = omega arith
costs_one (Remove name) = omega arith
costs_one (Monitor key amount level) = omega arith
costs_one (Stop key) = omega arith
costs_one (ReportNow key) = omega arith
costs_one (Triggers set) = omega arith
costs_one (Notice kind value) = omega arith
costs_one (LoseBearer id) = omega arith
costs_one Close = omega arith
costs_one Terminate = omega arith

-- ---- keys that are on
length-add_key : (key : List ℕ) (keys : List (List ℕ)) → length (add_key key keys) ≤ length keys + 1
length-add_key key keys =
    elim (cases_Bool (is_among key keys)) [ inl there ↦ rw there (omega arith) | inr absent ↦ rw absent (omega (arith, length-append keys (key ∷ []))) ]

length-switched : (c : Command) (on : List (List ℕ)) → length (switched c on) ≤ length on + switches_on c
length-switched (Monitor key amount level) on = length-add_key key on
length-switched (Stop key) on = omega (arith, filter_length (λ k. not (same_name key k)) on)
length-switched Terminate on = omega arith
length-switched (Install rule) on = omega arith
length-switched (Activate name) on = omega arith
length-switched (Remove name) on = omega arith
length-switched (ReportNow key) on = omega arith
length-switched (Triggers set) on = omega arith
length-switched (Notice kind value) on = omega arith
length-switched (LoseBearer id) on = omega arith
length-switched Close on = omega arith

-- ---- rules
length-put : (new : Active) (rules : List Active) → length (put new rules) ≤ length rules + 1
length-put new [] = omega arith
length-put new (r ∷ rules) =
    let rest = length-put new rules in
    elim (cases_Bool (is_named new.properties.name r)) [ inl is ↦ rw is (omega arith) | inr isnt ↦ rw isnt (omega (arith, rest)) ]

makes_one : (p : Setting) (c : Command) (r : Active) → activated p c ≡ Some r → activates c ≡ 1
makes_one p (Install rule) r is = refl
makes_one p (Activate name) r is = refl
makes_one p (Remove name) r is = absurd cc
makes_one p (Monitor key amount level) r is = absurd cc
makes_one p (Stop key) r is = absurd cc
makes_one p (ReportNow key) r is = absurd cc
makes_one p (Triggers set) r is = absurd cc
makes_one p (Notice kind value) r is = absurd cc
makes_one p (LoseBearer id) r is = absurd cc
makes_one p Close r is = absurd cc
makes_one p Terminate r is = absurd cc

length-rules : (p : Setting) (g : Generation) (c : Command) → length (rules_after p g c) ≤ length g.rules + activates c
length-rules p g c =
    elim (rule_change p c) [
      | inl makes ↦ rw (rules_put p g c makes.0 makes.1) (omega (arith, length-put makes.0 g.rules, makes_one p c makes.0 makes.1))
      | inr none ↦ rw (rules_left p g c none) (omega (arith, filter_length (stays g c) g.rules))
    ]

-- ---- subscriptions
one_at_most : (b : Bool) → one_if b ≤ 1
one_at_most true = omega arith
one_at_most false = omega arith

subscribed_by : (c : Command) (j : Journal) → one_if (is_any (subscribed (entry.Command c ∷ j))) ≤ one_if (is_any (subscribed j)) + subscribes c
unfolding subscribed
subscribed_by (Triggers set) j = omega (arith, one_at_most (is_any set))
subscribed_by (Install rule) j = omega arith
subscribed_by (Activate name) j = omega arith
subscribed_by (Remove name) j = omega arith
subscribed_by (Monitor key amount level) j = omega arith
subscribed_by (Stop key) j = omega arith
subscribed_by (ReportNow key) j = omega arith
subscribed_by (Notice kind value) j = omega arith
subscribed_by (LoseBearer id) j = omega arith
subscribed_by Close j = omega arith
subscribed_by Terminate j = omega arith

pub subscribed_after : (p : Setting) (j : Journal) (c : Command) → subscribed (after_command p j c) ≡ subscribed (entry.Command c ∷ j)
unfolding after_command
subscribed_after p j c = subscribed_settled p (with_reports p (plan p j c) (entry.Command c ∷ j)) ∙ tell_subscribed p (plan p j c) (entry.Command c ∷ j)

pub subscribed_rows : (rs : List Row) (j : Journal) → subscribed (with_rows rs j) ≡ subscribed j
unfolding with_rows subscribed
subscribed_rows [] j = refl
subscribed_rows (r ∷ rs) j = subscribed_rows rs (entry.Row r ∷ j)

pub subscribed_flushed : (p : Setting) (j : Journal) (rs : List Row) → subscribed (after_flush p j rs) ≡ subscribed j
subscribed_flushed p j [] = refl
subscribed_flushed p j (r ∷ rs) = subscribed_settled p (with_rows (r ∷ rs) j) ∙ subscribed_rows (r ∷ rs) j

-- ---- commands that count
limited_told : (p : Setting) (ts : List PendingReport) (j : Journal) → limited_count (with_reports p ts j) ≡ limited_count j
unfolding with_reports limited_count
limited_told p [] j = refl
limited_told p (t ∷ ts) j =
    let rest = limited_told p ts (entry.Report (record { number = report_count j; body = body_of p j t }) ∷ j) in omega (arith, rest)

limited_rows : (rs : List Row) (j : Journal) → limited_count (with_rows rs j) ≡ limited_count j
unfolding with_rows limited_count
limited_rows [] j = refl
limited_rows (r ∷ rs) j = let rest = limited_rows rs (entry.Row r ∷ j) in omega (arith, rest)

limited_flushed : (p : Setting) (j : Journal) (rs : List Row) → limited_count (after_flush p j rs) ≡ limited_count j
limited_flushed p j [] = refl
limited_flushed p j (r ∷ rs) = limited_told p (thresholds p (with_rows (r ∷ rs) j)) (with_rows (r ∷ rs) j) ∙ limited_rows (r ∷ rs) j

limited_after : (p : Setting) (j : Journal) (c : Command) → limited_count (after_command p j c) ≡ one_if (is_limited (entry.Command c)) + limited_count j
unfolding after_command limited_count
limited_after p j c =
    limited_told p (thresholds p (with_reports p (plan p j c) (entry.Command c ∷ j))) (with_reports p (plan p j c) (entry.Command c ∷ j))
    ∙ limited_told p (plan p j c) (entry.Command c ∷ j)

-- ---- all
abbrev pub weight : Generation → Journal → ℕ
weight g j = length g.on + length g.rules + one_if (is_any (subscribed j))

no_switch : (c : Command) (on : List (List ℕ)) → is_table c ≡ false → switches_on c + activates c ≡ 0
no_switch (ReportNow key) on isnt = refl
no_switch (Triggers set) on isnt = refl
no_switch (Notice kind value) on isnt = refl
no_switch (Install rule) on isnt = absurd cc
no_switch (Activate name) on isnt = absurd cc
no_switch (Remove name) on isnt = absurd cc
no_switch (Monitor key amount level) on isnt = absurd cc
no_switch (Stop key) on isnt = absurd cc
no_switch (LoseBearer id) on isnt = absurd cc
no_switch Close on isnt = absurd cc
no_switch Terminate on isnt = absurd cc

grows_by : (p : Setting) (j : Journal) (c : Command) →
    length (now p (entry.Command c ∷ j)).on + length (now p (entry.Command c ∷ j)).rules ≤ length (now p j).on + length (now p j).rules + (switches_on c + activates c)
grows_by p j c =
    elim (cases_Bool (is_table c)) [
      | inl is ↦ rw (now_after_table p j c is)
          (omega (
            arith,
            filter_length (λ k. not (has_key k (now p j).rules) || has_key k (rules_after p (now p j) c)) (switched c (now p j).on),
            length-switched c (now p j).on,
            length-rules p (now p j) c,
          ))
      | inr isnt ↦ rw (now_after_other p j c isnt) (omega arith)
    ]

pub within_commands : (p : Setting) (j : Journal) → Lawful p j → weight (now p j) j ≤ limited_count j
unfolding made_by subscribed limited_count
within_commands p _ at_first = omega arith
within_commands p _ (by_command j c l accepted changing) =
    let before = within_commands p j l in
    let now_is = now_after p j c in
    let subs_is = subscribed_after p j c in
    rw (now_is, subs_is, limited_after p j c)
    (omega (arith, before, grows_by p j c, subscribed_by c j, costs_one c))
within_commands p _ (by_attach j l accepted) = let before = within_commands p j l in omega (arith, before)
within_commands p _ (by_leave j worker l there) = let before = within_commands p j l in omega (arith, before)
within_commands p _ (by_flush j worker rs l accepted follows) =
    let before = within_commands p j l in
    rw (ap (made_by p) (tables_after_flush p j rs), subscribed_flushed p j rs, limited_flushed p j rs) before
