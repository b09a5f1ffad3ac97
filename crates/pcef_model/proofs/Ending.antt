-- What a Terminate leaves: nothing unreported, and nothing that could follow.
use Rattle.std.proofs.Common.{◌≡◌, ◌-◌, ◌∙◌, ◌||◌, ℕ, Bool, true, false, List, [], ◌∷◌, Some, None, filter, length, map, refl, sym, ap, arith, inl, inr}
use Rattle.std.specs.Prelude.{◌==◌, nat_lt}
use Rattle.std.specs.List.{list_any}
use Rattle.std.proofs.lemmas.Bool.{cases_Bool, ltb-false}
use Rattle.std.proofs.lemmas.List.{append-nil}
use Rattle.pcef_model.specs.declared.command.Command.{Command}
use Rattle.pcef_model.specs.declared.command.Command.TheVariants.{Install, Activate, Remove, Monitor, Stop, ReportNow, Triggers, Notice, LoseBearer, Close, Terminate}
use Rattle.pcef_model.specs.declared.entry.Entry.TheVariants as entry
use Rattle.pcef_model.specs.declared.report.Cause.TheVariants.{Terminated}
use Rattle.pcef_model.specs.declared.answer.AttachFault.TheVariants as attach
use Rattle.pcef_model.specs.declared.answer.Refusal.TheVariants as refusal
use Rattle.pcef_model.specs.declared.pending_report.PendingReport.{PendingReport}
use Rattle.pcef_model.specs.declared.pending_report.PendingReport.TheVariants.{Access, Inactive, Usage}
use Rattle.pcef_model.specs.Setting.{Setting, same_name}
use Rattle.pcef_model.specs.Commands.{is_among}
use Rattle.pcef_model.specs.Entries.{Journal}
use Rattle.pcef_model.specs.Journals.{attached, counted, now, octets_of_report, report_count, reported, slots, unreported}
use Rattle.pcef_model.specs.Laws.{IsOver}
use Rattle.pcef_model.specs.Lawful.{Lawful}
use Rattle.pcef_model.specs.Refusals.{attach_faults, first_of, is_attached, refusals, was_closed, was_terminated}
use Rattle.pcef_model.specs.Reports.{after_command, body_of, keys_ended, plan, with_reports, thresholds}
use Rattle.pcef_model.proofs.Acceptance.{condition_none}
use Rattle.pcef_model.proofs.Exactness.{lawful_exact}
use Rattle.pcef_model.proofs.Growth.{counted_after_command}
use Rattle.pcef_model.proofs.JournalExtends.{attached_after_command}
use Rattle.pcef_model.proofs.Reports.{reported_after_command}
use Rattle.pcef_model.proofs.Sameness.{same_name_is}

-- ---- reporting
-- the journal with one report
abbrev with_report : Setting → PendingReport → Journal → Journal
with_report p t j = entry.Report (record { number = report_count j; body = body_of p j t }) ∷ j

-- a key of which nothing is unreported stays so
one_zero : (p : Setting) (t : PendingReport) (j : Journal) (key : List ℕ) → unreported p j key ≡ 0 → unreported p (with_report p t j) key ≡ 0
unfolding reported
one_zero p t j key none = omega (arith, none)

tell_zero : (p : Setting) (ts : List PendingReport) (j : Journal) (key : List ℕ) → unreported p j key ≡ 0 → unreported p (with_reports p ts j) key ≡ 0
unfolding with_reports
tell_zero p [] j key none = none
tell_zero p (t ∷ ts) j key none = tell_zero p ts (with_report p t j) key (one_zero p t j key none)

-- a key that is reported has nothing unreported then
abbrev tells : List ℕ → PendingReport → Bool
tells key (Usage other cause) = same_name key other
tells key _ = false

one_clears : (p : Setting) (t : PendingReport) (j : Journal) (key : List ℕ) → tells key t ≡ true → unreported p (with_report p t j) key ≡ 0
unfolding reported
one_clears p (Inactive rule) j key is = absurd cc
one_clears p (Access kind value) j key is = absurd cc
one_clears p (Usage other cause) j key is =
    let same : key ≡ other = same_name_is key other is in
    let told : octets_of_report key (body_of p j (Usage other cause)) ≡ unreported p j key = rw is (ap (unreported p j) (sym same)) in
    omega (arith, told)

tell_clears : (p : Setting) (ts : List PendingReport) (j : Journal) (key : List ℕ) → list_any (tells key) ts ≡ true → unreported p (with_reports p ts j) key ≡ 0
unfolding with_reports
tell_clears p [] j key is = absurd cc
tell_clears p (t ∷ ts) j key is =
    elim (cases_Bool (tells key t)) [
      | inl here ↦ tell_zero p ts (with_report p t j) key (one_clears p t j key here)
      | inr other ↦ let rest : list_any (tells key) ts ≡ true = rw other at is in tell_clears p ts (with_report p t j) key rest
    ]

-- ---- what a Terminate reports
-- a key that is on or has unreported octets
abbrev wants_end : Setting → Journal → List ℕ → Bool
wants_end p j k = is_among k (now p j).on || nat_lt 0 (unreported p j k)

told_among : (key : List ℕ) (keys : List (List ℕ)) → list_any (tells key) (map (λ k. Usage k Terminated) keys) ≡ is_among key keys
told_among key [] = refl
told_among key (k ∷ keys) = ap (λ b. same_name key k || b) (told_among key keys)

-- one that passes a test is among those that do
pub among_kept : (test : List ℕ → Bool) (key : List ℕ) (keys : List (List ℕ)) → is_among key keys ≡ true → test key ≡ true → is_among key (filter test keys) ≡ true
among_kept test key [] there holds = absurd cc
among_kept test key (k ∷ keys) there holds =
    elim (cases_Bool (same_name key k)) [
      | inl same ↦ let kept : test k ≡ true = ap test (sym (same_name_is key k same)) ∙ holds in rw (kept, same) refl
      | inr differs ↦
          let rest : is_among key keys ≡ true = rw differs at there in
          let later = among_kept test key keys rest holds in
          elim (cases_Bool (test k)) [ inl kept ↦ rw (kept, differs) later | inr gone ↦ rw gone later ]
    ]

-- ---- nothing is unreported
pub nothing_unreported : (p : Setting) (j : Journal) → Lawful p j → (key : List ℕ) → is_among key (slots p j) ≡ true → unreported p (after_command p j Terminate) key ≡ 0
unfolding after_command
nothing_unreported p j lawful key there =
    let k : Journal = entry.Command Terminate ∷ j in
    let before : unreported p k key ≡ unreported p j key =
    ap (λ n. n - reported k key) (counted_after_command p j key Terminate (lawful_exact p j lawful).known)
    ∙ ap (λ n. counted p j key - n) (reported_after_command j key Terminate) in
    let planned : list_any (tells key) (plan p j Terminate) ≡ is_among key (filter (wants_end p j) (slots p j)) =
    ap (list_any (tells key)) (append-nil (keys_ended p j Terminate)) ∙ told_among key (filter (wants_end p j) (slots p j)) in
    tell_zero p (thresholds p (with_reports p (plan p j Terminate) k)) (with_reports p (plan p j Terminate) k) key
    (elim (cases_Bool (wants_end p j key)) [
      | inl wants ↦ tell_clears p (plan p j Terminate) k key (planned ∙ among_kept (wants_end p j) key (slots p j) there wants)
      | inr not ↦ tell_zero p (plan p j Terminate) k key (before ∙ none_left p j key not)
    ])
  where
    none_left : (p : Setting) (j : Journal) (key : List ℕ) → wants_end p j key ≡ false → unreported p j key ≡ 0
    none_left p j key is = from (is_among key (now p j).on) (nat_lt 0 (unreported p j key)) refl is
      where
        from : (on more : Bool) → nat_lt 0 (unreported p j key) ≡ more → (on || more) ≡ false → unreported p j key ≡ 0
        from true more at is = absurd cc
        from false true at is = absurd cc
        from false false at is = omega (arith, ltb-false 0 (unreported p j key) at)

-- ---- nothing follows
ended_told : (p : Setting) (ts : List PendingReport) (j : Journal) → was_terminated (with_reports p ts j) ≡ was_terminated j
unfolding with_reports
ended_told p [] j = refl
ended_told p (t ∷ ts) j = ended_told p ts (with_report p t j)

terminated_after : (p : Setting) (j : Journal) → was_terminated (after_command p j Terminate) ≡ true
unfolding after_command
terminated_after p j =
    let k : Journal = entry.Command Terminate ∷ j in
    ended_told p (thresholds p (with_reports p (plan p j Terminate) k)) (with_reports p (plan p j Terminate) k) ∙ ended_told p (plan p j Terminate) k

none_there : (ws : List ℕ) → nat_lt 0 (length ws) ≡ false → ws ≡ []
none_there [] few = refl
none_there (w ∷ ws) few = absurd (let less = ltb-false 0 (length (w ∷ ws)) few in omega (arith, less))

refused_over : (p : Setting) (j : Journal) (c : Command) → was_terminated j ≡ true → first_of (refusals p j c) ≡ Some refusal.Terminated
refused_over p j (Install rule) is = rw is refl
refused_over p j (Activate name) is = rw is refl
refused_over p j (Remove name) is = rw is refl
refused_over p j (Monitor key amount level) is = rw is refl
refused_over p j (Stop key) is = rw is refl
refused_over p j (ReportNow key) is = rw is refl
refused_over p j (Triggers set) is = rw is refl
refused_over p j (Notice kind value) is = rw is refl
refused_over p j (LoseBearer id) is = rw is refl
refused_over p j Close is = rw is refl
refused_over p j Terminate is = rw is refl

no_worker_over : (j : Journal) → was_terminated j ≡ true → first_of (attach_faults j) ≡ None → ⊥
no_worker_over j is none =
    let second = condition_none (was_closed j || was_terminated j) attach.Closed [] (condition_none _ attach.NoPlace ((was_closed j || was_terminated j, attach.Closed) ∷ []) none).1 in
    from (was_closed j) (was_terminated j) is second.0
  where
    from : (closed terminated : Bool) → terminated ≡ true → (closed || terminated) ≡ false → ⊥
    from true terminated over none = cc
    from false true over none = cc
    from false false over none = cc

pub nothing_follows : (p : Setting) (j : Journal) → first_of (refusals p j Terminate) ≡ None → IsOver p (after_command p j Terminate)
nothing_follows p j accepted =
    let k : Journal = after_command p j Terminate in
    let over : was_terminated k ≡ true = terminated_after p j in
    let first = condition_none (was_terminated j) refusal.Terminated ((nat_lt 0 (length (attached j)), refusal.WorkersAttached (length (attached j))) ∷ []) accepted in
    let second = condition_none (nat_lt 0 (length (attached j))) (refusal.WorkersAttached (length (attached j))) [] first.1 in
    let nobody : attached k ≡ [] = attached_after_command p j Terminate ∙ none_there (attached j) second.0 in
    record {
      no_row = λ worker count.
          let away : is_attached k worker ≡ false = ap (list_any (λ w. w == worker)) nobody in rw away refl;
      no_worker = λ none. no_worker_over k over none;
      no_command = λ c. refused_over p k c over;
    }
