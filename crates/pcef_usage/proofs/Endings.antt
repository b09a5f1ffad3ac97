-- What an event leaves agrees with the journal: its own reports, and then the thresholds.
use Rattle.std.proofs.Common.{◌≡◌, ℕ, Bool, true, false, List, [], ◌∷◌, length, refl, sym, ap, ◌∙◌, inl, inr, zero, suc, subst, map}
use Rattle.std.specs.List.{AllByRecursion}
use Rattle.std.proofs.lemmas.Bool.{cases_Bool}
use Rattle.std.proofs.lemmas.List.{length-map}
use Rattle.pcef_model.specs.declared.pending_report.PendingReport.{PendingReport}
use Rattle.pcef_model.specs.declared.pending_report.PendingReport.TheVariants.{Inactive, Usage, Access}
use Rattle.pcef_model.specs.declared.trigger.TriggerSet.{TriggerSet}
use Rattle.pcef_model.specs.Setting.{Setting}
use Rattle.pcef_model.specs.Generations.{Generation}
use Rattle.pcef_model.specs.Commands.{is_among}
use Rattle.pcef_model.specs.Entries.{Journal}
use Rattle.pcef_model.specs.Journals.{now, slots, subscribed}
use Rattle.pcef_model.specs.Reports.{with_thresholds, with_reports, thresholds}
use Rattle.pcef_usage.specs.declared.usage.KeyState.{KeyState}
use Rattle.pcef_usage.specs.Keys.{at_place, grant_is_reached, keys_of, slot_place, reported_on, ungranted_if_reached}
use Rattle.pcef_usage.specs.PendingReports.{AllCount, AllOn, Distinct, KnowsAll, after_stop, after_report, settled_states, threshold_reports, states_stopped, after_reports, appended}
use Rattle.pcef_usage.proofs.Loops.{keys_stopped, many}
use Rattle.pcef_model.proofs.Reports.{tell_now, tell_slots, tell_subscribed}
use Rattle.pcef_usage.proofs.Tells.{keys_after, told_well}
use Rattle.pcef_usage.proofs.Settles.{all_settled, keys_settled, knows_settled, thresholds_are}

-- a report switches no key

pub on_at : (g : List (List ℕ)) (f : KeyState → KeyState) (n : ℕ) (states : List KeyState) → ((s : KeyState) → ((f s).on ≡ s.on) × ((f s).key ≡ s.key)) →
    AllByRecursion (λ s. s.on ≡ is_among s.key g) states → AllByRecursion (λ s. s.on ≡ is_among s.key g) (at_place n f states)
on_at g f n [] h a = tt
on_at g f zero (s ∷ states) h a = ((h s).0 ∙ a.0 ∙ sym (ap (λ k. is_among k g) (h s).1), a.1)
on_at g f (suc n) (s ∷ states) h a = (a.0, on_at g f n states h a.1)

on_report : (g : List (List ℕ)) (t : PendingReport) (states : List KeyState) → AllByRecursion (λ s. s.on ≡ is_among s.key g) states → AllByRecursion (λ s. s.on ≡ is_among s.key g) (after_report t states)
on_report g (Inactive n) states a = a
on_report g (Usage k cause) states a = on_at g reported_on (slot_place k states) states (λ s. (refl, refl)) a
on_report g (Access t v) states a = a

on_told : (g : List (List ℕ)) (ts : List PendingReport) (states : List KeyState) → AllByRecursion (λ s. s.on ≡ is_among s.key g) states → AllByRecursion (λ s. s.on ≡ is_among s.key g) (after_reports ts states)
unfolding after_reports
on_told g [] states a = a
on_told g (t ∷ ts) states a = on_told g ts (after_report t states) (on_report g t states a)

pub from_on : (p : Setting) (j : Journal) (states : List KeyState) → AllOn p j states → AllByRecursion (λ s. s.on ≡ is_among s.key (now p j).on) states
unfolding AllOn
from_on p j [] a = tt
from_on p j (s ∷ states) a = (a.0.on_is, from_on p j states a.1)

pub to_on : (p : Setting) (j : Journal) (states : List KeyState) → AllByRecursion (λ s. s.on ≡ is_among s.key (now p j).on) states → AllOn p j states
unfolding AllOn
to_on p j [] a = tt
to_on p j (s ∷ states) a = (record { on_is = a.0 }, to_on p j states a.1)

pub all_on_told : (p : Setting) (ts us : List PendingReport) (j : Journal) (states : List KeyState) → AllOn p j states → AllOn p (with_reports p us j) (after_reports ts states)
all_on_told p ts us j states a =
    to_on p (with_reports p us j) (after_reports ts states)
    (subst (λ (g : Generation). AllByRecursion (λ s. s.on ≡ is_among s.key g.on) (after_reports ts states)) (sym (tell_now p us j)) (on_told (now p j).on ts states (from_on p j states a)))

on_ungranted : (g : List (List ℕ)) (states : List KeyState) → AllByRecursion (λ s. s.on ≡ is_among s.key g) states → AllByRecursion (λ s. s.on ≡ is_among s.key g) (map ungranted_if_reached states)
on_ungranted g [] a = tt
on_ungranted g (s ∷ states) a = (elim (cases_Bool (grant_is_reached s)) [ inl e ↦ rw e a.0 | inr e ↦ rw e a.0 ], on_ungranted g states a.1)

pub all_on_settled : (p : Setting) (j : Journal) (b : Bool) (states : List KeyState) → AllOn p j states → AllOn p j (settled_states b states)
all_on_settled p j true states a = to_on p j (map ungranted_if_reached states) (on_ungranted (now p j).on states (from_on p j states a))
all_on_settled p j false states a = a

-- the tail of an event: the command's own tellings, and then the thresholds

pub record Ended (p : Setting) (j : Journal) (ts : List PendingReport) (states : List KeyState) (new : Journal) (left : List KeyState) : Type 0 where
  pub journal_is : new ≡ with_thresholds p (with_reports p ts j)
  pub keys_are : keys_of left ≡ slots p new
  pub counts : AllCount p new [] left
  pub on : AllOn p new left

pub ending : (p : Setting) (j : Journal) (ts : List PendingReport) (states : List KeyState) (b : Bool) → Distinct (slots p j) → keys_of states ≡ slots p j → KnowsAll (slots p j) ts →
    AllCount p j ts states → AllOn p j states → b ≡ (subscribed j).usage_report →
    Ended p j ts states (appended (threshold_reports b (after_reports ts states)) (settled_states b (after_reports ts states)) (appended ts states j))
    (after_reports (threshold_reports b (after_reports ts states)) (settled_states b (after_reports ts states)))
ending p j ts states b d e k a o s =
    let r = told_well p ts j states (subst Distinct (sym e) d) (subst (λ (ks : List (List ℕ)). KnowsAll ks ts) (sym e) k) a in
    let mid : Journal = with_reports p ts j in
    let left : List KeyState = after_reports ts states in
    let o2 : AllOn p mid left = all_on_told p ts ts j states o in
    let e2 : keys_of left ≡ slots p mid = r.keys_are ∙ e ∙ sym (tell_slots p ts j) in
    let s2 : b ≡ (subscribed mid).usage_report = s ∙ ap (λ (t : TriggerSet). t.usage_report) (sym (tell_subscribed p ts j)) in
    let d2 : Distinct (keys_of (settled_states b left)) = subst Distinct (sym (keys_settled b left ∙ r.keys_are ∙ e)) d in
    let a2 : AllCount p mid (threshold_reports b left) (settled_states b left) =
    subst (λ (c : Bool). AllCount p mid (threshold_reports c left) (settled_states c left)) (sym s2) (all_settled p mid left e2 o2 r.counts) in
    let w = told_well p (threshold_reports b left) mid (settled_states b left) d2 (knows_settled b left) a2 in
    let t : threshold_reports b left ≡ thresholds p mid = ap (λ (c : Bool). threshold_reports c left) s2 ∙ thresholds_are p mid left e2 o2 r.counts in
    let n : appended (threshold_reports b left) (settled_states b left) (appended ts states j) ≡ with_reports p (threshold_reports b left) mid =
    ap (appended (threshold_reports b left) (settled_states b left)) r.journal_is ∙ w.journal_is in record {
      journal_is = n ∙ ap (λ us. with_reports p us mid) t;
      keys_are = w.keys_are ∙ keys_settled b left ∙ e2 ∙ sym (ap (slots p) n ∙ tell_slots p (threshold_reports b left) mid);
      counts = subst (λ (i : Journal). AllCount p i [] (after_reports (threshold_reports b left) (settled_states b left))) (sym n) w.counts;
      on = subst (λ (i : Journal). AllOn p i (after_reports (threshold_reports b left) (settled_states b left))) (sym n)
          (all_on_told p (threshold_reports b left) (threshold_reports b left) mid (settled_states b left) (all_on_settled p mid b left o2));
    }

-- ---- the keys and their number stay
pub keys_all_stopped : (ts : List PendingReport) (states : List KeyState) → keys_of (states_stopped ts states) ≡ keys_of states
unfolding states_stopped
keys_all_stopped [] states = refl
keys_all_stopped (t ∷ ts) states = keys_all_stopped ts (after_stop t states) ∙ keys_stopped t states

pub keys_all_told : (ts : List PendingReport) (states : List KeyState) → keys_of (after_reports ts states) ≡ keys_of states
unfolding after_reports
keys_all_told [] states = refl
keys_all_told (t ∷ ts) states = keys_all_told ts (after_report t states) ∙ keys_after t states

pub many_settled : (b : Bool) (ss : List KeyState) → length (settled_states b ss) ≡ length ss
many_settled true ss = length-map ss ungranted_if_reached
many_settled false ss = refl

pub length_left : (ss s1 s2 s3 : List KeyState) (ts us : List PendingReport) → s1 ≡ ss → s2 ≡ states_stopped ts s1 → s3 ≡ after_reports us s2 → length s3 ≡ length ss
length_left ss s1 s2 s3 ts us e f g =
    many s3 ss (ap keys_of g ∙ keys_all_told us s2 ∙ ap keys_of f ∙ keys_all_stopped ts s1 ∙ ap keys_of e)

pub length_end : (b : Bool) (s3 s4 : List KeyState) → s4 ≡ after_reports (threshold_reports b s3) (settled_states b s3) → length s4 ≡ length s3
length_end b s3 s4 e =
    many s4 (settled_states b s3) (ap keys_of e ∙ keys_all_told (threshold_reports b s3) (settled_states b s3)) ∙ many_settled b s3
