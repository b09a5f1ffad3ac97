-- Loops that make reports one after another.
use Rattle.std.proofs.Common.{◌≡◌, ◌≤◌, ◌<◌, ℕ, ◌+◌, true, false, List, [], ◌∷◌, length, refl, sym, ap, ◌∙◌, arith, inl, inr, zero, suc, subst, map, drop, get_or}
use Rattle.std.specs.Prelude.{All}
use Rattle.pcef_rule.specs.declared.quantity.Slot.{Slot}
use Rattle.std.proofs.lemmas.List.{drop_more, drop_all, get_or-map, length-map}
use Rattle.std.proofs.lemmas.Bool.{cases_Bool}
use Rattle.pcef_model.specs.declared.entry.Entry.TheVariants as entry
use Rattle.pcef_model.specs.declared.pending_report.PendingReport.{PendingReport}
use Rattle.pcef_model.specs.declared.pending_report.PendingReport.TheVariants.{Inactive, Usage, Access}
use Rattle.pcef_model.specs.Setting.{same_name}
use Rattle.pcef_model.specs.Commands.{is_among}
use Rattle.pcef_model.specs.Entries.{Journal}
use Rattle.pcef_model.specs.Journals.{report_count, ends_grant}
use Rattle.pcef_model.proofs.Sameness.{same_name_self}
use Rattle.pcef_usage.specs.declared.usage.KeyState.{KeyState}
use Rattle.pcef_usage.specs.Keys.{keys_of, has_slot, slot_place, state_at, stopped}
use Rattle.pcef_usage.specs.PendingReports.{body_by, after_report, appended, after_reports, Knows, KnowsAll, after_stop, states_stopped, threshold}
use Rattle.pcef_usage.proofs.Places.{or_more, place_below}
use Rattle.pcef_usage.proofs.Tells.{has_slot_is, keys_after, keys_at_place}

pub place_known : (k : List ℕ) (states : List KeyState) → is_among k (keys_of states) ≡ true → slot_place k states < length states
place_known k states h = place_below k states (has_slot_is k states ∙ h)

pub unknown_not : (k : List ℕ) (states : List KeyState) → is_among k (keys_of states) ≡ true → has_slot k states ≡ false → ⊥
unknown_not k states h e = let f : has_slot k states ≡ true = has_slot_is k states ∙ h in cc

-- ---- the report at a place
knows_at : (keys : List (List ℕ)) (ts : List PendingReport) (i : ℕ) (d : PendingReport) → KnowsAll keys ts → i < length ts → Knows keys (get_or ts i d)
unfolding KnowsAll
knows_at keys [] i d k h = absurd (omega arith)
knows_at keys (t ∷ ts) zero d k h = k.0
knows_at keys (t ∷ ts) (suc i) d k h = knows_at keys ts i d k.1 (omega arith)

pub knows_here : (keys now : List (List ℕ)) (ts : List PendingReport) (i : ℕ) (t : PendingReport) → i < length ts → t ≡ get_or ts i t → now ≡ keys → KnowsAll keys ts → Knows now t
knows_here keys now ts i t within is same known =
    subst (Knows now) (sym is) (knows_at now ts i t (subst (λ (ks : List (List ℕ)). KnowsAll ks ts) (sym same) known) within)

split_here : (ts : List PendingReport) (i : ℕ) (t : PendingReport) → i < length ts → t ≡ get_or ts i t → drop i ts ≡ t ∷ drop (i + 1) ts
split_here ts i t within is = drop_more ts i t within ∙ ap (λ u. u ∷ drop (i + 1) ts) (sym is)

-- ---- reporting
pub told_step : (ts : List PendingReport) (i : ℕ) (t : PendingReport) (ss uu : List KeyState) (j k end : Journal) → i < length ts → t ≡ get_or ts i t → appended (drop i ts) ss j ≡ end →
    k ≡ entry.Report (record { number = report_count j; body = body_by ss t }) ∷ j → uu ≡ after_report t ss → appended (drop (i + 1) ts) uu k ≡ end
unfolding appended
told_step ts i t ss uu j k end within is e f g =
    ap (appended (drop (i + 1) ts) uu) f ∙
    ap (λ us. appended (drop (i + 1) ts) us (entry.Report (record { number = report_count j; body = body_by ss t }) ∷ j)) g ∙
    sym (ap (λ us. appended us ss j) (split_here ts i t within is)) ∙ e

pub states_step : (ts : List PendingReport) (i : ℕ) (t : PendingReport) (ss uu end : List KeyState) → i < length ts → t ≡ get_or ts i t → after_reports (drop i ts) ss ≡ end →
    uu ≡ after_report t ss → after_reports (drop (i + 1) ts) uu ≡ end
unfolding after_reports
states_step ts i t ss uu end within is e g =
    ap (after_reports (drop (i + 1) ts)) g ∙ sym (ap (λ us. after_reports us ss) (split_here ts i t within is)) ∙ e

pub keys_step : (t : PendingReport) (ss uu : List KeyState) (keys : List (List ℕ)) → keys_of ss ≡ keys → uu ≡ after_report t ss → keys_of uu ≡ keys
keys_step t ss uu keys e g = ap keys_of g ∙ keys_after t ss ∙ e

pub told_end : (ts : List PendingReport) (i : ℕ) (ss : List KeyState) (j end : Journal) → length ts ≤ i → appended (drop i ts) ss j ≡ end → j ≡ end
unfolding appended
told_end ts i ss j end past e = sym (ap (λ us. appended us ss j) (drop_all i ts past)) ∙ e

pub states_end : (ts : List PendingReport) (i : ℕ) (ss end : List KeyState) → length ts ≤ i → after_reports (drop i ts) ss ≡ end → ss ≡ end
unfolding after_reports
states_end ts i ss end past e = sym (ap (λ us. after_reports us ss) (drop_all i ts past)) ∙ e

-- ---- switching off
pub keys_stopped : (t : PendingReport) (ss : List KeyState) → keys_of (after_stop t ss) ≡ keys_of ss
keys_stopped (Inactive n) ss = refl
keys_stopped (Usage k cause) ss =
    elim (cases_Bool (ends_grant cause)) [
      | inl e ↦ rw e (keys_at_place stopped (slot_place k ss) ss (λ s. refl))
      | inr e ↦ rw e refl
    ]
keys_stopped (Access t v) ss = refl

pub stop_step : (ts : List PendingReport) (i : ℕ) (t : PendingReport) (ss uu end : List KeyState) → i < length ts → t ≡ get_or ts i t → states_stopped (drop i ts) ss ≡ end →
    uu ≡ after_stop t ss → states_stopped (drop (i + 1) ts) uu ≡ end
unfolding states_stopped
stop_step ts i t ss uu end within is e g =
    ap (states_stopped (drop (i + 1) ts)) g ∙ sym (ap (λ us. states_stopped us ss) (split_here ts i t within is)) ∙ e

pub stop_keys : (t : PendingReport) (ss uu : List KeyState) (keys : List (List ℕ)) → keys_of ss ≡ keys → uu ≡ after_stop t ss → keys_of uu ≡ keys
stop_keys t ss uu keys e g = ap keys_of g ∙ keys_stopped t ss ∙ e

pub stop_end : (ts : List PendingReport) (i : ℕ) (ss end : List KeyState) → length ts ≤ i → states_stopped (drop i ts) ss ≡ end → ss ≡ end
unfolding states_stopped
stop_end ts i ss end past e = sym (ap (λ us. states_stopped us ss) (drop_all i ts past)) ∙ e

-- ---- reached grants, slot by slot
pub many : (ss uu : List KeyState) → keys_of ss ≡ keys_of uu → length ss ≡ length uu
many ss uu e = sym (length-map ss (λ s. s.key)) ∙ ap length e ∙ length-map uu (λ s. s.key)

key_at : (n : ℕ) (ss : List KeyState) → (state_at n ss).key ≡ get_or (keys_of ss) n []
key_at n [] = refl
key_at zero (s ∷ ss) = refl
key_at (suc n) (s ∷ ss) = key_at n ss

pub same_key_at : (n : ℕ) (ss uu : List KeyState) → keys_of ss ≡ keys_of uu → (state_at n ss).key ≡ (state_at n uu).key
same_key_at n ss uu e = key_at n ss ∙ ap (λ ks. get_or ks n []) e ∙ sym (key_at n uu)

pub key_among : (n : ℕ) (ss : List KeyState) → n < length ss → is_among (state_at n ss).key (keys_of ss) ≡ true
key_among n [] h = absurd (omega arith)
key_among zero (s ∷ ss) h = rw (same_name_self s.key) refl
key_among (suc n) (s ∷ ss) h = or_more (same_name (state_at n ss).key s.key) (is_among (state_at n ss).key (keys_of ss)) (key_among n ss (omega arith))

pub knows_slot : (n : ℕ) (ss : List KeyState) (key : List ℕ) → n < length ss → key ≡ (state_at n ss).key → Knows (keys_of ss) (threshold key)
knows_slot n ss key h e = subst (λ k. is_among k (keys_of ss) ≡ true) (sym e) (key_among n ss h)

-- the threshold report of a slot
abbrev pub threshold_at : List KeyState → Slot → PendingReport
threshold_at ss slot = threshold (state_at slot.0 ss).key

pub slot_within : (ss start : List KeyState) (slots : List Slot) (i : ℕ) (d : Slot) → All (λ s. s.0 < length start) slots → i < length slots → keys_of ss ≡ keys_of start →
    (get_or slots i d).0 < length ss
slot_within ss start slots i d known within e = let here = known i d within in omega (arith, here, many ss start e)

pub threshold_here : (ss start : List KeyState) (slots : List Slot) (i : ℕ) (d : Slot) (key : List ℕ) → i < length slots → keys_of ss ≡ keys_of start →
    key ≡ (state_at (get_or slots i d).0 ss).key → threshold key ≡ get_or (map (threshold_at start) slots) i (threshold key)
threshold_here ss start slots i d key within e f =
    ap threshold (f ∙ same_key_at (get_or slots i d).0 ss start e) ∙ sym (get_or-map (threshold_at start) slots i d (threshold key) within)
