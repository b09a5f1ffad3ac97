-- PendingReport keeps the counters in agreement with the journal.
use Rattle.std.proofs.Common.{◌≡◌, ℕ, Bool, true, false, List, [], ◌∷◌, refl, sym, ap, ◌∙◌, arith, if◌then◌else◌, inl, inr, zero, suc, subst, map}
use Rattle.std.specs.Prelude.{Option, None, ◌||◌, ◌&&◌}
use Rattle.std.specs.List.{AllByRecursion}
use Rattle.std.proofs.lemmas.Bool.{cases_Bool}
use Rattle.pcef_model.specs.declared.report.Cause.{Cause}
use Rattle.pcef_model.specs.declared.report.Body.TheVariants as body
use Rattle.pcef_model.specs.declared.pending_report.PendingReport.{PendingReport}
use Rattle.pcef_model.specs.declared.pending_report.PendingReport.TheVariants.{Inactive, Usage, Access}
use Rattle.pcef_model.specs.declared.entry.Entry.TheVariants as entry
use Rattle.pcef_model.specs.declared.report.InactiveCause.TheVariants.{BearerLost}
use Rattle.pcef_model.specs.Setting.{Setting, same_name}
use Rattle.pcef_model.specs.Commands.{is_among}
use Rattle.pcef_model.specs.Entries.{Journal}
use Rattle.pcef_model.specs.Journals.{grant, reported, unreported, report_count, ends_grant}
use Rattle.pcef_model.specs.Reports.{with_reports, body_of}
use Rattle.pcef_model.proofs.Sameness.{same_name_is, same_name_not, same_name_turned}
use Rattle.pcef_usage.specs.declared.usage.KeyState.{KeyState}
use Rattle.pcef_usage.specs.Keys.{keys_of, has_slot, slot_place, at_place, state_at, reported_on}
use Rattle.pcef_usage.specs.PendingReports.{body_by, after_report, appended, after_reports, ended, Knows, KnowsAll, Distinct, Counts, AllCount}
use Rattle.pcef_usage.proofs.Places.{or_no, or_rest}

-- keys

pub has_slot_is : (k : List ℕ) (states : List KeyState) → has_slot k states ≡ is_among k (keys_of states)
has_slot_is k [] = refl
has_slot_is k (s ∷ states) = ap (λ b. same_name k s.key || b) (has_slot_is k states)

pub keys_at_place : (f : KeyState → KeyState) (n : ℕ) (states : List KeyState) → ((s : KeyState) → (f s).key ≡ s.key) → keys_of (at_place n f states) ≡ keys_of states
keys_at_place f n [] h = refl
keys_at_place f zero (s ∷ states) h = ap (λ k. k ∷ keys_of states) (h s)
keys_at_place f (suc n) (s ∷ states) h = ap (λ ks. s.key ∷ ks) (keys_at_place f n states h)

pub keys_after : (t : PendingReport) (states : List KeyState) → keys_of (after_report t states) ≡ keys_of states
keys_after (Inactive n) states = refl
keys_after (Usage k cause) states = keys_at_place reported_on (slot_place k states) states (λ s. refl)
keys_after (Access t v) states = refl

-- a write at a key's place is one at each state of this key, as keys are distinct

not_here : (f : KeyState → KeyState) (k : List ℕ) (states : List KeyState) → is_among k (keys_of states) ≡ false → map (λ s. if same_name k s.key then f s else s) states ≡ states
not_here f k [] h = refl
not_here f k (s ∷ states) h =
    let n = or_no (same_name k s.key) (is_among k (keys_of states)) h in
    rw (n.0, not_here f k states n.1) refl

pub at_place_maps : (f : KeyState → KeyState) (k : List ℕ) (states : List KeyState) → Distinct (keys_of states) →
    at_place (slot_place k states) f states ≡ map (λ s. if same_name k s.key then f s else s) states
at_place_maps f k [] d = refl
at_place_maps f k (s ∷ states) d =
    elim (cases_Bool (same_name k s.key)) [
      | inl e ↦ let n : is_among k (keys_of states) ≡ false = ap (λ x. is_among x (keys_of states)) (same_name_is k s.key e) ∙ d.0 in
          rw (e, not_here f k states n) refl
      | inr e ↦ rw (e, at_place_maps f k states d.1) refl
    ]

pub all_mapped : {X : Type 0} (P Q : X → Type 0) (f : X → X) (xs : List X) → ((x : X) → P x → Q (f x)) → AllByRecursion P xs → AllByRecursion Q (map f xs)
all_mapped P Q f [] h a = tt
all_mapped P Q f (x ∷ xs) h a = (h x a.0, all_mapped P Q f xs h a.1)

pub all_same : {X : Type 0} (P Q : X → Type 0) (xs : List X) → ((x : X) → P x → Q x) → AllByRecursion P xs → AllByRecursion Q xs
all_same P Q [] h a = tt
all_same P Q (x ∷ xs) h a = (h x a.0, all_same P Q xs h a.1)

-- one report

either : (a b : Bool) (g o : Option ℕ) → g ≡ (if a || b then None else o) → g ≡ (if b then None else if a then None else o)
either true true g o h = h
either true false g o h = h
either false true g o h = h
either false false g o h = h

grant_told : (j : Journal) (n u : ℕ) (k : List ℕ) (cause : Cause) (ts : List PendingReport) (s : KeyState) →
    s.grant ≡ (if ended (Usage k cause ∷ ts) s.key then None else grant j s.key) →
    s.grant ≡ (if ended ts s.key then None else grant (entry.Report (record { number = n; body = body.Usage k u cause }) ∷ j) s.key)
unfolding grant
grant_told j n u k cause ts s h = either (same_name s.key k && ends_grant cause) (ended ts s.key) s.grant (grant j s.key) h

hit : (p : Setting) (j : Journal) (n u : ℕ) (k : List ℕ) (cause : Cause) (ts : List PendingReport) (s : KeyState) → same_name k s.key ≡ true → u ≡ unreported p j k →
    Counts p j (Usage k cause ∷ ts) s → Counts p (entry.Report (record { number = n; body = body.Usage k u cause }) ∷ j) ts (reported_on s)
unfolding reported
hit p j n u k cause ts s e f h =
    let g : unreported p j k ≡ unreported p j s.key = ap (unreported p j) (same_name_is k s.key e) in record {
      grant_is = grant_told j n u k cause ts s h.grant_is;
      reported_is = rw (same_name_turned k s.key e) (omega (arith, h.reported_is, h.counted_is));
      counted_is = omega (arith, h.counted_is);
    }

miss : (p : Setting) (j : Journal) (n u : ℕ) (k : List ℕ) (cause : Cause) (ts : List PendingReport) (s : KeyState) → same_name k s.key ≡ false →
    Counts p j (Usage k cause ∷ ts) s → Counts p (entry.Report (record { number = n; body = body.Usage k u cause }) ∷ j) ts s
unfolding reported
miss p j n u k cause ts s e h = record {
  grant_is = grant_told j n u k cause ts s h.grant_is;
  reported_is = rw (same_name_not k s.key e) (omega (arith, h.reported_is));
  counted_is = h.counted_is;
}

one_usage : (p : Setting) (j : Journal) (n u : ℕ) (k : List ℕ) (cause : Cause) (ts : List PendingReport) (s : KeyState) → u ≡ unreported p j k →
    Counts p j (Usage k cause ∷ ts) s → Counts p (entry.Report (record { number = n; body = body.Usage k u cause }) ∷ j) ts (if same_name k s.key then reported_on s else s)
one_usage p j n u k cause ts s f h =
    elim (cases_Bool (same_name k s.key)) [
      | inl e ↦ rw e (hit p j n u k cause ts s e f h)
      | inr e ↦ rw e (miss p j n u k cause ts s e h)
    ]

pub unreported_is : (p : Setting) (j : Journal) (ts : List PendingReport) (k : List ℕ) (states : List KeyState) → is_among k (keys_of states) ≡ true → AllByRecursion (Counts p j ts) states →
    (state_at (slot_place k states) states).unreported ≡ unreported p j k
unreported_is p j ts k [] h a = cc
unreported_is p j ts k (s ∷ states) h a =
    elim (cases_Bool (same_name k s.key)) [
      | inl e ↦ let g : unreported p j k ≡ unreported p j s.key = ap (unreported p j) (same_name_is k s.key e) in
          rw e (omega (arith, a.0.reported_is, a.0.counted_is))
      | inr e ↦ rw e (unreported_is p j ts k states (or_rest (same_name k s.key) (is_among k (keys_of states)) e h) a.1)
    ]

one_told : (p : Setting) (t : PendingReport) (ts : List PendingReport) (j : Journal) (n : ℕ) (states : List KeyState) → Distinct (keys_of states) → Knows (keys_of states) t →
    AllByRecursion (Counts p j (t ∷ ts)) states → AllByRecursion (Counts p (entry.Report (record { number = n; body = body_of p j t }) ∷ j) ts) (after_report t states)
unfolding grant reported
one_told p (Inactive m) ts j n states d k a =
    all_same (Counts p j (Inactive m ∷ ts)) (Counts p (entry.Report (record { number = n; body = body.Inactive m BearerLost }) ∷ j) ts) states
    (λ s h. record { grant_is = h.grant_is; reported_is = omega (arith, h.reported_is); counted_is = h.counted_is }) a
one_told p (Access t v) ts j n states d k a =
    all_same (Counts p j (Access t v ∷ ts)) (Counts p (entry.Report (record { number = n; body = body.Access t v }) ∷ j) ts) states
    (λ s h. record { grant_is = h.grant_is; reported_is = omega (arith, h.reported_is); counted_is = h.counted_is }) a
one_told p (Usage k cause) ts j n states d i a =
    subst (AllByRecursion (Counts p (entry.Report (record { number = n; body = body.Usage k (unreported p j k) cause }) ∷ j) ts)) (sym (at_place_maps reported_on k states d))
    (all_mapped (Counts p j (Usage k cause ∷ ts)) (Counts p (entry.Report (record { number = n; body = body.Usage k (unreported p j k) cause }) ∷ j) ts)
    (λ s. if same_name k s.key then reported_on s else s) states (λ s h. one_usage p j n (unreported p j k) k cause ts s refl h) a)

body_is : (p : Setting) (t : PendingReport) (ts : List PendingReport) (j : Journal) (states : List KeyState) → Knows (keys_of states) t → AllByRecursion (Counts p j (t ∷ ts)) states →
    body_by states t ≡ body_of p j t
body_is p (Inactive n) ts j states k a = refl
body_is p (Usage k cause) ts j states h a = ap (λ u. body.Usage k u cause) (unreported_is p j (Usage k cause ∷ ts) k states h a)
body_is p (Access t v) ts j states k a = refl

-- all tellings

pub record ToldWell (p : Setting) (ts : List PendingReport) (states : List KeyState) (j : Journal) : Type 0 where
  pub journal_is : appended ts states j ≡ with_reports p ts j
  pub counts : AllCount p (with_reports p ts j) [] (after_reports ts states)
  pub keys_are : keys_of (after_reports ts states) ≡ keys_of states

pub told_well : (p : Setting) (ts : List PendingReport) (j : Journal) (states : List KeyState) → Distinct (keys_of states) → KnowsAll (keys_of states) ts → AllCount p j ts states →
    ToldWell p ts states j
unfolding appended after_reports with_reports KnowsAll AllCount
told_well p [] j states d k a = record { journal_is = refl; counts = a; keys_are = refl }
told_well p (t ∷ ts) j states d k a =
    let e = keys_after t states in
    let r = told_well p ts (entry.Report (record { number = report_count j; body = body_of p j t }) ∷ j) (after_report t states) (subst Distinct (sym e) d)
    (subst (λ keys. KnowsAll keys ts) (sym e) k.1) (one_told p t ts j (report_count j) states d k.0 a) in record {
      journal_is = ap (λ b. appended ts (after_report t states) (entry.Report (record { number = report_count j; body = b }) ∷ j)) (body_is p t ts j states k.0 a) ∙ r.journal_is;
      counts = r.counts;
      keys_are = r.keys_are ∙ e;
    }
