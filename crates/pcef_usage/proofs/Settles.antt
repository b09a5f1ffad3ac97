-- Keys that are switched off before they are reported, and the reports at the end of an event.
use Rattle.std.proofs.Common.{◌≡◌, ◌≤◌, ◌<◌, ℕ, ◌+◌, Bool, true, false, List, [], ◌∷◌, length, refl, sym, ap, ◌∙◌, arith, if◌then◌else◌, inl, inr, zero, suc, subst, map}
use Rattle.std.specs.Prelude.{◌&&◌, filter, All}
use Rattle.std.specs.List.{AllByRecursion}
use Rattle.std.proofs.lemmas.Bool.{cases_Bool}
use Rattle.pcef_model.specs.declared.report.Cause.{Cause}
use Rattle.pcef_model.specs.declared.pending_report.PendingReport.{PendingReport}
use Rattle.pcef_model.specs.declared.pending_report.PendingReport.TheVariants.{Inactive, Usage, Access}
use Rattle.pcef_model.specs.Setting.{Setting, same_name}
use Rattle.pcef_model.specs.Commands.{is_among}
use Rattle.pcef_model.specs.Entries.{Journal}
use Rattle.pcef_model.specs.Journals.{slots, subscribed, unreported, ends_grant}
use Rattle.pcef_model.specs.Reports.{is_reached as is_key_reached, thresholds}
use Rattle.pcef_model.proofs.Sameness.{same_name_is, same_name_not, same_name_self, same_name_turned}
use Rattle.pcef_usage.specs.declared.usage.KeyState.{KeyState}
use Rattle.pcef_rule.specs.declared.quantity.Slot.{Slot}
use Rattle.pcef_usage.specs.Keys.{keys_of, slot_place, at_place, state_at, stopped, grant_is_reached, reached_places, ungranted_if_reached}
use Rattle.pcef_usage.specs.PendingReports.{ends, ended, KnowsAll, Distinct, Counts, AllCount, after_stop, states_stopped, OnIs, AllOn, reached_reports, threshold, threshold_reports, settled_states}
use Rattle.pcef_usage.proofs.Places.{or_more, or_rest}
use Rattle.pcef_usage.proofs.Tells.{at_place_maps, all_mapped}
use Rattle.pcef_usage.proofs.Loops.{keys_stopped, threshold_at}
use Rattle.std.proofs.lemmas.List.{length-map}

-- a stop at each report is one at each key that is ended

map_twice : (f g h : KeyState → KeyState) (xs : List KeyState) → ((x : KeyState) → f (g x) ≡ h x) → map f (map g xs) ≡ map h xs
map_twice f g h [] e = refl
map_twice f g h (x ∷ xs) e = rw (e x, map_twice f g h xs e) refl

map_same : (xs : List KeyState) (f : KeyState → KeyState) → ((x : KeyState) → f x ≡ x) → map f xs ≡ xs
map_same [] f e = refl
map_same (x ∷ xs) f e = rw (e x, map_same xs f e) refl

abbrev pub stopped_if : (List ℕ → Bool) → KeyState → KeyState
stopped_if test s = if test s.key then stopped s else s

never : (k : List ℕ) (cause : Cause) → ends_grant cause ≡ false → (s : KeyState) → stopped_if (λ l. ends l (Usage k cause)) s ≡ s
never k cause h s = elim (cases_Bool (same_name s.key k)) [ inl e ↦ rw (e, h) refl | inr e ↦ rw e refl ]

map_alike : (f g : KeyState → KeyState) (xs : List KeyState) → ((x : KeyState) → f x ≡ g x) → map f xs ≡ map g xs
map_alike f g [] e = refl
map_alike f g (x ∷ xs) e = rw (e x, map_alike f g xs e) refl

stop_one : (k : List ℕ) (cause : Cause) (s : KeyState) → ends_grant cause ≡ true → stopped_if (λ l. ends l (Usage k cause)) s ≡ (if same_name k s.key then stopped s else s)
stop_one k cause s h =
    elim (cases_Bool (same_name k s.key)) [
      | inl e ↦ rw (e, same_name_turned k s.key e, h) refl
      | inr e ↦ rw (e, same_name_not k s.key e) refl
    ]

stop_is : (t : PendingReport) (states : List KeyState) → Distinct (keys_of states) → after_stop t states ≡ map (stopped_if (λ l. ends l t)) states
stop_is (Inactive n) states d = sym (map_same states (stopped_if (λ l. ends l (Inactive n))) (λ x. refl))
stop_is (Access a v) states d = sym (map_same states (stopped_if (λ l. ends l (Access a v))) (λ x. refl))
stop_is (Usage k cause) states d =
    elim (cases_Bool (ends_grant cause)) [
      | inl e ↦ ap (λ (b : Bool). if b then at_place (slot_place k states) stopped states else states) e ∙ at_place_maps stopped k states d ∙
          map_alike _ (stopped_if (λ l. ends l (Usage k cause))) states (λ s. sym (stop_one k cause s e))
      | inr e ↦ ap (λ (b : Bool). if b then at_place (slot_place k states) stopped states else states) e ∙
          sym (map_same states (stopped_if (λ l. ends l (Usage k cause))) (never k cause e))
    ]

both : (t : PendingReport) (ts : List PendingReport) (s : KeyState) → stopped_if (ended ts) (stopped_if (λ l. ends l t) s) ≡ stopped_if (ended (t ∷ ts)) s
both t ts s =
    elim (cases_Bool (ends s.key t)) [
      | inl e ↦ rw e (elim (cases_Bool (ended ts s.key)) [ inl f ↦ rw f refl | inr f ↦ rw f refl ])
      | inr e ↦ rw e refl
    ]

pub stopped_is : (ts : List PendingReport) (states : List KeyState) → Distinct (keys_of states) → states_stopped ts states ≡ map (stopped_if (ended ts)) states
unfolding states_stopped
stopped_is [] states d = sym (map_same states (stopped_if (ended [])) (λ s. refl))
stopped_is (t ∷ ts) states d =
    stopped_is ts (after_stop t states) (subst Distinct (sym (keys_stopped t states)) d) ∙ ap (map (stopped_if (ended ts))) (stop_is t states d) ∙
    map_twice (stopped_if (ended ts)) (stopped_if (λ l. ends l t)) (stopped_if (ended (t ∷ ts))) states (both t ts)

stop_counts : (p : Setting) (j : Journal) (ts : List PendingReport) (s : KeyState) → Counts p j [] s → Counts p j ts (stopped_if (ended ts) s)
stop_counts p j ts s h =
    elim (cases_Bool (ended ts s.key)) [
      | inl e ↦ rw e (record { grant_is = rw e refl; reported_is = h.reported_is; counted_is = h.counted_is })
      | inr e ↦ rw e (record { grant_is = rw e h.grant_is; reported_is = h.reported_is; counted_is = h.counted_is })
    ]

pub all_stopped : (p : Setting) (j : Journal) (ts : List PendingReport) (states : List KeyState) → Distinct (keys_of states) → AllCount p j [] states → AllCount p j ts (states_stopped ts states)
unfolding AllCount
all_stopped p j ts states d a =
    subst (AllByRecursion (Counts p j ts)) (sym (stopped_is ts states d)) (all_mapped (Counts p j []) (Counts p j ts) (stopped_if (ended ts)) states (stop_counts p j ts) a)

-- the reports at the end of an event

reached_is : (p : Setting) (j : Journal) (s : KeyState) → OnIs p j s → Counts p j [] s → grant_is_reached s ≡ is_key_reached p j s.key
reached_is p j s o h =
    let u : s.unreported ≡ unreported p j s.key = omega (arith, h.reported_is, h.counted_is) in rw (o.on_is, h.grant_is, u) refl

reached_keys : (p : Setting) (j : Journal) (states : List KeyState) → AllByRecursion (OnIs p j) states → AllByRecursion (Counts p j []) states →
    reached_reports states ≡ map threshold (filter (is_key_reached p j) (keys_of states))
reached_keys p j [] o a = refl
reached_keys p j (s ∷ states) o a =
    let e = reached_is p j s o.0 a.0 in
    elim (cases_Bool (is_key_reached p j s.key)) [
      | inl f ↦ let g : grant_is_reached s ≡ true = e ∙ f in rw (f, g, reached_keys p j states o.1 a.1) refl
      | inr f ↦ let g : grant_is_reached s ≡ false = e ∙ f in rw (f, g, reached_keys p j states o.1 a.1) refl
    ]

pub thresholds_are : (p : Setting) (j : Journal) (states : List KeyState) → keys_of states ≡ slots p j → AllOn p j states → AllCount p j [] states →
    threshold_reports (subscribed j).usage_report states ≡ thresholds p j
unfolding thresholds AllOn AllCount
thresholds_are p j states e o a = ap (λ ts. if (subscribed j).usage_report then ts else []) (reached_keys p j states o a ∙ ap (λ ks. map threshold (filter (is_key_reached p j) ks)) e)

-- a key is ended by these exactly where it is one of them and its grant is reached
ended_by : (test : List ℕ → Bool) (keys : List (List ℕ)) (k : List ℕ) → ended (map threshold (filter test keys)) k ≡ true → test k ≡ true
ended_by test [] k h = cc
ended_by test (l ∷ keys) k h =
    elim (cases_Bool (test l)) [
      | inl e ↦ elim (cases_Bool (same_name k l)) [
        | inl f ↦ ap test (same_name_is k l f) ∙ e
        | inr f ↦ ended_by test keys k (or_rest (same_name k l && true) (ended (map threshold (filter test keys)) k) (rw f refl) (rw e at h))
      ]
      | inr e ↦ ended_by test keys k (rw e at h)
    ]

settle_counts : (p : Setting) (j : Journal) (ts : List PendingReport) (s : KeyState) → (ended ts s.key ≡ true → is_key_reached p j s.key ≡ true) → (is_key_reached p j s.key ≡ true → ended ts s.key ≡ true) →
    OnIs p j s → Counts p j [] s → Counts p j ts (ungranted_if_reached s)
settle_counts p j ts s there back o h =
    elim (cases_Bool (is_key_reached p j s.key)) [
      | inl e ↦ let g : grant_is_reached s ≡ true = reached_is p j s o h ∙ e in let f : ended ts s.key ≡ true = back e in
          rw g (record { grant_is = rw f refl; reported_is = h.reported_is; counted_is = h.counted_is })
      | inr e ↦ let g : grant_is_reached s ≡ false = reached_is p j s o h ∙ e in
          rw g (elim (cases_Bool (ended ts s.key)) [
            | inl f ↦ let i : is_key_reached p j s.key ≡ true = there f in cc
            | inr f ↦ record { grant_is = rw f h.grant_is; reported_is = h.reported_is; counted_is = h.counted_is }
          ])
    ]

by_ended : (test : List ℕ → Bool) (keys : List (List ℕ)) (k : List ℕ) → is_among k keys ≡ true → test k ≡ true → ended (map threshold (filter test keys)) k ≡ true
by_ended test [] k h t = cc
by_ended test (l ∷ keys) k h t =
    elim (cases_Bool (same_name k l)) [
      | inl f ↦ let e : test l ≡ true = sym (ap test (same_name_is k l f)) ∙ t in rw (e, f) refl
      | inr f ↦ let r = by_ended test keys k (or_rest (same_name k l) (is_among k keys) f h) t in
          elim (cases_Bool (test l)) [ inl e ↦ rw (e, f) r | inr e ↦ rw e r ]
    ]

counts_from : (p : Setting) (j : Journal) (ts : List PendingReport) (keys : List (List ℕ)) (states : List KeyState) →
    ((k : List ℕ) → ended ts k ≡ true → is_key_reached p j k ≡ true) → ((k : List ℕ) → is_among k keys ≡ true → is_key_reached p j k ≡ true → ended ts k ≡ true) →
    ((k : List ℕ) → is_among k (keys_of states) ≡ true → is_among k keys ≡ true) →
    AllByRecursion (OnIs p j) states → AllByRecursion (Counts p j []) states → AllByRecursion (Counts p j ts) (map ungranted_if_reached states)
counts_from p j ts keys [] there back within o a = tt
counts_from p j ts keys (s ∷ states) there back within o a = (
  settle_counts p j ts s (there s.key) (back s.key (within s.key (rw (same_name_self s.key) refl))) o.0 a.0,
  counts_from p j ts keys states there back (λ k h. within k (or_more (same_name k s.key) (is_among k (keys_of states)) h)) o.1 a.1,
)

pub all_settled : (p : Setting) (j : Journal) (states : List KeyState) → keys_of states ≡ slots p j → AllOn p j states → AllCount p j [] states →
    AllCount p j (threshold_reports (subscribed j).usage_report states) (settled_states (subscribed j).usage_report states)
unfolding AllOn AllCount
all_settled p j states e o a =
    elim (cases_Bool (subscribed j).usage_report) [
      | inl f ↦ rw (f, reached_keys p j states o a) (counts_from p j (map threshold (filter (is_key_reached p j) (keys_of states))) (keys_of states) states
          (ended_by (is_key_reached p j) (keys_of states)) (by_ended (is_key_reached p j) (keys_of states)) (λ k h. h) o a)
      | inr f ↦ rw f a
    ]

-- their keys

keys_ungranted : (states : List KeyState) → keys_of (map ungranted_if_reached states) ≡ keys_of states
keys_ungranted [] = refl
keys_ungranted (s ∷ states) = elim (cases_Bool (grant_is_reached s)) [ inl e ↦ rw (e, keys_ungranted states) refl | inr e ↦ rw (e, keys_ungranted states) refl ]

pub keys_settled : (b : Bool) (states : List KeyState) → keys_of (settled_states b states) ≡ keys_of states
keys_settled true states = keys_ungranted states
keys_settled false states = refl

knows_more : (k : List ℕ) (keys : List (List ℕ)) (ts : List PendingReport) → KnowsAll keys ts → KnowsAll (k ∷ keys) ts
unfolding KnowsAll
knows_more k keys [] h = tt
knows_more k keys (Inactive n ∷ ts) h = (tt, knows_more k keys ts h.1)
knows_more k keys (Access a v ∷ ts) h = (tt, knows_more k keys ts h.1)
knows_more k keys (Usage l cause ∷ ts) h = (or_more (same_name l k) (is_among l keys) h.0, knows_more k keys ts h.1)

knows_reached : (states : List KeyState) → KnowsAll (keys_of states) (reached_reports states)
unfolding KnowsAll
knows_reached [] = tt
knows_reached (s ∷ states) =
    let r = knows_more s.key (keys_of states) (reached_reports states) (knows_reached states) in
    elim (cases_Bool (grant_is_reached s)) [
      | inl e ↦ rw e (rw (same_name_self s.key) refl, r)
      | inr e ↦ rw e r
    ]

pub knows_settled : (b : Bool) (states : List KeyState) → KnowsAll (keys_of (settled_states b states)) (threshold_reports b states)
unfolding KnowsAll
knows_settled true states = subst (λ (ks : List (List ℕ)). KnowsAll ks (reached_reports states)) (sym (keys_ungranted states)) (knows_reached states)
knows_settled false states = tt

few_reached : (states : List KeyState) → length (reached_reports states) ≤ length states
few_reached [] = omega arith
few_reached (s ∷ states) = let r = few_reached states in elim (cases_Bool (grant_is_reached s)) [ inl e ↦ rw e (omega arith) | inr e ↦ rw e (omega arith) ]

pub few_settled : (b : Bool) (states : List KeyState) → length (threshold_reports b states) ≤ length states
few_settled true states = few_reached states
few_settled false states = omega arith

-- the tellings at the places

shifted : (n : ℕ) (states : List KeyState) → reached_places (suc n) states ≡ map suc (reached_places n states)
shifted n [] = refl
shifted n (s ∷ states) =
    elim (cases_Bool (grant_is_reached s)) [
      | inl e ↦ rw (e, shifted (suc n) states) refl
      | inr e ↦ rw (e, shifted (suc n) states) refl
    ]

map_map : {X Y Z : Type 0} (f : Y → Z) (g : X → Y) (xs : List X) → map f (map g xs) ≡ map (λ x. f (g x)) xs
map_map f g [] = refl
map_map f g (x ∷ xs) = ap (λ ys. f (g x) ∷ ys) (map_map f g xs)

key_ungranted : (s : KeyState) → (ungranted_if_reached s).key ≡ s.key
key_ungranted s = elim (cases_Bool (grant_is_reached s)) [ inl e ↦ rw e refl | inr e ↦ rw e refl ]

at_places : (states : List KeyState) → map (λ n. threshold (state_at n (map ungranted_if_reached states)).key) (reached_places 0 states) ≡ reached_reports states
at_places [] = refl
at_places (s ∷ states) =
    let r : map (λ n. threshold (state_at n (map ungranted_if_reached (s ∷ states))).key) (reached_places 1 states) ≡ reached_reports states =
    ap (map (λ n. threshold (state_at n (map ungranted_if_reached (s ∷ states))).key)) (shifted 0 states) ∙
    map_map (λ n. threshold (state_at n (map ungranted_if_reached (s ∷ states))).key) suc (reached_places 0 states) ∙ at_places states in
    elim (cases_Bool (grant_is_reached s)) [
      | inl e ↦ rw e (ap (λ k. threshold k ∷ map (λ n. threshold (state_at n (map ungranted_if_reached (s ∷ states))).key) (reached_places 1 states)) (key_ungranted s) ∙ ap (λ ts. threshold s.key ∷ ts) r)
      | inr e ↦ rw e r
    ]

pub reports_are_due : (b : Bool) (states kept : List KeyState) (items : List Slot) → map (λ s. s.0) items ≡ (if b then reached_places 0 states else []) →
    kept ≡ settled_states b states → map (λ s. threshold (state_at s.0 kept).key) items ≡ threshold_reports b states
reports_are_due true states kept items h e =
    sym (map_map (λ n. threshold (state_at n kept).key) (λ s. s.0) items) ∙ ap (map (λ n. threshold (state_at n kept).key)) h ∙
    ap (λ v. map (λ n. threshold (state_at n v).key) (reached_places 0 states)) e ∙ at_places states
reports_are_due false states kept [] h e = refl
reports_are_due false states kept (i ∷ items) h e = cc

places_below : (n : ℕ) (states : List KeyState) → AllByRecursion (λ m. m < n + length states) (reached_places n states)
places_below n [] = tt
places_below n (s ∷ states) =
    let r : AllByRecursion (λ m. m < n + suc (length states)) (reached_places (suc n) states) =
    subst (λ b. AllByRecursion (λ m. m < b) (reached_places (suc n) states)) (omega arith) (places_below (suc n) states) in
    elim (cases_Bool (grant_is_reached s)) [
      | inl e ↦ rw e (omega arith, r)
      | inr e ↦ rw e r
    ]

all_below : (b : ℕ) (items : List Slot) → AllByRecursion (λ m. m < b) (map (λ s. s.0) items) → All (λ s. s.0 < b) items
all_below b [] h k d l = absurd (omega arith)
all_below b (i ∷ items) h zero d l = h.0
all_below b (i ∷ items) h (suc k) d l = all_below b items h.1 k d (omega arith)

pub places_known : (b : Bool) (states kept : List KeyState) (items : List Slot) → map (λ s. s.0) items ≡ (if b then reached_places 0 states else []) →
    length kept ≡ length states → All (λ s. s.0 < length kept) items
places_known true states kept items h e =
    all_below (length kept) items (subst (λ ns. AllByRecursion (λ m. m < length kept) ns) (sym h) (subst (λ n. AllByRecursion (λ m. m < n) (reached_places 0 states)) (omega (arith, e)) (places_below 0 states)))
places_known false states kept [] h e = λ k d l. absurd (omega arith)
places_known false states kept (i ∷ items) h e = cc

pub settled_length : (b : Bool) (states kept : List KeyState) → kept ≡ settled_states b states → length kept ≡ length states
settled_length true states kept e = ap length e ∙ length-map states ungranted_if_reached
settled_length false states kept e = ap length e

-- what a settling gives, slot by slot
pub matched : (b : Bool) (states kept : List KeyState) (items slots : List Slot) → map (λ s. s.0) items ≡ (if b then reached_places 0 states else []) →
    kept ≡ settled_states b states → slots ≡ items → map (threshold_at kept) slots ≡ threshold_reports b states
matched b states kept items slots h e r = ap (map (threshold_at kept)) r ∙ reports_are_due b states kept items h e

pub few_matched : (b : Bool) (states kept : List KeyState) (slots : List Slot) → map (threshold_at kept) slots ≡ threshold_reports b states → length slots ≤ length states
few_matched b states kept slots e = omega (arith, few_settled b states, ap length e, length-map slots (threshold_at kept))
