-- After an event no grant is reached while usage reports are subscribed.
use Rattle.std.proofs.Common.{◌≡◌, ◌∙◌, ℕ, Bool, true, false, List, [], ◌∷◌, refl, ap, arith, map, inl, inr}
use Rattle.std.specs.Prelude.{Option, None, ◌&&◌, filter}
use Rattle.std.proofs.lemmas.Bool.{cases_Bool}
use Rattle.pcef_model.specs.declared.command.Command.{Command}
use Rattle.pcef_model.specs.declared.entry.Entry.TheVariants as entry
use Rattle.pcef_model.specs.Setting.{Setting, same_name}
use Rattle.pcef_model.specs.Commands.{is_among}
use Rattle.pcef_model.specs.Entries.{Journal}
use Rattle.pcef_model.specs.Journals.{grant, now, report_count, reported, slots, subscribed, unreported}
use Rattle.pcef_model.specs.Reports.{after_command, body_of, is_reached, is_reached_by, plan, with_thresholds, with_reports, thresholds}
use Rattle.pcef_model.proofs.Sameness.{same_name_self}
use Rattle.pcef_usage.specs.PendingReports.{threshold}
use Rattle.pcef_usage.proofs.Gone.{among_filter}
use Rattle.pcef_usage.proofs.Places.{or_more, or_no, or_rest}
use Rattle.pcef_model.proofs.Reports.{tell_now, tell_slots, tell_subscribed}
use Rattle.pcef_usage.proofs.Slots.{and_no}

-- ---- keys that are reported lose their grants
none_stays : (p : Setting) (keys : List (List ℕ)) (j : Journal) (k : List ℕ) → grant j k ≡ None → grant (with_reports p (map threshold keys) j) k ≡ None
unfolding with_reports grant
none_stays p [] j k none = none
none_stays p (l ∷ keys) j k none =
    none_stays p keys (entry.Report (record { number = report_count j; body = body_of p j (threshold l) }) ∷ j) k
    (elim (cases_Bool (same_name k l)) [ inl same ↦ rw same refl | inr differs ↦ rw differs none ])

taken : (p : Setting) (keys : List (List ℕ)) (j : Journal) (k : List ℕ) → is_among k keys ≡ true → grant (with_reports p (map threshold keys) j) k ≡ None
unfolding with_reports grant
taken p [] j k is = cc
taken p (l ∷ keys) j k is =
    elim (cases_Bool (same_name k l)) [
      | inl same ↦ none_stays p keys (entry.Report (record { number = report_count j; body = body_of p j (threshold l) }) ∷ j) k (rw same refl)
      | inr differs ↦ taken p keys (entry.Report (record { number = report_count j; body = body_of p j (threshold l) }) ∷ j) k (or_rest (same_name k l) (is_among k keys) differs is)
    ]

-- ---- a key that isn't reported stays as it was
grant_stays : (p : Setting) (keys : List (List ℕ)) (j : Journal) (k : List ℕ) → is_among k keys ≡ false → grant (with_reports p (map threshold keys) j) k ≡ grant j k
unfolding with_reports grant
grant_stays p [] j k absent = refl
grant_stays p (l ∷ keys) j k absent =
    let parts = or_no (same_name k l) (is_among k keys) absent in
    grant_stays p keys (entry.Report (record { number = report_count j; body = body_of p j (threshold l) }) ∷ j) k parts.1 ∙ rw parts.0 refl

octets_stay : (p : Setting) (keys : List (List ℕ)) (j : Journal) (k : List ℕ) → is_among k keys ≡ false → unreported p (with_reports p (map threshold keys) j) k ≡ unreported p j k
unfolding with_reports reported
octets_stay p [] j k absent = refl
octets_stay p (l ∷ keys) j k absent =
    let parts = or_no (same_name k l) (is_among k keys) absent in
    octets_stay p keys (entry.Report (record { number = report_count j; body = body_of p j (threshold l) }) ∷ j) k parts.1 ∙ rw parts.0 (omega arith)

-- ---- so none is reached
none_reached : (on : Bool) (octets : ℕ) (amount : Option ℕ) → amount ≡ None → (on && is_reached_by amount octets) ≡ false
none_reached true octets amount none = rw none refl
none_reached false octets amount none = refl

both : (a b : Bool) → a ≡ true → b ≡ true → (a && b) ≡ true
both true b first second = second
both false b first second = cc

settled_key : (p : Setting) (j : Journal) (k : List ℕ) → is_among k (slots p j) ≡ true →
    is_reached p (with_reports p (map threshold (filter (is_reached p j) (slots p j))) j) k ≡ false
settled_key p j k has =
    elim (cases_Bool (is_reached p j k)) [
      | inl is ↦
          none_reached (is_among k (now p (with_reports p (map threshold (filter (is_reached p j) (slots p j))) j)).on)
          (unreported p (with_reports p (map threshold (filter (is_reached p j) (slots p j))) j) k) _
          (taken p (filter (is_reached p j) (slots p j)) j k (among_filter (is_reached p j) k (slots p j) ∙ both (is_among k (slots p j)) (is_reached p j k) has is))
      | inr isnt ↦
          let absent : is_among k (filter (is_reached p j) (slots p j)) ≡ false =
          among_filter (is_reached p j) k (slots p j) ∙ and_no (is_among k (slots p j)) (is_reached p j k) isnt in
          let same_grant = grant_stays p (filter (is_reached p j) (slots p j)) j k absent in
          let same_octets = octets_stay p (filter (is_reached p j) (slots p j)) j k absent in
          let same_now = tell_now p (map threshold (filter (is_reached p j) (slots p j))) j in
          rw (same_now, same_grant, same_octets) isnt
    ]

filter_no : (test : List ℕ → Bool) (keys all : List (List ℕ)) → ((k : List ℕ) → is_among k all ≡ true → test k ≡ false) →
    ((k : List ℕ) → is_among k keys ≡ true → is_among k all ≡ true) → filter test keys ≡ []
filter_no test [] all none within = refl
filter_no test (k ∷ keys) all none within =
    let isnt : test k ≡ false = none k (within k (rw (same_name_self k) refl)) in
    rw isnt (filter_no test keys all none (λ l has. within l (or_more (same_name l k) (is_among l keys) has)))

pub nothing_reached : (p : Setting) (j : Journal) → thresholds p (with_thresholds p j) ≡ []
unfolding thresholds with_reports
nothing_reached p j =
    elim (cases_Bool (subscribed j).usage_report) [
      | inl is ↦
          rw is
          (let same_set = tell_subscribed p (map threshold (filter (is_reached p j) (slots p j))) j in
          let same_slots = tell_slots p (map threshold (filter (is_reached p j) (slots p j))) j in
          rw (same_set, same_slots, is)
          (ap (map threshold) (filter_no (is_reached p (with_reports p (map threshold (filter (is_reached p j) (slots p j))) j)) (slots p j) (slots p j) (settled_key p j) (λ k has. has))))
      | inr isnt ↦ rw (isnt, isnt) refl
    ]

pub nothing_reached_after : (p : Setting) (j : Journal) (c : Command) → thresholds p (after_command p j c) ≡ []
unfolding after_command
nothing_reached_after p j c = nothing_reached p (with_reports p (plan p j c) (entry.Command c ∷ j))
