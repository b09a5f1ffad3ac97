-- Two sessions that are alike reach their grants by the same packets.
use Rattle.std.proofs.Common.{◌≡◌, ◌∙◌, ◌≤◌, ◌<◌, ◌+◌, ◌-◌, ◌&&◌, ℕ, Bool, true, false, List, [], ◌∷◌, None, filter, map, refl, sym, ap, ap₂, arith, inl, inr}
use Rattle.std.specs.Prelude.{if◌then◌else◌}
use Rattle.std.proofs.lemmas.Bool.{and_right, cases_Bool, cases_lt, lt-leb}
use Rattle.std.proofs.lemmas.List.Elements.{All-head, All-tail}
use Rattle.pcef_packet.specs.declared.header.Header.{Header}
use Rattle.pcef_model.specs.declared.command.Command.TheVariants.{Monitor, ReportNow}
use Rattle.pcef_model.specs.declared.entry.Entry.TheVariants as entry
use Rattle.pcef_model.specs.declared.level.Level.{Level}
use Rattle.pcef_model.specs.declared.pending_report.PendingReport.{PendingReport}
use Rattle.pcef_model.specs.declared.pending_report.PendingReport.TheVariants.{Usage}
use Rattle.pcef_model.specs.declared.report.Cause.TheVariants.{Threshold}
use Rattle.pcef_model.specs.declared.row.Row.{Row}
use Rattle.pcef_model.specs.declared.trigger.TriggerSet.{TriggerSet}
use Rattle.pcef_model.specs.Commands.{is_among}
use Rattle.pcef_model.specs.Entries.{Journal}
use Rattle.pcef_model.specs.Generations.{Generation, made_by}
use Rattle.pcef_model.specs.Journals.{at, counted, counts, counts_in, gen, grant, now, report_count, reported, slots, subscribed, tables, unreported}
use Rattle.pcef_model.specs.Lawful.{Lawful}
use Rattle.pcef_model.specs.Reports.{after_flush, body_of, is_reached, is_reached_by, thresholds, with_reports, with_rows, with_thresholds}
use Rattle.pcef_model.specs.Setting.{Setting, same_name}
use Rattle.pcef_model.proofs.AfterEvents.{tables_after_rows}
use Rattle.pcef_model.proofs.Ending.{among_kept}
use Rattle.pcef_model.proofs.Exactness.{lawful_exact}
use Rattle.pcef_model.proofs.Growth.{at_newest, counted_after_row}
use Rattle.pcef_model.proofs.Reports.{tell_counted, tell_now}
use Rattle.pcef_renewal.specs.Accepting.{entered}
use Rattle.pcef_renewal.specs.Alike.{Alike}
use Rattle.pcef_renewal.specs.Counting.{AreNewest, EvenFor, ReachAlike, SamePackets, headers, octets_in}
use Rattle.pcef_renewal.specs.Likeness.{ReachesAlike}
use Rattle.pcef_renewal.specs.Renewal.{grant_after, out_of_reach, renewal}
use Rattle.pcef_renewal.proofs.Budget.{subscribed_rows}
use Rattle.pcef_renewal.proofs.Deciding.{counted_alike}
use Rattle.pcef_renewal.proofs.Likeness.{no_rows_entered, on_again, on_has_slot, renewal_like, says_all}
use Rattle.pcef_renewal.proofs.Quiet.{nothing_counted}
use Rattle.pcef_renewal.proofs.Renumbered.{some_left}
use Rattle.pcef_renewal.proofs.Staying.{among_filter}

-- ---- rows that are taken over
counted_with : (p : Setting) (rs : List Row) (j : Journal) (key : List ℕ) → AreNewest j rs → counted p (with_rows rs j) key ≡ octets_in p (now p j) key (headers rs) + counted p j key
unfolding with_rows
counted_with p [] j key newest = omega arith
counted_with p (r ∷ rs) j key newest =
    let own : counts p j key r ≡ counts_in p (now p j) key r.header =
    ap (λ (g : Generation). counts_in p g key r.header) (ap (at p j) (All-head (λ (s : Row). s.generation ≡ gen j) r rs newest) ∙ at_newest p j) in
    let rest = counted_with p rs (entry.Row r ∷ j) key (All-tail (λ (s : Row). s.generation ≡ gen j) r rs newest) in
    let after = counted_after_row p j key r in
    let one : (if counts p j key r then r.header.octets else 0) ≡ (if counts_in p (now p j) key r.header then r.header.octets else 0) =
    ap (λ (b : Bool). if b then r.header.octets else 0) own in
    omega (arith, rest, after, one)

reported_with : (rs : List Row) (j : Journal) (key : List ℕ) → reported (with_rows rs j) key ≡ reported j key
unfolding with_rows reported
reported_with [] j key = refl
reported_with (r ∷ rs) j key = reported_with rs (entry.Row r ∷ j) key

grant_with : (rs : List Row) (j : Journal) (key : List ℕ) → grant (with_rows rs j) key ≡ grant j key
unfolding with_rows grant
grant_with [] j key = refl
grant_with (r ∷ rs) j key = grant_with rs (entry.Row r ∷ j) key

now_with : (p : Setting) (rs : List Row) (j : Journal) → now p (with_rows rs j) ≡ now p j
now_with p rs j = ap (made_by p) (tables_after_rows rs j)

module _ (p : Setting) (j : Journal) (lawful : Lawful p j) (rs : List Row) (newest : AreNewest j rs) (key : List ℕ) where
  abbrev more : ℕ
  more = octets_in p (now p j) key (headers rs)

  unreported_with : unreported p (with_rows rs j) key ≡ unreported p j key + more
  unreported_with =
      let exact = (lawful_exact p j lawful).exact key in
      let all = counted_with p rs j key newest in
      let same = reported_with rs j key in omega (arith, exact, all, same)

  reached_with : is_reached p (with_rows rs j) key ≡ (is_among key (now p j).on && is_reached_by (grant j key) (unreported p j key + more))
  reached_with =
      ap₂ (λ a b. a && b) (ap (λ (g : Generation). is_among key g.on) (now_with p rs j)) (ap₂ is_reached_by (grant_with rs j key) unreported_with)

-- ---- thresholds
abbrev usage : List (List ℕ) → List PendingReport
usage keys = map (λ k. Usage k Threshold) keys

abbrev told : Setting → Journal → List ℕ → Journal
told p j k = entry.Report (record { number = report_count j; body = body_of p j (Usage k Threshold) }) ∷ j

grant_left : (p : Setting) (keys : List (List ℕ)) (j : Journal) (key : List ℕ) → is_among key keys ≡ false → grant (with_reports p (usage keys) j) key ≡ grant j key
unfolding with_reports grant
grant_left p [] j key absent = refl
grant_left p (k ∷ keys) j key absent =
    elim (cases_Bool (same_name key k)) [
      | inl same ↦ absurd (let e : true ≡ false = rw same at absent in cc)
      | inr differs ↦ grant_left p keys (told p j k) key (rw differs at absent) ∙ (rw differs refl)
    ]

grant_taken : (p : Setting) (keys : List (List ℕ)) (j : Journal) (key : List ℕ) → is_among key keys ≡ true → grant (with_reports p (usage keys) j) key ≡ None
unfolding with_reports grant
grant_taken p [] j key there = absurd cc
grant_taken p (k ∷ keys) j key there =
    elim (cases_Bool (is_among key keys)) [
      | inl later ↦ grant_taken p keys (told p j k) key later
      | inr absent ↦
          elim (cases_Bool (same_name key k)) [
            | inl same ↦ grant_left p keys (told p j k) key absent ∙ (rw same refl)
            | inr differs ↦ absurd (let e : false ≡ true = rw (differs, absent) at there in cc)
          ]
    ]

reported_left : (p : Setting) (keys : List (List ℕ)) (j : Journal) (key : List ℕ) → is_among key keys ≡ false → reported (with_reports p (usage keys) j) key ≡ reported j key
unfolding with_reports reported
reported_left p [] j key absent = refl
reported_left p (k ∷ keys) j key absent =
    elim (cases_Bool (same_name key k)) [
      | inl same ↦ absurd (let e : true ≡ false = rw same at absent in cc)
      | inr differs ↦ reported_left p keys (told p j k) key (rw differs at absent) ∙ (rw differs (omega arith))
    ]

-- what thresholds leave of a key: its grant is gone, or all is as before
record Settled (p : Setting) (j j2 : Journal) (key : List ℕ) : Type 0 where
  gone : is_reached p j key ≡ true → grant j2 key ≡ None
  same : is_reached p j key ≡ false → (grant j2 key ≡ grant j key) × (unreported p j2 key ≡ unreported p j key)

pub on_and : (a b : Bool) → (a && b) ≡ true → a ≡ true
on_and true b is = refl
on_and false b is = absurd cc

reported_keys : (p : Setting) (j : Journal) (key : List ℕ) → Settled p j (with_reports p (usage (filter (is_reached p j) (slots p j))) j) key
reported_keys p j key =
    let keys : List (List ℕ) = filter (is_reached p j) (slots p j) in
    record {
      gone = λ reached. grant_taken p keys j key
          (among_kept (is_reached p j) key (slots p j) (on_has_slot p (tables j) key (on_and (is_among key (now p j).on) (is_reached_by (grant j key) (unreported p j key)) reached)) reached);
      same = λ isnt.
          let absent : is_among key keys ≡ false = among_filter (is_reached p j) key (slots p j) ∙ and_right (is_among key (slots p j)) (is_reached p j key) isnt in
          (grant_left p keys j key absent, ap₂ (λ a b. a - b) (tell_counted p (usage keys) j key) (reported_left p keys j key absent));
    }

module _ (p : Setting) (j k : Journal) (events : subscribed k ≡ subscribed j) (on : (key : List ℕ) → is_among key (now p k).on ≡ is_among key (now p j).on) (reach : ReachAlike p j k) where
  -- after reports of the reached grants in both
  told_alike : (j2 k2 : Journal) → now p j2 ≡ now p j → now p k2 ≡ now p k → ((key : List ℕ) → Settled p j j2 key) → ((key : List ℕ) → Settled p k k2 key) → ReachAlike p j2 k2
  told_alike j2 k2 now_j now_k left_j left_k = record {
    reached = λ key. elim (cases_Bool (is_reached p j key)) [
      | inl is ↦
          let none_j = (left_j key).gone is in
          let none_k = (left_k key).gone (reach.reached key ∙ is) in
          and_right (is_among key (now p k2).on) (is_reached_by (grant k2 key) (unreported p k2 key)) (ap (λ g. is_reached_by g (unreported p k2 key)) none_k)
          ∙ sym (and_right (is_among key (now p j2).on) (is_reached_by (grant j2 key) (unreported p j2 key)) (ap (λ g. is_reached_by g (unreported p j2 key)) none_j))
      | inr isnt ↦
          let same_j = (left_j key).same isnt in
          let same_k = (left_k key).same (reach.reached key ∙ isnt) in
          ap₂ (λ a b. a && b) (ap (λ (g : Generation). is_among key g.on) now_k) (ap₂ is_reached_by same_k.0 same_k.1)
          ∙ reach.reached key
          ∙ sym (ap₂ (λ a b. a && b) (ap (λ (g : Generation). is_among key g.on) now_j) (ap₂ is_reached_by same_j.0 same_j.1))
    ];
    later = λ key is_on more some far. elim (cases_Bool (is_reached p j key)) [
      | inl is ↦
          ap (λ g. is_reached_by g (unreported p k2 key + more)) ((left_k key).gone (reach.reached key ∙ is))
          ∙ sym (ap (λ g. is_reached_by g (unreported p j2 key + more)) ((left_j key).gone is))
      | inr isnt ↦
          let same_j = (left_j key).same isnt in
          let same_k = (left_k key).same (reach.reached key ∙ isnt) in
          ap₂ is_reached_by same_k.0 (ap (λ n. n + more) same_k.1)
          ∙ reach.later key (sym (ap (λ (g : Generation). is_among key g.on) now_j) ∙ is_on) more some (less (unreported p k2 key) (unreported p k key) more same_k.1 far)
          ∙ sym (ap₂ is_reached_by same_j.0 (ap (λ n. n + more) same_j.1))
    ];
  }
    where
      less : (a b m : ℕ) → a ≡ b → a + m < out_of_reach → b + m < out_of_reach
      less a b m same far = omega (arith, same, far)

  pub thresholds_alike : ReachAlike p (with_thresholds p j) (with_thresholds p k)
  unfolding thresholds with_reports
  thresholds_alike =
      elim (cases_Bool (subscribed j).usage_report) [
        | inr off ↦
            let off_k : (subscribed k).usage_report ≡ false = ap (λ (set : TriggerSet). set.usage_report) events ∙ off in
            rw (off, off_k) reach
        | inl is ↦
            let is_k : (subscribed k).usage_report ≡ true = ap (λ (set : TriggerSet). set.usage_report) events ∙ is in
            rw (is, is_k)
            (told_alike (with_reports p (usage (filter (is_reached p j) (slots p j))) j) (with_reports p (usage (filter (is_reached p k) (slots p k))) k)
            (tell_now p (usage (filter (is_reached p j) (slots p j))) j) (tell_now p (usage (filter (is_reached p k) (slots p k))) k)
            (reported_keys p j) (reported_keys p k))
      ]

-- ---- the same packets
octets_alike : (p : Setting) (j k : Journal) → Alike p j k → (key : List ℕ) (hs : List Header) → octets_in p (now p k) key hs ≡ octets_in p (now p j) key hs
octets_alike p j k alike key [] = refl
octets_alike p j k alike key (h ∷ hs) =
    ap₂ (λ b n. (if b then h.octets else 0) + n) (counted_alike p j k alike key h) (octets_alike p j k alike key hs)

module _ (p : Setting) (j k : Journal) (lawful_j : Lawful p j) (lawful_k : Lawful p k) (alike : Alike p j k) (reach : ReachAlike p j k) (rs ss : List Row) (packets : SamePackets p j k rs ss)
  where
    more_same : (key : List ℕ) → octets_in p (now p k) key (headers ss) ≡ octets_in p (now p j) key (headers rs)
    more_same key = octets_alike p j k alike key (headers ss) ∙ ap (octets_in p (now p j) key) packets.same

    reached_alike : (key : List ℕ) → is_reached p (with_rows ss k) key ≡ is_reached p (with_rows rs j) key
    reached_alike key =
        reached_with p k lawful_k ss packets.newest_too key
        ∙ ap (λ n. is_among key (now p k).on && is_reached_by (grant k key) (unreported p k key + n)) (more_same key)
        ∙ by_more (octets_in p (now p j) key (headers rs)) (let few = packets.few key in let same = more_same key in omega (arith, few, same))
        ∙ sym (reached_with p j lawful_j rs packets.newest key)
      where
        by_more : (n : ℕ) → unreported p k key + n < out_of_reach →
            (is_among key (now p k).on && is_reached_by (grant k key) (unreported p k key + n)) ≡ (is_among key (now p j).on && is_reached_by (grant j key) (unreported p j key + n))
        by_more n far =
            elim (cases_lt 0 n) [
              | inl some ↦ elim (cases_Bool (is_among key (now p j).on)) [
                | inl on ↦ ap₂ (λ a b. a && b) (alike.on key) (reach.later key on n (omega (arith, some)) far)
                | inr off ↦ rw (alike.on key ∙ off, off) refl
              ]
              | inr none ↦
                  ap (λ m. is_among key (now p k).on && is_reached_by (grant k key) m) (nothing (unreported p k key) n none)
                  ∙ reach.reached key
                  ∙ sym (ap (λ m. is_among key (now p j).on && is_reached_by (grant j key) m) (nothing (unreported p j key) n none))
            ]
          where
            nothing : (a n : ℕ) → n ≤ 0 → a + n ≡ a
            nothing a n none = omega (arith, none)

    later_alike : (key : List ℕ) → is_among key (now p (with_rows rs j)).on ≡ true → ReachesAlike p (with_rows rs j) (with_rows ss k) key
    later_alike key on more some far =
        let n : ℕ = octets_in p (now p j) key (headers rs) in
        let here_j = unreported_with p j lawful_j rs packets.newest key in
        let here_k = unreported_with p k lawful_k ss packets.newest_too key in
        let same = more_same key in
        let sum_k : unreported p (with_rows ss k) key + more ≡ unreported p k key + (n + more) = omega (arith, here_k, same) in
        let sum_j : unreported p (with_rows rs j) key + more ≡ unreported p j key + (n + more) = omega (arith, here_j) in
        ap₂ is_reached_by (grant_with ss k key) sum_k
        ∙ reach.later key (sym (ap (λ (g : Generation). is_among key g.on) (now_with p rs j)) ∙ on) (n + more) (omega (arith, some)) (omega (arith, sum_k, far))
        ∙ sym (ap₂ is_reached_by (grant_with rs j key) sum_j)

    rows_reach_alike : ReachAlike p (with_rows rs j) (with_rows ss k)
    rows_reach_alike = record { reached = reached_alike; later = later_alike }

    flushed_alike : ReachAlike p (with_thresholds p (with_rows rs j)) (with_thresholds p (with_rows ss k))
    flushed_alike =
        thresholds_alike p (with_rows rs j) (with_rows ss k) (subscribed_rows ss k ∙ alike.events ∙ sym (subscribed_rows rs j))
        (λ key. ap (λ (g : Generation). is_among key g.on) (now_with p ss k) ∙ alike.on key ∙ sym (ap (λ (g : Generation). is_among key g.on) (now_with p rs j)))
        rows_reach_alike

pub packets_reach_alike : (p : Setting) (j k : Journal) → Lawful p j → Lawful p k → Alike p j k → ReachAlike p j k → (rs ss : List Row) → SamePackets p j k rs ss →
    ((key : List ℕ) → is_reached p (with_rows ss k) key ≡ is_reached p (with_rows rs j) key) × ReachAlike p (after_flush p j rs) (after_flush p k ss)
packets_reach_alike p j k lawful_j lawful_k alike reach [] [] packets = (reached_alike p j k lawful_j lawful_k alike reach [] [] packets, reach)
packets_reach_alike p j k lawful_j lawful_k alike reach [] (s ∷ ss) packets = absurd (let e = packets.same in cc)
packets_reach_alike p j k lawful_j lawful_k alike reach (r ∷ rs) [] packets = absurd (let e = packets.same in cc)
packets_reach_alike p j k lawful_j lawful_k alike reach (r ∷ rs) (s ∷ ss) packets =
    (reached_alike p j k lawful_j lawful_k alike reach (r ∷ rs) (s ∷ ss) packets, flushed_alike p j k lawful_j lawful_k alike reach (r ∷ rs) (s ∷ ss) packets)

-- ---- a new session
new_unreached : (p : Setting) (j : Journal) → Lawful p j → (key : List ℕ) → is_reached p (entered (renewal p j) []) key ≡ false
new_unreached p j lawful key =
    let k : Journal = entered (renewal p j) [] in
    elim (cases_Bool (is_among key (now p k).on)) [
      | inr off ↦ rw off refl
      | inl on ↦
          let among = on_again p j key ∙ sym ((renewal_like p j lawful).on key) ∙ on in
          let own = (says_all p j lawful).grants key among in
          let nothing = nothing_counted p k key (no_rows_entered (renewal p j) []) in
          let some = some_left (grant j key) (unreported p j key) in
          and_right (is_among key (now p k).on) (is_reached_by (grant k key) (unreported p k key))
          (ap₂ is_reached_by own nothing ∙ lt-leb (grant_after (grant j key) (unreported p j key)) 0 (omega (arith, some)))
    ]

pub new_reach_alike : (p : Setting) (j : Journal) → Lawful p j → ((key : List ℕ) → is_reached p j key ≡ false) → ReachAlike p j (entered (renewal p j) [])
new_reach_alike p j lawful none = record {
  reached = λ key. new_unreached p j lawful key ∙ sym (none key);
  later = λ key on. (renewal_like p j lawful).grants key on;
}

-- a key without unreported octets counts evenly in both
pub new_even : (p : Setting) (j : Journal) → Lawful p j → ((key : List ℕ) → is_reached p j key ≡ false) → (key : List ℕ) → unreported p j key ≡ 0 →
    EvenFor p j (entered (renewal p j) []) (ReportNow key) × ((amount : ℕ) (level : Level) → EvenFor p j (entered (renewal p j) []) (Monitor key amount level))
new_even p j lawful none key nothing =
    let k : Journal = entered (renewal p j) [] in
    let like = renewal_like p j lawful in
    let new : unreported p k key ≡ 0 = nothing_counted p k key (no_rows_entered (renewal p j) []) in (
      λ on n far. elim (cases_lt 0 n) [
        | inl some ↦
            let at_k : unreported p k key + n ≡ n = omega (arith, new) in
            let at_j : unreported p j key + n ≡ n = omega (arith, nothing) in
            sym (ap (is_reached_by (grant k key)) at_k) ∙ like.grants key on n (omega (arith, some)) (omega (arith, at_k, far)) ∙ ap (is_reached_by (grant j key)) at_j
        | inr less ↦
            let at_k : unreported p k key ≡ n = omega (arith, new, less) in
            let at_j : unreported p j key ≡ n = omega (arith, nothing, less) in
            let on_k : is_among key (now p k).on ≡ true = like.on key ∙ on in
            let none_k : is_reached_by (grant k key) (unreported p k key) ≡ false = rw on_k at (new_unreached p j lawful key) in
            let none_j : is_reached_by (grant j key) (unreported p j key) ≡ false = rw on at (none key) in
            sym (ap (is_reached_by (grant k key)) at_k) ∙ none_k ∙ sym none_j ∙ ap (is_reached_by (grant j key)) at_j
      ],
      λ amount level. (new ∙ sym nothing, omega (arith, new)),
    )
