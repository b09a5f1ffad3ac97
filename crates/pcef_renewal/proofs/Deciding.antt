-- Sessions that are alike judge packets alike, and no octets are lost between them.
use Rattle.std.proofs.Common.{◌≡◌, ◌∙◌, ◌+◌, ◌&&◌, ◌||◌, ℕ, Bool, true, false, List, [], ◌∷◌, Contains, None, refl, sym, ap, ap₂, arith, inl, inr}
use Rattle.std.specs.Prelude.{if◌then◌else◌}
use Rattle.std.specs.List.{list_all, list_any}
use Rattle.std.proofs.lemmas.Bool.{and_right, cases_Bool, false_from_ne_true}
use Rattle.pcef_base.proofs.Found.{all_at, all_from, find_none, find_one}
use Rattle.pcef_base.proofs.Tests.{contrary}
use Rattle.pcef_packet.specs.declared.header.Addr.{Addr}
use Rattle.pcef_packet.specs.declared.header.Header.{Header}
use Rattle.pcef_packet.specs.Addresses.{is_assigned, ue_side}
use Rattle.pcef_model.specs.declared.command.Command.TheVariants.{Terminate}
use Rattle.pcef_model.specs.declared.row.Row.{Row}
use Rattle.pcef_model.specs.declared.level.Level.TheVariants.{Rule, Session}
use Rattle.pcef_model.specs.ActiveRules.{Active, decisive, fits, goes_ahead_of, is_decisive, is_key}
use Rattle.pcef_model.specs.Commands.{is_among}
use Rattle.pcef_model.specs.Entries.{Journal, rows}
use Rattle.pcef_model.specs.Generations.{Generation, oldest, slots_of}
use Rattle.pcef_model.specs.Journals.{Decision, at, counted, counts, counts_in, decided_by, decision, gated, now, octets_of, passed, passed_for, reported, slots, stray, tables, unmatched, unreported}
use Rattle.pcef_model.specs.Lawful.{Lawful, by_command}
use Rattle.pcef_model.specs.Refusals.{first_of, refusals}
use Rattle.pcef_model.specs.Reports.{after_command, plan, thresholds, with_reports}
use Rattle.pcef_model.specs.Setting.{Setting}
use Rattle.pcef_model.proofs.BoundRules.{NamesOnce}
use Rattle.pcef_model.proofs.Decisive.{decisive_once, made_once}
use Rattle.pcef_model.proofs.Ending.{nothing_unreported}
use Rattle.pcef_model.proofs.Exactness.{lawful_exact}
use Rattle.pcef_model.proofs.Growth.{counted_after_command}
use Rattle.pcef_model.proofs.Reports.{tell_counted}
use Rattle.pcef_model.specs.declared.entry.Entry.TheVariants as entry
use Rattle.pcef_model.proofs.SlotPlaces.{more_among}
use Rattle.pcef_model.proofs.SlotsGrow.{oldest_grow}
use Rattle.pcef_renewal.specs.Alike.{Alike}
use Rattle.pcef_renewal.specs.Likeness.{AreEnded, counted_in_all, reported_in_all}
use Rattle.pcef_renewal.proofs.Fitting.{none_at}
use Rattle.pcef_renewal.proofs.Likeness.{on_has_slot}
use Rattle.pcef_renewal.proofs.Order.{some_there}

-- ---- which rule decides
same_all : {X : Type 0} (test : X → Bool) (xs ys : List X) → ((x : X) → Contains xs x → Contains ys x) → ((x : X) → Contains ys x → Contains xs x) → list_all test xs ≡ list_all test ys
same_all test xs ys to back =
    elim (cases_Bool (list_all test ys)) [
      | inl all ↦ all_from test xs (λ x there. all_at test ys x all (to x there)) ∙ sym all
      | inr some ↦
          false_from_ne_true (list_all test xs) (λ all. contrary (list_all test ys) (all_from test ys (λ x there. all_at test xs x all (back x there))) some) ∙ sym some
    ]

module _ (xs ys : List Active) (ue : Addr) (header : Header) (once_xs : NamesOnce xs) (once_ys : NamesOnce ys) (to : (r : Active) → Contains xs r → Contains ys r)
    (back : (r : Active) → Contains ys r → Contains xs r) where
  same_decisive : (r : Active) → is_decisive xs ue header r ≡ is_decisive ys ue header r
  same_decisive r = ap (λ b. fits ue header r && b) (same_all (goes_ahead_of ue header r) xs ys to back)

  decides_alike : decisive xs ue header ≡ decisive ys ue header
  decides_alike =
      elim (cases_Bool (list_any (is_decisive xs ue header) xs)) [
        | inl some ↦
            let w = some_there (is_decisive xs ue header) xs some in
            let own : is_decisive ys ue header w.0 ≡ true = sym (same_decisive w.0) ∙ w.2 in
            find_one (is_decisive xs ue header) xs w.0 w.1 w.2 (λ s there is. decisive_once xs ue header w.0 s once_xs w.1 there w.2 is)
            ∙ sym (find_one (is_decisive ys ue header) ys w.0 (to w.0 w.1) own (λ s there is. decisive_once ys ue header w.0 s once_ys (to w.0 w.1) there own is))
        | inr none ↦
            let misses : (r : Active) → Contains xs r → is_decisive xs ue header r ≡ false = (λ r there. none_at (is_decisive xs ue header) xs r none there) in
            find_none (is_decisive xs ue header) xs misses
            ∙ sym (find_none (is_decisive ys ue header) ys (λ r there. sym (same_decisive r) ∙ misses r (back r there)))
      ]

pub decided_alike : (p : Setting) (j k : Journal) → Alike p j k → (header : Header) → decision p (now p k) header ≡ decision p (now p j) header
decided_alike p j k alike header =
    ap (λ o. if is_assigned (ue_side header) p.ue then decided_by header o else stray)
    (decides_alike (now p k).rules (now p j).rules p.ue header (made_once p (tables k)) (made_once p (tables j)) (λ r. (alike.rules r).1) (λ r. (alike.rules r).0))

-- ---- for which keys a packet counts
same_level : (a b : Bool) → (if a then Session else Rule) ≡ (if b then Session else Rule) → a ≡ b
same_level true true is = refl
same_level false false is = refl
same_level true false is = absurd cc
same_level false true is = absurd cc

passed_alike : (g h : Generation) (key : List ℕ) → is_among key g.session ≡ is_among key h.session → (d : Decision) → passed_for g key d ≡ passed_for h key d
passed_alike g h key same stray = refl
passed_alike g h key same unmatched = refl
passed_alike g h key same (gated r) = refl
passed_alike g h key same (passed r) = ap (λ b. is_key key r.properties.key || b) same

pub counted_alike : (p : Setting) (j k : Journal) → Alike p j k → (key : List ℕ) (header : Header) → counts_in p (now p k) key header ≡ counts_in p (now p j) key header
counted_alike p j k alike key header =
    elim (cases_Bool (is_among key (now p j).on)) [
      | inr off ↦
          and_right (passed_for (now p k) key (decision p (now p k) header)) (is_among key (now p k).on) (alike.on key ∙ off)
          ∙ sym (and_right (passed_for (now p j) key (decision p (now p j) header)) (is_among key (now p j).on) off)
      | inl on ↦
          let there : is_among key (slots p k) ≡ true = on_has_slot p (tables k) key (alike.on key ∙ on) in
          let session = same_level (is_among key (now p k).session) (is_among key (now p j).session) (alike.levels key there) in
          ap₂ (λ a b. a && b)
          (ap (passed_for (now p k) key) (decided_alike p j k alike header) ∙ passed_alike (now p k) (now p j) key session (decision p (now p j) header)) (alike.on key)
    ]

-- ---- octets
counted_then : (p : Setting) (j : Journal) (key : List ℕ) → Lawful p j → counted p (after_command p j Terminate) key ≡ counted p j key
unfolding after_command
counted_then p j key lawful =
    let ended : Journal = entry.Command Terminate ∷ j in
    tell_counted p (thresholds p (with_reports p (plan p j Terminate) ended)) (with_reports p (plan p j Terminate) ended) key
    ∙ tell_counted p (plan p j Terminate) ended key ∙ counted_after_command p j key Terminate (lawful_exact p j lawful).known

-- a key without a slot has no octets
no_octets : (test : Row → Bool) (rs : List Row) → ((r : Row) → test r ≡ false) → octets_of test rs ≡ 0
unfolding octets_of
no_octets test [] none = refl
no_octets test (r ∷ rs) none = rw (none r) (let rest = no_octets test rs none in omega (arith, rest))

counts_none : (p : Setting) (j : Journal) (key : List ℕ) → is_among key (slots p j) ≡ false → counted p j key ≡ 0
counts_none p j key absent =
    no_octets (counts p j key) (rows j) (λ r. and_right (passed_for (at p j r.generation) key (decision p (at p j r.generation) r.header)) (is_among key (at p j r.generation).on)
    (false_from_ne_true (is_among key (at p j r.generation).on) (λ on.
    let before = on_has_slot p (oldest r.generation (tables j)) key on in
    let grown = oldest_grow p r.generation (tables j) in
    contrary (is_among key (slots p j)) (ap (is_among key) grown.1 ∙ more_among key (slots_of p (oldest r.generation (tables j))) grown.0 before) absent)))

-- all that a session counted is reported at its end
all_reported : (p : Setting) (j : Journal) → Lawful p j → first_of (refusals p j Terminate) ≡ None → (key : List ℕ) → reported (after_command p j Terminate) key ≡ counted p j key
all_reported p j lawful accepted key =
    let exact = (lawful_exact p (after_command p j Terminate) (by_command j Terminate lawful accepted refl)).exact key in
    let same = counted_then p j key lawful in
    elim (cases_Bool (is_among key (slots p j))) [
      | inl there ↦ let none = nothing_unreported p j lawful key there in omega (arith, none, exact, same)
      | inr absent ↦ let none = counts_none p j key absent in omega (arith, none, exact, same)
    ]

pub octets_add_up : (p : Setting) (ended : List Journal) (k : Journal) → AreEnded p ended → Lawful p k → (key : List ℕ) →
    reported_in_all p ended key + reported k key + unreported p k key ≡ counted_in_all p ended key + counted p k key
octets_add_up p [] k ends lawful key = let exact = (lawful_exact p k lawful).exact key in omega (arith, exact)
octets_add_up p (j ∷ ended) k ends lawful key =
    let rest = octets_add_up p ended k ends.1 lawful key in
    let own = all_reported p j ends.0.0 ends.0.1 key in
    omega (arith, rest, own)
