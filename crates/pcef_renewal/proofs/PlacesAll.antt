-- Each bearer that is used has a place, and so each active rule comes in the order of a renewal.
use Rattle.std.proofs.Common.{◌≡◌, ◌∙◌, ◌≤◌, ◌<◌, ◌+◌, ◌==◌, ℕ, suc, zero, Bool, true, List, [], ◌∷◌, ◌++◌, Contains, drop, filter, length, length-append, nat_lt, take, refl, sym, ap, arith, inl, inr}
use Rattle.std.proofs.lemmas.Bool.{cases_Bool, eq-eqb, ltb-true, ltb-false}
use Rattle.std.proofs.lemmas.List.{length-take}
use Rattle.std.proofs.lemmas.List.Elements.{Contains-append_cases, Contains-append_left, Contains-append_right}
use Rattle.pcef_base.proofs.Found.{any_from}
use Rattle.pcef_base.proofs.Keeping.{filter_length}
use Rattle.pcef_model.specs.ActiveRules.{Active}
use Rattle.pcef_model.specs.Bearers.{default_id, other_ids}
use Rattle.pcef_model.specs.Entries.{Journal}
use Rattle.pcef_model.specs.Journals.{now}
use Rattle.pcef_model.specs.Lawful.{Lawful}
use Rattle.pcef_model.specs.Refusals.{is_bearer}
use Rattle.pcef_model.specs.Setting.{Setting, same_qos}
use Rattle.pcef_model.proofs.BearerIds.{lawful_bound}
use Rattle.pcef_model.proofs.Members.{filter_from, filter_to, later_there, there_cases}
use Rattle.pcef_model.proofs.Names.{filter_once}
use Rattle.pcef_renewal.specs.Renewal.{bearers_used, placed, places, rules_in_order, rules_on, rules_on_each}
use Rattle.pcef_renewal.proofs.Fitting.{no_longer, once_append}
use Rattle.pcef_renewal.proofs.FreeBearers.{has_own}
use Rattle.pcef_renewal.proofs.Order.{Ascends, NumbersOnce, absent_number, alone, ascends_from, first_below, first_once, of_first, others_all, others_ascend, others_once}

-- ---- places
placed_kept : (is_used : ℕ → Bool) (ns beyond : List ℕ) (x : ℕ) → Contains ns x → is_used x ≡ true → Contains (placed is_used ns beyond) x
placed_kept is_used [] beyond x there used = absurd (omega (arith, there.1))
placed_kept is_used (n ∷ ns) beyond x there used =
    elim (there_cases n ns x there) [
      | inl same ↦ let own : is_used n ≡ true = ap is_used same ∙ used in rw own (0, omega arith, same)
      | inr later ↦ elim (cases_Bool (is_used n)) [
        | inl kept ↦ rw kept (later_there n (placed is_used ns beyond) x (placed_kept is_used ns beyond x later used))
        | inr free ↦ rw free (Contains-append_right (take 1 beyond) (placed is_used ns (drop 1 beyond)) x (placed_kept is_used ns (drop 1 beyond) x later used))
      ]
    ]

-- with as many free places as there are beyond, each of those gets one
placed_beyond : (is_used : ℕ → Bool) (ns beyond : List ℕ) (x : ℕ) → length beyond + length (filter is_used ns) ≤ length ns → Contains beyond x → Contains (placed is_used ns beyond) x
placed_beyond is_used [] beyond x room there = absurd (omega (arith, there.1, room))
placed_beyond is_used (n ∷ ns) [] x room there = absurd (omega (arith, there.1))
placed_beyond is_used (n ∷ ns) (b ∷ beyond) x room there =
    elim (cases_Bool (is_used n)) [
      | inl kept ↦
          let less : suc (length beyond) + suc (length (filter is_used ns)) ≤ suc (length ns) = rw kept at room in
          rw kept (later_there n (placed is_used ns (b ∷ beyond)) x (placed_beyond is_used ns (b ∷ beyond) x (omega (arith, less)) there))
      | inr free ↦
          let less : suc (length beyond) + length (filter is_used ns) ≤ suc (length ns) = rw free at room in
          rw free (elim (there_cases b beyond x there) [
            | inl same ↦ (0, omega arith, same)
            | inr later ↦ later_there b (placed is_used ns beyond) x (placed_beyond is_used ns beyond x (omega (arith, less)) later)
          ])
    ]

-- ---- numbers that go up by one
pub front_from : (k n : ℕ) (xs : List ℕ) (x : ℕ) → Ascends k xs → Contains xs x → x < k + n → Contains (take n xs) x
unfolding Ascends
front_from k n [] x up there less = absurd (omega (arith, there.1))
front_from k zero (y ∷ xs) x up there less = absurd (omega (arith, less, ascends_from k (y ∷ xs) x up there))
front_from k (suc n) (y ∷ xs) x up there less =
    elim (there_cases y xs x there) [
      | inl same ↦ (0, omega arith, same)
      | inr later ↦ later_there y (take n xs) x (front_from (suc k) n xs x up.1 later (omega (arith, less)))
    ]

-- ---- the places of bearers
module _ (p : Setting) (j : Journal) where
  abbrev test : ℕ → Bool
  test id = is_bearer p j id

  abbrev front : List ℕ
  front = take (length (bearers_used p j)) other_ids

  abbrev behind : List ℕ
  behind = filter (λ id. nat_lt (default_id + length (bearers_used p j)) id) (bearers_used p j)

  used_once : NumbersOnce (bearers_used p j)
  used_once = filter_once alone test other_ids others_once

  front_length : length front ≡ length (bearers_used p j)
  front_length =
      let few = filter_length test other_ids in
      let size = length-take (length (bearers_used p j)) other_ids in omega (arith, few, size)

  -- those in front and those behind are among the used ones
  room : length behind + length (filter test front) ≤ length front
  room =
      let both = no_longer alone (filter test front ++ behind) (bearers_used p j)
      (once_append alone (filter test front) behind (filter_once alone test front (first_once (length (bearers_used p j)) other_ids others_once))
      (filter_once alone (λ id. nat_lt (default_id + length (bearers_used p j)) id) (bearers_used p j) used_once)
      (λ x there. absent_number x behind (λ again.
      let low = first_below 6 (length (bearers_used p j)) other_ids x others_ascend (filter_from test front x there).0 in
      let high = ltb-true (default_id + length (bearers_used p j)) x (filter_from (λ id. nat_lt (default_id + length (bearers_used p j)) id) (bearers_used p j) x again).1 in
      absurd (omega (arith, low, high)))))
      (λ x there. elim (Contains-append_cases (filter test front) behind x there) [
        | inl one ↦
            let w = filter_from test front x one in filter_to test other_ids x (of_first (length (bearers_used p j)) other_ids x w.0) w.1
        | inr other ↦ (filter_from (λ id. nat_lt (default_id + length (bearers_used p j)) id) (bearers_used p j) x other).0
      ]) in
      omega (arith, both, front_length, length-append (filter test front) behind)

  -- a number up to that of the last place is in front
  is_front : (x : ℕ) → Contains other_ids x → x ≤ 5 + length (bearers_used p j) → Contains front x
  is_front x there low = front_from 6 (length (bearers_used p j)) other_ids x others_ascend there (omega (arith, low))

  pub places_all : (x : ℕ) → Contains other_ids x → is_bearer p j x ≡ true → Contains (places p j) x
  places_all x there used =
      elim (cases_Bool (nat_lt (default_id + length (bearers_used p j)) x)) [
        | inl high ↦ placed_beyond test front behind x room (filter_to (λ id. nat_lt (default_id + length (bearers_used p j)) id) (bearers_used p j) x (filter_to test other_ids x there used) high)
        | inr low ↦ placed_kept test front behind x (is_front x there (ltb-false (default_id + length (bearers_used p j)) x low)) used
      ]

-- ---- rules
each_all : (p : Setting) (j : Journal) (ids : List ℕ) (r : Active) → Contains (now p j).rules r → Contains ids ((now p j).id_of r.properties.qos) → Contains (rules_on_each p j ids) r
each_all p j [] r there among = absurd (omega (arith, among.1))
each_all p j (id ∷ ids) r there among =
    elim (there_cases id ids ((now p j).id_of r.properties.qos) among) [
      | inl same ↦
          Contains-append_left (rules_on p j id) (rules_on_each p j ids) r
          (filter_to (λ (s : Active). (now p j).id_of s.properties.qos == id) (now p j).rules r there (eq-eqb ((now p j).id_of r.properties.qos) id (sym same)))
      | inr later ↦ Contains-append_right (rules_on p j id) (rules_on_each p j ids) r (each_all p j ids r there later)
    ]

pub id_placed : (p : Setting) (j : Journal) → Lawful p j → (r : Active) → Contains (now p j).rules r → Contains (default_id ∷ places p j) ((now p j).id_of r.properties.qos)
id_placed p j lawful r there =
    let bound = lawful_bound p j lawful in
    let id : ℕ = (now p j).id_of r.properties.qos in
    elim (cases_Bool (same_qos r.properties.qos p.default_qos)) [
      | inl is ↦ let five = bound.five r.properties.qos is in (0, omega arith, sym five)
      | inr isnt ↦
          let range = bound.others r.properties.qos (has_own p (now p j).rules r there) isnt in
          later_there default_id (places p j) id
          (places_all p j id (others_all id range.0 range.1) (any_from (λ (s : Active). (now p j).id_of s.properties.qos == id) (now p j).rules r there (eq-eqb id id refl)))
    ]

pub order_all : (p : Setting) (j : Journal) → Lawful p j → (r : Active) → Contains (now p j).rules r → Contains (rules_in_order p j) r
order_all p j lawful r there = each_all p j (default_id ∷ places p j) r there (id_placed p j lawful r there)
