-- What always holds of a binding holds after each change.
use Rattle.std.proofs.Common.{◌≡◌, ◌≤◌, ◌<◌, ◌+◌, ℕ, Bool, true, false, ◌&&◌, not, List, [], ◌∷◌, Option, Some, None, refl, ap, subst, arith, inl, inr, length, get_or, length-append}
use Rattle.std.specs.Prelude.{All, AllPairs, is_none, is_some, nat_lt, filter}
use Rattle.std.specs.List.{list_any}
use Rattle.std.proofs.lemmas.Bool.{cases_Bool, ltb-false}
use Rattle.std.proofs.lemmas.List.Elements.{All-filter, All-nil}
use Rattle.std.proofs.lemmas.List.Kept.{AllPairs-filter}
use Rattle.pcef_rule.specs.declared.qci.Kind.{Kind}
use Rattle.pcef_rule.specs.declared.qci.Kind.TheVariants.{NonGbr}
use Rattle.pcef_rule.specs.declared.quantity.Qos.{Qos}
use Rattle.pcef_rule.specs.declared.quantity.Rates.{Rates}
use Rattle.pcef_rule.specs.declared.quantity.Sums.{Sums}
use Rattle.pcef_rule.specs.QciKinds.{kind_of}
use Rattle.pcef_bearer.specs.declared.bearers.Bound.{Bound}
use Rattle.pcef_model.specs.declared.answer.Refusal.TheVariants.{UnknownQci, RatesMissing, RatesNotWanted, TooManyBearers, OverCapacityUp, OverCapacityDown}
use Rattle.pcef_bearer.specs.Bindings.{Agree, Binding, DifferInName, bearer_of_rule, bound_at, is_bound_as, bound_down, bound_up}
use Rattle.pcef_bearer.specs.BindingSteps.{HasItsId, HasRoom, IsBinding, finds_no_id, id_excluding, with_bound, binding_refusals, with_rules, without_bound}
use Rattle.pcef_model.specs.Refusals.{first_of}
use Rattle.pcef_model.specs.Bearers.{is_gbr, is_non_gbr, rate_down, rate_up, sum_up, sum_down}
use Rattle.pcef_bearer.proofs.GivenIds.{IsIdOf, agree_all, agree_self, agree_sym, given_id}
use Rattle.pcef_bearer.proofs.Names.{NamesOnce, put_down, put_up}
use Rattle.pcef_model.proofs.Names.{once_from_pairs, pairs_from_once, put_all, put_length, put_once}
use Rattle.pcef_bearer.proofs.Putting.{put_behind}
use Rattle.pcef_bearer.proofs.Sums.{part_down, part_up, part_length}

-- ---- none is bound
pub empty_binding : (default : Qos) (capacity : Sums) (qcis : List (Option Kind)) (bound : List Bound) →
    kind_of qcis default.qci.0 ≡ Some NonGbr → bound ≡ [] →
    IsBinding (record { default_qos = default; capacity = capacity; qcis = qcis; bound = bound })
unfolding sum_up sum_down
empty_binding default capacity qcis bound kind empty = rw empty (record {
  default_is_non_gbr = kind;
  few = omega arith;
  names = λ i j d below within. absurd (omega (arith, within));
  ids = All-nil (HasItsId default);
  pairs = λ i j d below within. absurd (omega (arith, within));
  within_up = omega arith;
  within_down = omega arith;
})

-- ---- rules are dropped
pub kept_part : (v : Binding) (test : Bound → Bool) → IsBinding v → IsBinding (with_rules v (filter test v.bound))
kept_part v test kept = record {
  default_is_non_gbr = kept.default_is_non_gbr;
  few = omega (arith, part_length test v.bound, kept.few);
  names = AllPairs-filter DifferInName test v.bound kept.names;
  ids = All-filter test (HasItsId v.default_qos) v.bound kept.ids;
  pairs = AllPairs-filter Agree test v.bound kept.pairs;
  within_up = omega (arith, part_up test v.bound, kept.within_up);
  within_down = omega (arith, part_down test v.bound, kept.within_down);
}

-- ---- a rule is put
-- no refusal: no condition holds
passed : (a b c d e f : Bool) →
    first_of ((a, UnknownQci) ∷ (b, RatesMissing) ∷ (c, RatesNotWanted) ∷ (d, TooManyBearers) ∷ (e, OverCapacityUp) ∷ (f, OverCapacityDown) ∷ []) ≡ None →
    (d ≡ false) × (e ≡ false) × (f ≡ false)
passed true b c d e f none = absurd (cc)
passed false true c d e f none = absurd (cc)
passed false false true d e f none = absurd (cc)
passed false false false true e f none = absurd (cc)
passed false false false false true f none = absurd (cc)
passed false false false false false true none = absurd (cc)
passed false false false false false false none = (refl, refl, refl)

pub accepted : (v : Binding) (others : List Bound) (q : Qos) (rates : Option Rates) → first_of (binding_refusals v others q rates) ≡ None →
    (finds_no_id v.default_qos others q ≡ false) × (nat_lt v.capacity.up (bound_up others + rate_up rates) ≡ false)
    × (nat_lt v.capacity.down (bound_down others + rate_down rates) ≡ false)
accepted v others q rates none =
    passed (is_none (kind_of v.qcis q.qci.0)) (is_gbr (kind_of v.qcis q.qci.0) && is_none rates)
    (is_non_gbr (kind_of v.qcis q.qci.0) && is_some rates) (finds_no_id v.default_qos others q)
    (nat_lt v.capacity.up (bound_up others + rate_up rates)) (nat_lt v.capacity.down (bound_down others + rate_down rates)) none

put_few : (new : Bound) (bound : List Bound) → length bound ≤ 64 → HasRoom new.name 64 bound → length (with_bound new bound) ≤ 64
put_few new bound few room =
    elim (cases_Bool (list_any (is_bound_as new.name) bound)) [
      | inl there ↦ rw (put_length (λ (b : Bound). b.name) new bound there) few
      | inr none ↦
          let space : length bound < 64 = room none in
          rw (put_behind new bound none, length-append) (omega (arith, space))
    ]

put_pairs : (new : Bound) (bound : List Bound) → NamesOnce bound → AllPairs Agree bound → All (Agree new) (without_bound new.name bound) →
    AllPairs Agree (with_bound new bound)
put_pairs new bound once pairs agrees i j d below within = all i d (omega (arith, below, within)) j d within
  where
    others : AllPairs Agree (without_bound new.name bound)
    others = AllPairs-filter Agree (λ (b : Bound). not (is_bound_as new.name b)) bound pairs

    it : All (Agree new) (with_bound new bound)
    it = put_all (λ (b : Bound). b.name) (Agree new) new bound once (agree_self new) agrees

    all : All (λ (a : Bound). All (Agree a) (with_bound new bound)) (with_bound new bound)
    all = put_all (λ (b : Bound). b.name) (λ (a : Bound). All (Agree a) (with_bound new bound)) new bound once it
        (λ k e inside. put_all (λ (b : Bound). b.name) (Agree (get_or (without_bound new.name bound) k e)) new bound once
        (agree_sym new (get_or (without_bound new.name bound) k e) (agrees k e inside))
        (agree_all (without_bound new.name bound) others k e inside))

pub kept_put : (v : Binding) (name : List ℕ) (q : Qos) (rates : Option Rates) (id : ℕ) → IsBinding v → HasRoom name 64 v.bound →
    first_of (binding_refusals v (without_bound name v.bound) q rates) ≡ None → id_excluding v.default_qos v.bound (without_bound name v.bound) q ≡ Some id →
    IsBinding (with_rules v (with_bound (bound_at name q rates id) v.bound))
kept_put v name q rates id kept room none found =
    let new : Bound = bound_at name q rates id in
    let once : NamesOnce v.bound = once_from_pairs (λ (b : Bound). b.name) v.bound kept.names in
    let given : IsIdOf v.default_qos (without_bound name v.bound) q id = given_id v.default_qos name v.bound q id kept.ids kept.pairs found in
    let passes = accepted v (without_bound name v.bound) q rates none in
    let up : bound_up (without_bound name v.bound) + rate_up rates ≤ v.capacity.up = ltb-false v.capacity.up (bound_up (without_bound name v.bound) + rate_up rates) passes.1 in
    let down : bound_down (without_bound name v.bound) + rate_down rates ≤ v.capacity.down =
    ltb-false v.capacity.down (bound_down (without_bound name v.bound) + rate_down rates) passes.2 in
    record {
      default_is_non_gbr = kept.default_is_non_gbr;
      few = put_few new v.bound kept.few room;
      names = pairs_from_once (λ (b : Bound). b.name) (with_bound new v.bound) (put_once (λ (b : Bound). b.name) new v.bound once);
      ids = put_all (λ (b : Bound). b.name) (HasItsId v.default_qos) new v.bound once (given.of_default, given.of_other)
          (All-filter (λ (b : Bound). not (is_bound_as name b)) (HasItsId v.default_qos) v.bound kept.ids);
      pairs = put_pairs new v.bound once kept.pairs given.agrees;
      within_up = rw (put_up new v.bound once) up;
      within_down = rw (put_down new v.bound once) down;
    }

-- ---- no rule has the name
pub without_absent : (v : Binding) (name : List ℕ) → bearer_of_rule name v.bound ≡ None → v ≡ with_rules v (without_bound name v.bound)
without_absent v name none = let same : without_bound name v.bound ≡ v.bound = absent v.bound none in rw same refl
  where
    absent : (bound : List Bound) → bearer_of_rule name bound ≡ None → without_bound name bound ≡ bound
    absent [] none = refl
    absent (b ∷ bound) none =
        elim (cases_Bool (is_bound_as name b)) [
          | inl is ↦
              let bad : Some b.bearer ≡ None = rw is at none in
              absurd (cc)
          | inr isnt ↦ rw isnt (ap (λ (rest : List Bound). b ∷ rest) (absent bound (rw isnt at none)))
        ]

-- ---- a rule is put, as a method needs it
pub kept_put_at : (v w : Binding) (name : List ℕ) (q : Qos) (rates : Option Rates) (id : ℕ) → v ≡ w → IsBinding v → HasRoom name 64 w.bound →
    first_of (binding_refusals w (without_bound name w.bound) q rates) ≡ None → id_excluding w.default_qos w.bound (without_bound name w.bound) q ≡ Some id →
    IsBinding (with_rules v (with_bound (bound_at name q rates id) v.bound))
kept_put_at v w name q rates id is kept =
    subst
    (λ (x : Binding). HasRoom name 64 x.bound → first_of (binding_refusals x (without_bound name x.bound) q rates) ≡ None →
    id_excluding x.default_qos x.bound (without_bound name x.bound) q ≡ Some id → IsBinding (with_rules v (with_bound (bound_at name q rates id) v.bound)))
    is (kept_put v name q rates id kept)
