-- Of the active rules that fit a packet one goes before all others.
use Rattle.std.proofs.Common.{◌≡◌, ◌||◌, ◌↔◌, List, [], ◌∷◌, None, Bool, true, false, not, Contains, refl, sym, ap, subst, inl, inr}
use Rattle.std.specs.List.{list_all, list_any}
use Rattle.std.specs.Ordering.{is_lt}
use Rattle.std.specs.declared.cmp.Ordering.{Ordering}
use Rattle.std.specs.declared.cmp.Ordering.TheVariants.{Less, Equal, Greater}
use Rattle.std.proofs.lemmas.Bool.{cases_Bool}
use Rattle.pcef_packet.specs.declared.header.Addr.{Addr}
use Rattle.pcef_packet.specs.declared.header.Header.{Header}
use Rattle.pcef_rule.proofs.OrderOfRules.{one_goes_first, rank_total}
use Rattle.pcef_rule.specs.Precedence.{Rank, goes_before, rank_cmp}
use Rattle.pcef_base.proofs.Found.{all_from, any_from, find_none, find_some}
use Rattle.pcef_base.proofs.Tests.{contrary}
use Rattle.pcef_model.specs.ActiveRules.{Active, decisive, fits, goes_ahead_of, is_before, is_decisive, is_named, rank_of}
use Rattle.pcef_model.proofs.BoundRules.{NamesOnce}
use Rattle.pcef_model.proofs.Decisive.{once_is}
use Rattle.pcef_model.proofs.Members.{first_there, later_there, there_cases}
use Rattle.pcef_model.proofs.Names.{Once}
use Rattle.pcef_model.proofs.Sameness.{same_name_is, same_name_of}

less_if : (o : Ordering) → is_lt o ≡ true → o ≡ Less
less_if Less e = refl
less_if Equal e = absurd cc
less_if Greater e = absurd cc

before_later : (a x b : Rank) → goes_before a x ≡ true → goes_before x b ≡ true → goes_before a b ≡ true
before_later a x b below above = ap is_lt (rank_total.trans a x b (less_if (rank_cmp a x) below) (less_if (rank_cmp x b) above))

-- ---- going ahead
unfit : (fitting named before : Bool) → fitting ≡ false → (not fitting || (named || before)) ≡ true
unfit fitting named before is = rw is refl

by_name : (fitting named before : Bool) → named ≡ true → (not fitting || (named || before)) ≡ true
by_name true named before is = rw is refl
by_name false named before is = refl

by_order : (fitting named before : Bool) → before ≡ true → (not fitting || (named || before)) ≡ true
by_order true true before is = refl
by_order true false before is = is
by_order false named before is = refl

-- one that is there, fits, and goes ahead of all
record IsForemost (ue : Addr) (header : Header) (rules : List Active) : Type 0 where
  rule : Active
  there : Contains rules rule
  fitting : fits ue header rule ≡ true
  leads : (s : Active) → Contains rules s → goes_ahead_of ue header rule s ≡ true

-- a rule goes ahead of itself
self : (ue : Addr) (header : Header) (r : Active) → goes_ahead_of ue header r r ≡ true
self ue header r = by_name (fits ue header r) (is_named r.properties.name r) (is_before r r) (same_name_of r.properties.name r.properties.name refl)

-- where x goes before the foremost of others, it goes ahead of each of them
before_all : (ue : Addr) (header : Header) (x : Active) (xs : List Active) (best : IsForemost ue header xs) → NamesOnce xs → is_before x best.rule ≡ true →
    (s : Active) → Contains xs s → goes_ahead_of ue header x s ≡ true
before_all ue header x xs best once before s there =
    elim (cases_Bool (fits ue header s)) [
      | inr isnt ↦ unfit (fits ue header s) (is_named x.properties.name s) (is_before x s) isnt
      | inl fit ↦
          let ahead : goes_ahead_of ue header best.rule s ≡ true = best.leads s there in
          let or : (is_named best.rule.properties.name s || is_before best.rule s) ≡ true = rw fit at ahead in
          by_order (fits ue header s) (is_named x.properties.name s) (is_before x s)
          (elim (cases_Bool (is_named best.rule.properties.name s)) [
            | inl named ↦
                let same : best.rule ≡ s = once_is xs best.rule s once best.there there (sym (same_name_is s.properties.name best.rule.properties.name named)) in
                subst (λ (r : Active). is_before x r ≡ true) same before
            | inr other ↦ let later : is_before best.rule s ≡ true = rw other at or in before_later (rank_of x) (rank_of best.rule) (rank_of s) before later
          ])
    ]

-- of two rules of different names the one that doesn't go first goes behind
behind : (a b : Active) → is_named a.properties.name b ≡ false → is_before a b ≡ false → is_before b a ≡ true
behind a b differ isnt =
    elim (one_goes_first (rank_of a) (rank_of b) (λ is. contrary (is_named a.properties.name b) (same_name_of b.properties.name a.properties.name (sym is)) differ)) [
      | inl first ↦ contrary (is_before a b) first.0 isnt
      | inr second ↦ second.1
    ]

-- with one more before them
with_head : (ue : Addr) (header : Header) (x : Active) (xs : List Active) → IsForemost ue header xs → NamesOnce (x ∷ xs) → IsForemost ue header (x ∷ xs)
unfolding Once
with_head ue header x xs best once =
    let later : (s : Active) → goes_ahead_of ue header best.rule x ≡ true → Contains (x ∷ xs) s → goes_ahead_of ue header best.rule s ≡ true =
    λ s ahead there. elim (there_cases x xs s there) [
      | inl same ↦ subst (λ (r : Active). goes_ahead_of ue header best.rule r ≡ true) same ahead
      | inr within ↦ best.leads s within
    ] in
    let stays : goes_ahead_of ue header best.rule x ≡ true → IsForemost ue header (x ∷ xs) =
    λ ahead. record { rule = best.rule; there = later_there x xs best.rule best.there; fitting = best.fitting; leads = λ s there. later s ahead there } in
    elim (cases_Bool (fits ue header x)) [
      | inr isnt ↦ stays (unfit (fits ue header x) (is_named best.rule.properties.name x) (is_before best.rule x) isnt)
      | inl fit ↦ elim (cases_Bool (is_before x best.rule)) [
        | inl before ↦ record {
          rule = x;
          there = first_there x xs;
          fitting = fit;
          leads = λ s there. elim (there_cases x xs s there) [
            | inl same ↦ subst (λ (r : Active). goes_ahead_of ue header x r ≡ true) same (self ue header x)
            | inr within ↦ before_all ue header x xs best once.1 before s within
          ];
        }
        | inr isnt ↦
            let differ : is_named x.properties.name best.rule ≡ false = apart x xs best.rule once.0 best.there in
            stays (by_order (fits ue header x) (is_named best.rule.properties.name x) (is_before best.rule x) (behind x best.rule differ isnt))
      ]
    ]
  where
    apart : (x : Active) (xs : List Active) (b : Active) → list_any (is_named x.properties.name) xs ≡ false → Contains xs b → is_named x.properties.name b ≡ false
    apart x xs b none there =
        elim (cases_Bool (is_named x.properties.name b)) [
          | inl same ↦ contrary (list_any (is_named x.properties.name) xs) (any_from (is_named x.properties.name) xs b there same) none
          | inr differ ↦ differ
        ]

foremost : (ue : Addr) (header : Header) (rules : List Active) → NamesOnce rules → list_any (fits ue header) rules ≡ true → IsForemost ue header rules
unfolding Once
foremost ue header [] once any = absurd cc
foremost ue header (x ∷ xs) once any =
    elim (cases_Bool (list_any (fits ue header) xs)) [
      | inl later ↦ with_head ue header x xs (foremost ue header xs once.1 later) once
      | inr none ↦
          let fit : fits ue header x ≡ true = first (fits ue header x) (list_any (fits ue header) xs) none any in
          record {
            rule = x;
            there = first_there x xs;
            fitting = fit;
            leads = λ s there. elim (there_cases x xs s there) [
              | inl same ↦ subst (λ (r : Active). goes_ahead_of ue header x r ≡ true) same (self ue header x)
              | inr within ↦ elim (cases_Bool (fits ue header s)) [
                | inl fits_too ↦ contrary (list_any (fits ue header) xs) (any_from (fits ue header) xs s within fits_too) none
                | inr isnt ↦ unfit (fits ue header s) (is_named x.properties.name s) (is_before x s) isnt
              ]
            ];
          }
    ]
  where
    first : (a b : Bool) → b ≡ false → (a || b) ≡ true → a ≡ true
    first true b none any = refl
    first false b none any = contrary b any none

-- ---- the rule that decides
pub one_decides : (rules : List Active) (ue : Addr) (header : Header) → NamesOnce rules →
    (decisive rules ue header ≡ None) ↔ ((r : Active) → Contains rules r → fits ue header r ≡ false)
one_decides rules ue header once = (forth, back)
  where
    forth : decisive rules ue header ≡ None → (r : Active) → Contains rules r → fits ue header r ≡ false
    forth none r there =
        elim (cases_Bool (fits ue header r)) [
          | inr unfits ↦ unfits
          | inl fit ↦
              let best = foremost ue header rules once (any_from (fits ue header) rules r there fit) in
              let all : list_all (goes_ahead_of ue header best.rule) rules ≡ true = all_from (goes_ahead_of ue header best.rule) rules best.leads in
              let is : is_decisive rules ue header best.rule ≡ true = rw (best.fitting, all) refl in
              let found = find_some (is_decisive rules ue header) rules best.rule best.there is in
              absurd (let e = found.1 in cc)
        ]

    back : ((r : Active) → Contains rules r → fits ue header r ≡ false) → decisive rules ue header ≡ None
    back none = find_none (is_decisive rules ue header) rules (λ r there. let unfits = none r there in rw unfits refl)
