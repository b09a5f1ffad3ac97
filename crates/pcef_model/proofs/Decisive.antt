-- Each active rule has a name of its own, and one rule decides on a packet.
use Rattle.std.proofs.Common.{◌≡◌, ◌∙◌, suc, zero, true, false, ◌||◌, List, [], ◌∷◌, sym, ap, arith, inl, inr, Contains, subst}
use Rattle.std.specs.Prelude.{◌⊎◌}
use Rattle.std.specs.List.{list_any, list_all}
use Rattle.std.proofs.lemmas.Bool.{cases_Bool, and_parts, or_cases}
use Rattle.pcef_packet.specs.declared.header.Addr.{Addr}
use Rattle.pcef_packet.specs.declared.header.Header.{Header}
use Rattle.pcef_rule.specs.Precedence.{Rank, goes_before}
use Rattle.pcef_rule.proofs.OrderOfRules.{one_goes_first}
use Rattle.pcef_model.specs.declared.command.Command.{Command}
use Rattle.pcef_model.specs.Setting.{Setting, same_name}
use Rattle.pcef_model.specs.Generations.{Generation, made_by, rules_after, stays}
use Rattle.pcef_model.proofs.RulesAfter.{rule_change, rules_left, rules_put}
use Rattle.pcef_model.specs.ActiveRules.{Active, decisive, fits, goes_ahead_of, is_before, is_decisive, is_named, rank_of}
use Rattle.pcef_base.proofs.Tests.{contrary}
use Rattle.pcef_model.proofs.Sameness.{same_name_is, same_name_of}
use Rattle.pcef_model.proofs.BoundRules.{NamesOnce}
use Rattle.pcef_model.proofs.Names.{Once, filter_once, put_once}
use Rattle.pcef_base.proofs.Found.{all_at, any_from}

-- ---- names
-- in a list with each name once, two rules of one name are one
pub once_is : (rules : List Active) (r s : Active) → NamesOnce rules → Contains rules r → Contains rules s → r.properties.name ≡ s.properties.name → r ≡ s
unfolding Once
once_is [] r s once (k, within, is) there name_is = absurd (omega arith)
once_is (x ∷ rules) r s once (zero, within, is) (zero, within2, is2) name_is = sym is ∙ is2
once_is (x ∷ rules) r s once (zero, within, is) (suc k, within2, is2) name_is =
    contrary (list_any (is_named x.properties.name) rules)
    (any_from (is_named x.properties.name) rules s (k, omega arith, is2) (same_name_of s.properties.name x.properties.name (sym (ap (λ (y : Active). y.properties.name) is ∙ name_is)))) once.0
once_is (x ∷ rules) r s once (suc k, within, is) (zero, within2, is2) name_is =
    contrary (list_any (is_named x.properties.name) rules)
    (any_from (is_named x.properties.name) rules r (k, omega arith, is) (same_name_of r.properties.name x.properties.name (name_is ∙ sym (ap (λ (y : Active). y.properties.name) is2)))) once.0
once_is (x ∷ rules) r s once (suc k, within, is) (suc m, within2, is2) name_is =
    once_is rules r s once.1 (k, omega arith, is) (m, omega arith, is2) name_is

-- the rules of a generation have each name once
pub made_once : (p : Setting) (cs : List Command) → NamesOnce (made_by p cs).rules
unfolding made_by Once
made_once p [] = tt
made_once p (c ∷ cs) = next_once p (made_by p cs) c (made_once p cs)
  where
    next_once : (p : Setting) (g : Generation) (c : Command) → NamesOnce g.rules → NamesOnce (rules_after p g c)
    next_once p g c once =
        elim (rule_change p c) [
          | inl makes ↦ subst NamesOnce (sym (rules_put p g c makes.0 makes.1)) (put_once (λ (r : Active). r.properties.name) makes.0 g.rules once)
          | inr none ↦ subst NamesOnce (sym (rules_left p g c none)) (filter_once (λ (r : Active). r.properties.name) (stays g c) g.rules once)
        ]

-- ---- which rule decides
-- no two rules of different names go before each other
both_ways : {A : Type 0} (a b : Rank) → same_name a.name b.name ≡ false → goes_before a b ≡ true → goes_before b a ≡ true → A
both_ways a b differ one other =
    elim (one_goes_first a b (λ is. contrary (same_name a.name b.name) (same_name_of a.name b.name is) differ)) [
      | inl first ↦ contrary (goes_before b a) other first.1
      | inr second ↦ contrary (goes_before a b) one second.0
    ]

-- what a rule that fits does to a decisive one
ahead : (rules : List Active) (ue : Addr) (header : Header) (r s : Active) → Contains rules s → is_decisive rules ue header r ≡ true → fits ue header s ≡ true →
    (is_named r.properties.name s ≡ true) ⊎ (is_before r s ≡ true)
ahead rules ue header r s there decisive fitting =
    let goes : goes_ahead_of ue header r s ≡ true =
    all_at (goes_ahead_of ue header r) rules s (and_parts (fits ue header r) (list_all (goes_ahead_of ue header r) rules) decisive).1 there in
    let or : (is_named r.properties.name s || is_before r s) ≡ true = rw fitting at goes in
    or_cases (is_named r.properties.name s) (is_before r s) or

-- two decisive rules are one
pub decisive_once : (rules : List Active) (ue : Addr) (header : Header) (r s : Active) → NamesOnce rules → Contains rules r → Contains rules s →
    is_decisive rules ue header r ≡ true → is_decisive rules ue header s ≡ true → s ≡ r
decisive_once rules ue header r s once r_there s_there r_is s_is =
    let r_fits : fits ue header r ≡ true = (and_parts (fits ue header r) (list_all (goes_ahead_of ue header r) rules) r_is).0 in
    let s_fits : fits ue header s ≡ true = (and_parts (fits ue header s) (list_all (goes_ahead_of ue header s) rules) s_is).0 in
    elim (cases_Bool (same_name r.properties.name s.properties.name)) [
      | inl same ↦ once_is rules s r once s_there r_there (sym (same_name_is r.properties.name s.properties.name same))
      | inr differ ↦ elim (ahead rules ue header r s s_there r_is s_fits) [
        | inl named ↦ once_is rules s r once s_there r_there (same_name_is s.properties.name r.properties.name named)
        | inr before ↦ elim (ahead rules ue header s r r_there s_is r_fits) [
          | inl named ↦ once_is rules s r once s_there r_there (sym (same_name_is r.properties.name s.properties.name named))
          | inr behind ↦ both_ways (rank_of r) (rank_of s) differ before behind
        ]
      ]
    ]
