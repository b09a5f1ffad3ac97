-- Names and pairs of QCI and ARP are the same where they are equal.
use Rattle.std.proofs.Common.{◌≡◌, ◌∙◌, ◌==◌, ◌&&◌, ℕ, Bool, true, false, true≢false, List, inl, inr, refl, sym, subst}
use Rattle.std.proofs.lemmas.Bool.{and_from, and_parts, cases_Bool, false_from_ne_true}
use Rattle.std.proofs.lemmas.Bool.Decides.{Decides-eqb}
use Rattle.std.proofs.lemmas.Slice.Eq.{bytes_eq-Decides}
use Rattle.pcef_base.proofs.Tests.{contrary}
use Rattle.pcef_rule.specs.declared.quantity.Qos.{Qos}
use Rattle.pcef_model.specs.Setting.{same_flag, same_name, same_qos}

-- ---- names
pub same_name_is : (a b : List ℕ) → same_name a b ≡ true → a ≡ b
same_name_is a b same = (bytes_eq-Decides a b).0 same

pub same_name_of : (a b : List ℕ) → a ≡ b → same_name a b ≡ true
same_name_of a b is = (bytes_eq-Decides a b).1 is

pub same_name_self : (a : List ℕ) → same_name a a ≡ true
same_name_self a = same_name_of a a refl

pub same_name_turned : (a b : List ℕ) → same_name a b ≡ true → same_name b a ≡ true
same_name_turned a b same = same_name_of b a (sym (same_name_is a b same))

pub same_name_not : (a b : List ℕ) → same_name a b ≡ false → same_name b a ≡ false
same_name_not a b isnt = false_from_ne_true (same_name b a) (λ back. contrary (same_name a b) (same_name_turned b a back) isnt)

-- ---- pairs of QCI and ARP
same_flag_is : (a b : Bool) → same_flag a b ≡ true → a ≡ b
same_flag_is true b same = sym same
same_flag_is false true same = absurd (true≢false (sym same))
same_flag_is false false same = refl

same_flag_self : (a : Bool) → same_flag a a ≡ true
same_flag_self true = refl
same_flag_self false = refl

abbrev pair_of : ℕ → ℕ → Bool → Bool → Qos
pair_of q l c v = record { qci = record { 0 = q }; arp = record { level = l; capability = c; vulnerability = v } }

pub same_qos_is : (a b : Qos) → same_qos a b ≡ true → a ≡ b
same_qos_is a b same =
    let last = and_parts (((a.qci.0 == b.qci.0) && (a.arp.level == b.arp.level)) && same_flag a.arp.capability b.arp.capability)
    (same_flag a.arp.vulnerability b.arp.vulnerability) same in
    let third = and_parts ((a.qci.0 == b.qci.0) && (a.arp.level == b.arp.level)) (same_flag a.arp.capability b.arp.capability) last.0 in
    let both = and_parts (a.qci.0 == b.qci.0) (a.arp.level == b.arp.level) third.0 in
    alike a.qci.0 b.qci.0 a.arp.level b.arp.level a.arp.capability b.arp.capability a.arp.vulnerability b.arp.vulnerability
    ((Decides-eqb a.qci.0 b.qci.0).0 both.0) ((Decides-eqb a.arp.level b.arp.level).0 both.1)
    (same_flag_is a.arp.capability b.arp.capability third.1) (same_flag_is a.arp.vulnerability b.arp.vulnerability last.1)
  where
    alike : (q q2 l l2 : ℕ) (c c2 v v2 : Bool) → q ≡ q2 → l ≡ l2 → c ≡ c2 → v ≡ v2 → pair_of q l c v ≡ pair_of q2 l2 c2 v2
    alike q q2 l l2 c c2 v v2 qs ls cs vs = rw (qs, ls, cs, vs) refl

pub same_qos_self : (a : Qos) → same_qos a a ≡ true
same_qos_self a =
    and_from (((a.qci.0 == a.qci.0) && (a.arp.level == a.arp.level)) && same_flag a.arp.capability a.arp.capability)
    (same_flag a.arp.vulnerability a.arp.vulnerability)
    (and_from ((a.qci.0 == a.qci.0) && (a.arp.level == a.arp.level)) (same_flag a.arp.capability a.arp.capability)
    (and_from (a.qci.0 == a.qci.0) (a.arp.level == a.arp.level)
    ((Decides-eqb a.qci.0 a.qci.0).1 refl) ((Decides-eqb a.arp.level a.arp.level).1 refl))
    (same_flag_self a.arp.capability))
    (same_flag_self a.arp.vulnerability)

pub same_qos_of : (a b : Qos) → a ≡ b → same_qos a b ≡ true
same_qos_of a b is = subst (λ (c : Qos). same_qos a c ≡ true) is (same_qos_self a)

pub same_qos_sym : (a b : Qos) → same_qos a b ≡ same_qos b a
same_qos_sym a b =
    elim (cases_Bool (same_qos a b)) [
      | inl is ↦ is ∙ sym (same_qos_of b a (sym (same_qos_is a b is)))
      | inr isnt ↦
          isnt ∙ sym (false_from_ne_true (same_qos b a) (λ back. contrary (same_qos a b) (same_qos_of a b (sym (same_qos_is b a back))) isnt))
    ]
