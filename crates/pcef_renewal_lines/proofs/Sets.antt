-- Whether two sets of event triggers are the same.
use Rattle.std.proofs.Common.{◌≡◌, ◌∙◌, ◌↔◌, Bool, IsTrue, ap, false, refl, subst, sym, true}
use Rattle.std.specs.Prelude.{◌&&◌}
use Rattle.std.proofs.lemmas.Bool.{false≢true}
use Rattle.std.specs.Bool.{beq}
use Rattle.pcef_model.specs.declared.command.Command.TheVariants.{Triggers}
use Rattle.pcef_model.specs.declared.trigger.TriggerSet.{TriggerSet}

same_flag : (a b : Bool) → IsTrue (beq a b) → a ≡ b
same_flag true true is = refl
same_flag true false is = absurd (false≢true is)
same_flag false true is = absurd (false≢true is)
same_flag false false is = refl

first_of_both : (a b : Bool) → IsTrue (a && b) → IsTrue a
first_of_both true b is = refl
first_of_both false b is = absurd (false≢true is)

second_of_both : (a b : Bool) → IsTrue (a && b) → IsTrue b
second_of_both true b is = is
second_of_both false b is = absurd (false≢true is)

own_flag : (a : Bool) → beq a a ≡ true
own_flag true = refl
own_flag false = refl

abbrev pub tests : TriggerSet → TriggerSet → Bool
tests x y =
    beq x.usage_report y.usage_report && (beq x.rat_change y.rat_change && (beq x.plmn_change y.plmn_change
    && (beq x.user_location_change y.user_location_change && beq x.ue_time_zone_change y.ue_time_zone_change)))

same_set : (x y : TriggerSet) → IsTrue (tests x y) → x ≡ y
same_set x y is =
    let four = second_of_both (beq x.usage_report y.usage_report) _ is in
    let three = second_of_both (beq x.rat_change y.rat_change) _ four in
    let two = second_of_both (beq x.plmn_change y.plmn_change) _ three in
    let usage : x.usage_report ≡ y.usage_report = same_flag x.usage_report y.usage_report (first_of_both _ _ is) in
    let rat : x.rat_change ≡ y.rat_change = same_flag x.rat_change y.rat_change (first_of_both _ _ four) in
    let plmn : x.plmn_change ≡ y.plmn_change = same_flag x.plmn_change y.plmn_change (first_of_both _ _ three) in
    let place : x.user_location_change ≡ y.user_location_change = same_flag x.user_location_change y.user_location_change (first_of_both _ _ two) in
    let zone : x.ue_time_zone_change ≡ y.ue_time_zone_change = same_flag x.ue_time_zone_change y.ue_time_zone_change (second_of_both (beq x.user_location_change y.user_location_change) _ two) in
    ap (λ (u : Bool). record x { usage_report = u }) usage ∙ ap (λ (u : Bool). record x { usage_report = y.usage_report; rat_change = u }) rat
    ∙ ap (λ (u : Bool). record y { plmn_change = u; user_location_change = x.user_location_change; ue_time_zone_change = x.ue_time_zone_change }) plmn
    ∙ ap (λ (u : Bool). record y { user_location_change = u; ue_time_zone_change = x.ue_time_zone_change }) place ∙ ap (λ (u : Bool). record y { ue_time_zone_change = u }) zone

passes : (x : TriggerSet) → tests x x ≡ true
passes x = rw (own_flag x.usage_report, own_flag x.rat_change, own_flag x.plmn_change, own_flag x.user_location_change, own_flag x.ue_time_zone_change) refl

pub sets_agree : (x y : TriggerSet) (b : Bool) → b ≡ tests x y → IsTrue b ↔ (x ≡ y)
sets_agree x y b is = (
  λ yes. same_set x y (subst IsTrue is yes),
  λ same. subst IsTrue (sym (is ∙ ap (λ (z : TriggerSet). tests z y) same ∙ passes y)) refl,
)

pub the_set : (x y : TriggerSet) → Triggers x ≡ Triggers y → x ≡ y
the_set x y is = cc
