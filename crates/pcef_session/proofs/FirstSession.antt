-- A session that is opened agrees with the empty journal, and goes on agreeing as workers are attached
-- and leave.
use Rattle.std.proofs.Common.{◌≡◌, ℕ, Bool, List, [], refl, sym, ap, subst, arith, inl, Contains, None, true, false, map}
use Rattle.std.specs.Prelude.{◌↔◌, Err, IsOk, Ok, Option, Result, Some}
use Rattle.std.specs.List.{AllByRecursion}
use Rattle.std.specs.Result.{result_err}
use Rattle.pcef_rule.specs.declared.qci.Kind.{Kind}
use Rattle.pcef_rule.specs.declared.qci.Kind.TheVariants as kind
use Rattle.pcef_rule.specs.QciKinds.{kind_of}
use Rattle.pcef_model.specs.declared.answer.OpenFault.{OpenFault}
use Rattle.pcef_model.specs.declared.answer.OpenFault.TheVariants as fault
use Rattle.pcef_model.specs.Outcomes.{Opens}
use Rattle.pcef_table.specs.declared.entry.TableEntry.{TableEntry}
use Rattle.pcef_table.specs.declared.entry.Source.{Source}
use Rattle.pcef_table.specs.Tables.{TableValue}
use Rattle.pcef_table.proofs.Ordered.{empty_is_table}
use Rattle.pcef_model.specs.declared.trigger.TriggerSet.{TriggerSet}
use Rattle.pcef_model.specs.Setting.{Setting}
use Rattle.pcef_model.specs.Generations.{at_first as before_all, made_by, oldest, slots_of}
use Rattle.pcef_model.specs.Entries.{Journal}
use Rattle.pcef_model.specs.Journals.{gen, grant, no_triggers, reported, subscribed}
use Rattle.pcef_model.specs.Reports.{after_attach, after_leave}
use Rattle.pcef_usage.specs.declared.usage.KeyState.{KeyState}
use Rattle.pcef_usage.proofs.Tells.{all_same}
use Rattle.pcef_session.specs.private.Parts.{Agrees, Parts}
use Rattle.pcef_session.specs.Agreement.{AreKept, KeyAgrees}
use Rattle.pcef_bearer.specs.Standing.{binding_of}
use Rattle.pcef_model.specs.Lawful.{at_first, by_attach, by_leave}
use Rattle.pcef_model.specs.Refusals.{attach_faults, first_of, is_attached}
use Rattle.pcef_session.specs.Shown.{Shows, ShowsSessionKeys}
use Rattle.pcef_session.proofs.SessionKeys.{ShowsByKey, by_slot}
use Rattle.pcef_table.specs.SessionSlots.{no_slots}
use Rattle.pcef_session.proofs.ShownLater.{shows_same}

-- ---- opening
-- the bearers are made exactly where no fault is found
pub opens_as_made : {B : Type 0} (p : Setting) (r : Result B OpenFault) →
    ((r ≡ Err fault.UnknownQci) ↔ (kind_of p.qcis p.default_qos.qci.0 ≡ None)) →
    ((r ≡ Err fault.DefaultIsGbr) ↔ (kind_of p.qcis p.default_qos.qci.0 ≡ Some kind.Gbr)) →
    (IsOk r ↔ (kind_of p.qcis p.default_qos.qci.0 ≡ Some kind.NonGbr)) → Opens p (result_err r)
opens_as_made {B} p r unknown gbr accepted = from (kind_of p.qcis p.default_qos.qci.0) refl
  where
    from : (k : Option Kind) → kind_of p.qcis p.default_qos.qci.0 ≡ k → Opens p (result_err r)
    from None is = rw (unknown.1 is) (inl (rw is refl))
    from (Some kind.Gbr) is = rw (gbr.1 is) (inl (rw is refl))
    from (Some kind.NonGbr) is = made r (accepted.1 is)
      where
        made : (s : Result B OpenFault) → IsOk s → Opens p (result_err s)
        made (Ok b) ok = rw is refl
        made (Err f) ok = absurd cc

flags_first : (usage rat plmn location zone : Bool) → usage ≡ false → rat ≡ false → plmn ≡ false → location ≡ false → zone ≡ false →
    record { usage_report = usage; rat_change = rat; plmn_change = plmn; user_location_change = location; ue_time_zone_change = zone } ≡ no_triggers
flags_first usage rat plmn location zone a b c d e = rw (a, b, c, d, e) refl

pub triggers_first : (t : TriggerSet) → t.usage_report ≡ false → t.rat_change ≡ false → t.plmn_change ≡ false → t.user_location_change ≡ false → t.ue_time_zone_change ≡ false → t ≡ no_triggers
triggers_first t usage rat plmn location zone =
    flags_first t.usage_report t.rat_change t.plmn_change t.user_location_change t.ue_time_zone_change usage rat plmn location zone

first_by_key : (p : Setting) → ShowsByKey p [] 0 no_slots
unfolding made_by oldest slots_of
first_by_key p = record { eight = refl; within = tt; on_is = λ key. refl }

session_first : (p : Setting) → ShowsSessionKeys p [] 0 no_slots
session_first p = by_slot p [] 0 no_slots (first_by_key p)

shows_first : (p : Setting) (t : TableValue) → t.number ≡ 0 → t.entries ≡ [] → t.session ≡ no_slots → Shows p [] 0 t
unfolding made_by oldest
shows_first p t number entries flags = record {
  number_is = number;
  ordered = empty_is_table p.catalog t.entries entries;
  session = subst (ShowsSessionKeys p [] 0) (sym flags) (session_first p);
  each = λ r there. absurd (omega (arith, there.1));
  only = λ e there. let none : Contains [] e = subst (λ (es : List TableEntry). Contains es e) entries there in absurd (omega (arith, none.1));
}

pub agrees_first : (p : Setting) (parts : Parts) → parts.rules ≡ [] → parts.binding ≡ binding_of p before_all → parts.keys ≡ [] → parts.triggers ≡ no_triggers →
    parts.table.number ≡ 0 → parts.table.entries ≡ [] → parts.table.session ≡ no_slots → Agrees p [] parts
unfolding made_by slots_of subscribed
agrees_first p parts rules binding keys triggers number entries flags = record {
  lawful = at_first;
  rules_are = subst (λ (kept : List (List ℕ × Source)). AreKept p.catalog kept []) (sym rules) tt;
  binding_is = binding;
  keys_are = ap (λ (states : List KeyState). map (λ s. s.key) states) keys;
  usage_is = subst (AllByRecursion (KeyAgrees p [])) (sym keys) tt;
  triggers_are = triggers;
  table_shows = shows_first p parts.table number entries flags;
}

pub agrees_attached : (p : Setting) (j : Journal) (parts : Parts) → Agrees p j parts → first_of (attach_faults j) ≡ None → Agrees p (after_attach j) parts
unfolding grant reported subscribed
agrees_attached p j parts agrees accepted = record {
  lawful = by_attach j agrees.lawful accepted;
  rules_are = agrees.rules_are;
  binding_is = agrees.binding_is;
  keys_are = agrees.keys_are;
  usage_is = all_same (KeyAgrees p j) (KeyAgrees p (after_attach j)) parts.keys
      (λ s h. record { level_is = h.level_is; on_is = h.on_is; grant_is = h.grant_is; reported_is = h.reported_is; counted_is = h.counted_is }) agrees.usage_is;
  triggers_are = agrees.triggers_are;
  table_shows = shows_same p j (after_attach j) (gen j) parts.table refl agrees.table_shows;
}

pub agrees_left : (p : Setting) (j : Journal) (worker : ℕ) (parts : Parts) → Agrees p j parts → is_attached j worker ≡ true → Agrees p (after_leave worker j) parts
unfolding grant reported subscribed
agrees_left p j worker parts agrees is = record {
  lawful = by_leave j worker agrees.lawful is;
  rules_are = agrees.rules_are;
  binding_is = agrees.binding_is;
  keys_are = agrees.keys_are;
  usage_is = all_same (KeyAgrees p j) (KeyAgrees p (after_leave worker j)) parts.keys
      (λ s h. record { level_is = h.level_is; on_is = h.on_is; grant_is = h.grant_is; reported_is = h.reported_is; counted_is = h.counted_is }) agrees.usage_is;
  triggers_are = agrees.triggers_are;
  table_shows = shows_same p j (after_leave worker j) (gen j) parts.table refl agrees.table_shows;
}
