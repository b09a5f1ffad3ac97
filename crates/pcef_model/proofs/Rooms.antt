-- The rates of a session that has a room in a pool.
use Rattle.std.proofs.Common.{◌≡◌, ◌∙◌, ◌≤◌, ◌+◌, ℕ, true, false, not, List, [], ◌∷◌, sym, ap, subst, arith, inl, inr, refl, filter, None, Some, nat_lt}
use Rattle.std.specs.Prelude.{Option}
use Rattle.std.proofs.lemmas.Bool.{cases_Bool, ltb-false}
use Rattle.pcef_rule.specs.declared.quantity.Sums.{Sums}
use Rattle.pcef_model.specs.declared.command.Command.{Command}
use Rattle.pcef_model.specs.declared.command.Command.TheVariants.{Install, Activate, Remove, Monitor, Stop, ReportNow, Triggers, Notice, LoseBearer, Close, Terminate}
use Rattle.pcef_model.specs.declared.answer.Refusal.TheVariants as refusal
use Rattle.pcef_model.specs.Setting.{Setting}
use Rattle.pcef_model.specs.ActiveRules.{Active, without}
use Rattle.pcef_model.specs.Bearers.{rate_down, rate_up}
use Rattle.pcef_model.specs.Commands.{activated, is_table}
use Rattle.pcef_model.specs.Entries.{Journal}
use Rattle.pcef_model.specs.Generations.{Generation, made_by, rules_after, stays}
use Rattle.pcef_model.specs.Journals.{now, tables}
use Rattle.pcef_model.specs.Laws.{IsInRoom}
use Rattle.pcef_model.specs.Outcomes.{changes}
use Rattle.pcef_model.specs.Refusals.{first_of, is_active, over_room, refusals, refusals_within, room_refusals, total, total_after, total_down, total_now, total_up}
use Rattle.pcef_model.specs.Reports.{after_command}
use Rattle.pcef_model.proofs.Acceptance.{condition_none, conditions_none}
use Rattle.pcef_model.proofs.AfterEvents.{now_after, tables_after}
use Rattle.pcef_model.proofs.Capacity.{fewer_down, fewer_up, put_down, put_up}
use Rattle.pcef_model.proofs.Decisive.{made_once}
use Rattle.pcef_model.proofs.Growth.{now_after_table, tables_of_other}
use Rattle.pcef_model.proofs.RulesAfter.{rule_change, rules_left, rules_put}

-- what is accepted in a room is accepted without it
pub accepted_within : (p : Setting) (j : Journal) (c : Command) (room : Option Sums) → first_of (refusals_within p j c room) ≡ None → first_of (refusals p j c) ≡ None
accepted_within p j c None none = none
accepted_within p j c (Some room) none = (conditions_none (refusals p j c) (room_refusals p j c room) none).0

not_over : (room rates : Sums) → first_of (over_room room rates) ≡ None → IsInRoom rates room
not_over room rates none =
    let up = condition_none (nat_lt room.up rates.up) refusal.PoolUp ((nat_lt room.down rates.down, refusal.PoolDown) ∷ []) none in
    let down = condition_none (nat_lt room.down rates.down) refusal.PoolDown [] up.1 in
    record { up = ltb-false room.up rates.up up.0; down = ltb-false room.down rates.down down.0 }

not_active : (p : Setting) (j : Journal) (name : List ℕ) → changes p j (Activate name) ≡ true → is_active p j name ≡ false
not_active p j name changing =
    elim (cases_Bool (is_active p j name)) [
      | inl is ↦ absurd (let no : not true ≡ true = rw is at changing in cc)
      | inr isnt ↦ isnt
    ]

-- a command that makes a rule active and isn't refused leaves the rates within the room
active_fits : (p : Setting) (j : Journal) (c : Command) (room : Sums) (r : Active) → activated p c ≡ Some r → changes p j c ≡ true → first_of (room_refusals p j c room) ≡ None →
    IsInRoom (total_after p j c) room
active_fits p j (Install rule) room r is changing none = not_over room (total_after p j (Install rule)) none
active_fits p j (Activate name) room r is changing none = not_over room (total_after p j (Activate name)) (rw (not_active p j name changing) at none)
active_fits p j (Remove name) room r is changing none = absurd cc
active_fits p j (Monitor key amount level) room r is changing none = absurd cc
active_fits p j (Stop key) room r is changing none = absurd cc
active_fits p j (ReportNow key) room r is changing none = absurd cc
active_fits p j (Triggers set) room r is changing none = absurd cc
active_fits p j (Notice kind value) room r is changing none = absurd cc
active_fits p j (LoseBearer id) room r is changing none = absurd cc
active_fits p j Close room r is changing none = absurd cc
active_fits p j Terminate room r is changing none = absurd cc

-- one that makes none active leaves no more
left_fits : (p : Setting) (j : Journal) (c : Command) (room : Sums) → activated p c ≡ None → IsInRoom (total_now p j) room → IsInRoom (total_after p j c) room
left_fits p j c room none before =
    subst (λ rules. IsInRoom (total rules) room) (sym (rules_left p (now p j) c none))
    (record {
      up = omega (arith, before.up, fewer_up (stays (now p j) c) (now p j).rules);
      down = omega (arith, before.down, fewer_down (stays (now p j) c) (now p j).rules);
    })

-- the rates after a command
pub total_of_next : (p : Setting) (j : Journal) (c : Command) → is_table c ≡ true → total_now p (after_command p j c) ≡ total_after p j c
total_of_next p j c is = ap (λ (g : Generation). total g.rules) (now_after p j c ∙ now_after_table p j c is)

pub total_of_other : (p : Setting) (j : Journal) (c : Command) → is_table c ≡ false → total_now p (after_command p j c) ≡ total_now p j
total_of_other p j c isnt = ap (λ cs. total (made_by p cs).rules) (tables_after p j c ∙ tables_of_other j c isnt)

-- where the table commands stay, so do the rates
pub total_same : (p : Setting) (j k : Journal) → tables k ≡ tables j → total_now p k ≡ total_now p j
total_same p j k same = ap (λ cs. total (made_by p cs).rules) same

pub total_fits : (p : Setting) (j : Journal) (c : Command) (room : Sums) → first_of (refusals_within p j c (Some room)) ≡ None → changes p j c ≡ true →
    IsInRoom (total_now p j) room → IsInRoom (total_now p (after_command p j c)) room
total_fits p j c room none changing before =
    let fits : IsInRoom (total_after p j c) room =
    elim (rule_change p c) [
      | inl makes ↦ active_fits p j c room makes.0 makes.1 changing (conditions_none (refusals p j c) (room_refusals p j c room) none).1
      | inr isnt ↦ left_fits p j c room isnt before
    ] in
    elim (cases_Bool (is_table c)) [
      | inl is ↦ subst (λ rates. IsInRoom rates room) (sym (total_of_next p j c is)) fits
      | inr isnt ↦ subst (λ rates. IsInRoom rates room) (sym (total_of_other p j c isnt)) before
    ]

-- a rule that a command makes active adds its rates to those of the others
pub total_put : (p : Setting) (j : Journal) (c : Command) (r : Active) → activated p c ≡ Some r →
    total_after p j c
    ≡ record {
      up = total_up (without r.properties.name (now p j).rules) + rate_up r.properties.rates;
      down = total_down (without r.properties.name (now p j).rules) + rate_down r.properties.rates;
    }
total_put p j c r is =
    let once = made_once p (tables j) in
    ap total (rules_put p (now p j) c r is) ∙ rw (put_up r (now p j).rules once, put_down r (now p j).rules once) refl
