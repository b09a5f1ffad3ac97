-- A session that has a room in a pool.
use Rattle.std.proofs.Common.{◌≡◌, ◌∙◌, ℕ, true, false, List, refl, sym, ap, inl, inr, Some, None, Err, Ok}
use Rattle.std.specs.Prelude.{Option}
use Rattle.std.specs.Option.{option_map}
use Rattle.pcef_rule.specs.declared.quantity.Sums.{Sums}
use Rattle.pcef_rule.specs.declared.rule.Properties.{Properties}
use Rattle.pcef_rule.specs.Definition.{Definition}
use Rattle.pcef_catalog.specs.declared.listing.Offer.{Offer}
use Rattle.pcef_model.specs.declared.answer.Accepted.{Accepted}
use Rattle.pcef_model.specs.declared.answer.Refusal.{Refusal}
use Rattle.pcef_model.specs.declared.answer.Refusal.TheVariants as refusal
use Rattle.pcef_model.specs.declared.command.Command.{Command}
use Rattle.pcef_model.specs.declared.command.Command.TheVariants.{Activate, Install}
use Rattle.pcef_model.specs.ActiveRules.{dynamic, predefined, without}
use Rattle.pcef_model.specs.Commands.{activated}
use Rattle.pcef_model.specs.Entries.{Journal}
use Rattle.pcef_model.specs.Generations.{Generation}
use Rattle.pcef_model.specs.Journals.{now}
use Rattle.pcef_model.specs.Outcomes.{CommandStepWithin, Gives, IsRefusedWithin, command_outcome, command_outcome_by, command_outcome_within}
use Rattle.pcef_model.specs.Refusals.{first_of, is_active, over_room, refusals, refusals_within, room_refusals, total, total_down, total_now, total_up}
use Rattle.pcef_model.specs.Setting.{Setting, offer_named}
use Rattle.pcef_model.specs.Laws.{IsInRoom}
use Rattle.pcef_model.proofs.Rooms.{accepted_within, total_fits, total_put}
use Rattle.pcef_bearer.specs.Bindings.{bound_down, bound_up}
use Rattle.pcef_bearer.specs.BindingSteps.{total_with, bound_total, without_bound as bound_without}
use Rattle.pcef_bearer.specs.Standing.{binding_of, bound_of}
use Rattle.pcef_bearer.proofs.BoundBearers.{total_down_bound, total_up_bound, without_bound}
use Rattle.pcef_session.specs.declared.prepared.Activation.{Activation}
use Rattle.pcef_session.specs.Preparing.{Activates, IsPreparedFor, command_of}
use Rattle.pcef_session.specs.SessionModel.{SessionModel}
use Rattle.pcef_session.specs.declared.prepared.Prepared.{Prepared}
use Rattle.pcef_session.specs.declared.prepared.Prepared.TheVariants.{Changing, Unchanged}
use Rattle.pcef_session.proofs.Acceptance.{changed_by, unchanged_by}
use Rattle.pcef_session.specs.private.Sessions.{rates_with}
use Rattle.pcef_session.proofs.Refused.{first_after, first_before}

-- the rates of what is bound are those of the rules
pub rates_bound : (p : Setting) (g : Generation) (rule : Properties) → total_with (binding_of p g) rule.name rule.rates ≡ rates_with rule g.rules
rates_bound p g rule =
    let up : bound_up (bound_without rule.name (bound_of g g.rules)) ≡ total_up (without rule.name g.rules) =
    ap (λ xs. bound_up xs) (without_bound rule.name g g.rules) ∙ total_up_bound g (without rule.name g.rules) in
    let down : bound_down (bound_without rule.name (bound_of g g.rules)) ≡ total_down (without rule.name g.rules) =
    ap (λ xs. bound_down xs) (without_bound rule.name g g.rules) ∙ total_down_bound g (without rule.name g.rules) in
    rw (up, down) refl

pub all_bound : (g : Generation) → bound_total (bound_of g g.rules) ≡ total g.rules
all_bound g = rw (total_up_bound g g.rules, total_down_bound g g.rules) refl

-- ---- the rule that comes
pub install_room : (p : Setting) (j : Journal) (d : Definition) (room : Sums) (r : Option Refusal) → r ≡ first_of (over_room room (rates_with d.properties (now p j).rules)) →
    r ≡ first_of (room_refusals p j (Install d) room)
install_room p j d room r is = is ∙ ap (λ rates. first_of (over_room room rates)) (sym (total_put p j (Install d) (dynamic d) refl))

pub again_room : (p : Setting) (j : Journal) (name : List ℕ) (room : Sums) → is_active p j name ≡ true → None ≡ first_of (room_refusals p j (Activate name) room)
again_room p j name room is = rw is refl

pub activate_room : (p : Setting) (j : Journal) (name : List ℕ) (x : Activation) (room : Sums) (r : Option Refusal) → Activates p (option_map predefined (offer_named p name)) (Some x) → is_active p j name ≡ false →
    r ≡ first_of (over_room room (rates_with x.properties (now p j).rules)) → r ≡ first_of (room_refusals p j (Activate name) room)
activate_room p j name x room r brings isnt is = from (offer_named p name) refl brings
  where
    from : (o : Option Offer) → offer_named p name ≡ o → Activates p (option_map predefined o) (Some x) → r ≡ first_of (room_refusals p j (Activate name) room)
    from None there brings = absurd brings
    from (Some o) there brings =
        let becomes : activated p (Activate name) ≡ Some (predefined o) = ap (option_map predefined) there in
        rw isnt
        (is ∙ ap (λ (q : Properties). first_of (over_room room (rates_with q (now p j).rules))) brings.properties_are
        ∙ ap (λ rates. first_of (over_room room rates)) (sym (total_put p j (Activate name) (predefined o) becomes)))

-- ---- all refusals
pub within_before : (p : Setting) (j : Journal) (c : Command) (room : Option Sums) (r : Refusal) → Some r ≡ first_of (refusals p j c) → Some r ≡ first_of (refusals_within p j c room)
within_before p j c None r is = is
within_before p j c (Some room) r is = first_before (refusals p j c) (room_refusals p j c room) r is

pub within_after : (p : Setting) (j : Journal) (c : Command) (room : Sums) → None ≡ first_of (refusals p j c) → first_of (room_refusals p j c room) ≡ first_of (refusals_within p j c (Some room))
within_after p j c room none = sym (first_after (refusals p j c) (room_refusals p j c room) none)

-- ---- what is answered
-- a command that is refused
pub refused_within : (p : Setting) (j : Journal) (c : Command) (room : Option Sums) (r : Refusal) → IsRefusedWithin p j c room r → CommandStepWithin p room c j (Err r) j
unfolding command_outcome_within
refused_within p j c room r refused =
    elim refused [
      | inl first ↦ inl (rw first (refl, refl))
      | inr wanting ↦ inr (wanting.0, (ap (λ x. Err x) wanting.1, refl))
    ]

-- one that is accepted in a room is answered as without it
pub given_within : (p : Setting) (j : Journal) (c : Command) (room : Option Sums) (a : Accepted) (k : Journal) → first_of (refusals_within p j c room) ≡ None → Gives (command_outcome p j c) (Ok a) k →
    CommandStepWithin p room c j (Ok a) k
unfolding command_outcome command_outcome_within
given_within p j c room a k none gives =
    let plain : first_of (refusals p j c) ≡ None = accepted_within p j c room none in
    let by : Gives (command_outcome_by p j c None) (Ok a) k = rw plain at gives in
    inl (rw none by)

-- ---- a command that was prepared in a room
-- it is refused
pub does_not_within : (p : Setting) (s t : SessionModel) (now : Journal) (c : Command) (room want : Sums) (r : Refusal) → s.setting ≡ p → IsRefusedWithin s.setting s.journal c (Some room) r → t.journal ≡ s.journal →
    s.journal ≡ now → room ≡ want → CommandStepWithin p (Some want) c now (Err r) t.journal
does_not_within p s t now c room want r setting refused journal now_is room_is = rw (← setting, ← now_is, ← room_is, journal) (refused_within s.setting s.journal c (Some room) r refused)

-- or there is no memory for its table
pub lacks_within : (p : Setting) (s t : SessionModel) (now : Journal) (c : Command) (room want : Sums) → s.setting ≡ p → first_of (refusals_within s.setting s.journal c (Some room)) ≡ None → t.journal ≡ s.journal →
    s.journal ≡ now → room ≡ want → CommandStepWithin p (Some want) c now (Err refusal.NoMemory) t.journal
lacks_within p s t now c room want setting none journal now_is room_is = rw (← setting, ← now_is, ← room_is, journal) (refused_within s.setting s.journal c (Some room) refusal.NoMemory (inr (none, refl)))

-- or it is done
pub does_within : (p : Setting) (s m t : SessionModel) (now : Journal) (c : Command) (d : Prepared) (room want : Sums) (a : Accepted) → s.setting ≡ p → first_of (refusals_within s.setting s.journal c (Some room)) ≡ None →
    m.setting ≡ s.setting → m.journal ≡ s.journal → command_of d ≡ c → Gives (command_outcome m.setting m.journal (command_of d)) (Ok a) t.journal →
    s.journal ≡ now → room ≡ want → CommandStepWithin p (Some want) c now (Ok a) t.journal
does_within p s m t now c d room want a setting none setting_kept kept command gives now_is room_is =
    rw (← setting, ← now_is, ← room_is)
    (given_within s.setting s.journal c (Some room) a t.journal none (rw (setting_kept, kept, command) at gives))

-- the session's rates are then within the room
pub settled_fits : (s m t : SessionModel) (c : Command) (d : Prepared) (room : Sums) (a : Accepted) → first_of (refusals_within s.setting s.journal c (Some room)) ≡ None →
    m.setting ≡ s.setting → m.journal ≡ s.journal → command_of d ≡ c → IsPreparedFor m d → Gives (command_outcome m.setting m.journal (command_of d)) (Ok a) t.journal → t.setting ≡ m.setting →
    IsInRoom (total_now s.setting s.journal) room → IsInRoom (total_now t.setting t.journal) room
settled_fits s m t c (Changing change) room a none setting_kept kept command ready gives setting before =
    let none_here : first_of (refusals_within m.setting m.journal change.command (Some room)) ≡ None = rw (setting_kept, kept, command) none in
    let before_here : IsInRoom (total_now m.setting m.journal) room = rw (setting_kept, kept) before in
    let done = changed_by m.setting m.journal change.command a t.journal ready.accepted ready.changing gives in
    rw (setting, done.1) (total_fits m.setting m.journal change.command room none_here ready.changing before_here)
settled_fits s m t c (Unchanged name) room a none setting_kept kept command idle gives setting before =
    let done = unchanged_by m.setting m.journal name a t.journal idle.accepted idle.active gives in
    rw (setting, done.1, setting_kept, kept) before
