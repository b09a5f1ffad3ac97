use Rattle.pcef_session.proofs.Leaving.{attach_refused}
use Rattle.std.proofs.Common.{refl, sym, ap, ◌∙◌}
use Rattle.pcef_model.specs.Setting.{Setting}
use Rattle.pcef_model.proofs.JournalExtends.{attached_not}
use Rattle.pcef_world.proofs.ApartWorkers.{new_apart, on_err, sound_attached_apart, standing_same}
use Rattle.pcef_world.proofs.WorldSteps.{sound_attached_not}
use Rattle.pcef_world.proofs.world.WorldState.attach_apart.Goals as goal

pub invariant_of-self-in_err-number : goal.invariant_of-self-in_err-number
invariant_of-self-in_err-number c = (
  (
      rw c.reserve.ensures.items
      (sound_attached_not c.self.inside.session c.attach.new.self c.self.inside.workers.items c.in_err-number.field-0.0 c.self.invariant.0 c.in_err-number.ensures.answer c.attach.ensures.setting)),
  λ is. absurd cc,
)

pub returns-in_err-number-clause-refused : goal.returns-in_err-number-clause-refused
returns-in_err-number-clause-refused c =
    on_err c.from_residual.result _
    (rw (← c.self.view_is, c.reserve.ensures.items)
    (standing_same c.self.inside.session c.attach.new.self c.self.inside.workers.items (attached_not c.self.inside.session.journal c.attach.new.self.journal c.in_err-number.field-0.0 c.in_err-number.ensures.answer)))

pub invariant_of-self-2 : goal.invariant_of-self-2
invariant_of-self-2 c = (
  (
      rw (c.push_reserved.ensures.items, c.reserve.ensures.items)
      (sound_attached_apart c.self.inside.session c.attach.new.self c.self.inside.workers.items c.in_ok-number.number c.self.invariant.0 c.in_ok-number.ensures.answer c.attach.ensures.setting)),
  λ is. absurd cc,
)

pub returns-clause-apart : goal.returns-clause-apart
returns-clause-apart c =
    rw (← c.self.view_is, c.push_reserved.ensures.items, c.reserve.ensures.items)
    (new_apart c.self.inside.session c.attach.new.self c.self.inside.workers.items c.in_ok-number.number _ c.self.invariant.0 c.in_ok-number.ensures.answer c.attach.ensures.setting c.in_ok-number.ensures.lane
    c.in-Ok.ensures refl c.new.ensures (ap (λ t. t.ue) c.behind-self.view_is ∙ ap (λ (p : Setting). p.ue) c.profile.ensures) refl)

pub returns-in-Some-clause-answer : goal.returns-in-Some-clause-answer
returns-in-Some-clause-answer c =
    rw (← c.self.view_is) (attach_refused c.self.inside.session.journal c.in-Some.fault (sym c.in-Some.ensures))
