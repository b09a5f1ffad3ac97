use Rattle.pcef_session.proofs.Leaving.{attach_refused}
use Rattle.std.proofs.Common.{refl, sym}
use Rattle.pcef_world.proofs.WorldSteps.{sound_attached, sound_attached_not}
use Rattle.pcef_world.proofs.world.WorldState.attach_worker.Goals as goal

pub invariant_of-self-in_err-number : goal.invariant_of-self-in_err-number
invariant_of-self-in_err-number c = (
  (
      rw c.reserve.ensures.items
      (sound_attached_not c.self.inside.session c.attach.new.self c.self.inside.workers.items c.in_err-number.field-0.0 c.self.invariant.0 c.in_err-number.ensures.answer c.attach.ensures.setting)),
  λ is. absurd cc,
)

pub invariant_of-self-2 : goal.invariant_of-self-2
invariant_of-self-2 c = (
  (
      rw (c.push_reserved.ensures.items, c.reserve.ensures.items)
      (sound_attached c.self.inside.session c.attach.new.self c.self.inside.workers.items c.in_ok-number.number _ c.self.invariant.0 c.in_ok-number.ensures.lane c.in-Ok.ensures c.in_ok-number.ensures.answer
      c.attach.ensures.setting refl c.new.ensures)),
  λ is. absurd cc,
)

pub returns-in-Some-clause-answer : goal.returns-in-Some-clause-answer
returns-in-Some-clause-answer c =
    rw (← c.self.view_is) (attach_refused c.self.inside.session.journal c.in-Some.fault (sym c.in-Some.ensures))
