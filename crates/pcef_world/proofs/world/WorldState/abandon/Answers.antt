use Rattle.std.proofs.Common.{◌≡◌, Some, arith, length, refl}
use Rattle.std.specs.Prelude.{slice_get}
use Rattle.std.proofs.lemmas.Option.{slice_get_read}
use Rattle.pcef_world.proofs.WorldAnswers.{abandons_answer, abandons_nowhere, past_from}
use Rattle.pcef_world.proofs.WorldSteps.{attached_if, sound_abandoned}
use Rattle.pcef_world.proofs.world.WorldState.abandon.Goals as goal

pub abandon_at-requires : goal.abandon_at-requires
abandon_at-requires c =
    let there : slice_get c.self.inside.workers.items c.from.result ≡ Some c.in-Some.place.now =
    slice_get_read c.self.inside.workers.items (length c.self.inside.workers.items) c.from.result c.in-Some.place.now refl c.in-Some.ensures.item.3.0 c.in-Some.ensures.value in
    attached_if c.self.inside.session c.self.inside.workers.items c.from.result c.in-Some.place.now c.self.invariant.0 there

pub invariant_of-self-in-Some : goal.invariant_of-self-in-Some
invariant_of-self-in-Some c = (
  (
      let there : slice_get c.self.inside.workers.items c.from.result ≡ Some c.in-Some.place.now =
      slice_get_read c.self.inside.workers.items (length c.self.inside.workers.items) c.from.result c.in-Some.place.now refl c.in-Some.ensures.item.3.0 c.in-Some.ensures.value in
      sound_abandoned c.self.inside.session c.abandon_at.new.session c.self.inside.workers.items c.from.result c.in-Some.place.now c.abandon_at.new.place c.abandon_at.result c.self.invariant.0 there
      c.abandon_at.ensures.answer c.abandon_at.ensures.setting),
  λ is. absurd cc,
)

pub returns-in-None-clause-answer : goal.returns-in-None-clause-answer
returns-in-None-clause-answer c =
    rw (← c.self.view_is, ← c.from.ensures)
    (abandons_nowhere _ _ c.self.inside.workers.items c.from.result (omega (arith, past_from c.from.result _ c.in-None.ensures.variant.1, c.self.inside.workers.ok.0)))

pub returns-in-Some-clause-answer : goal.returns-in-Some-clause-answer
returns-in-Some-clause-answer c =
    let there : slice_get c.self.inside.workers.items c.from.result ≡ Some c.in-Some.place.now =
    slice_get_read c.self.inside.workers.items (length c.self.inside.workers.items) c.from.result c.in-Some.place.now refl c.in-Some.ensures.item.3.0 c.in-Some.ensures.value in
    rw (← c.self.view_is, ← c.from.ensures)
    (abandons_answer c.self.inside.session c.abandon_at.new.session c.self.inside.workers.items c.from.result c.in-Some.place.now c.abandon_at.new.place c.abandon_at.result c.self.invariant.0 there c.abandon_at.ensures.answer)
