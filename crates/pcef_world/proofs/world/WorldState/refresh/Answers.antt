use Rattle.std.proofs.Common.{◌≡◌, Some, arith, length, refl}
use Rattle.std.specs.Prelude.{slice_get}
use Rattle.std.proofs.lemmas.Option.{slice_get_read}
use Rattle.pcef_world.proofs.WorldAnswers.{past_from, refreshes_answer, refreshes_nowhere}
use Rattle.pcef_world.proofs.WorldSteps.{sound_refreshed}
use Rattle.pcef_world.proofs.world.WorldState.refresh.Goals as goal

pub invariant_of-self-2 : goal.invariant_of-self-2
invariant_of-self-2 c = (
  (
      let there : slice_get c.self.inside.workers.items c.from.result ≡ Some c.in-Some.place.now =
      slice_get_read c.self.inside.workers.items (length c.self.inside.workers.items) c.from.result c.in-Some.place.now refl c.in-Some.ensures.item.3.0 c.in-Some.ensures.value in
      sound_refreshed c.self.inside.session c.self.inside.workers.items c.from.result c.in-Some.place.now c.refresh_at.new.place c.refresh_at.result c.self.invariant.0 there c.refresh_at.ensures),
  c.self.invariant.1,
)

pub returns-in_default-clause-answer : goal.returns-in_default-clause-answer
returns-in_default-clause-answer c =
    rw (← c.self.view_is, ← c.from.ensures)
    (refreshes_nowhere _ _ c.self.inside.workers.items c.from.result (omega (arith, past_from c.from.result _ c.in_default.ensures.variant.1, c.self.inside.workers.ok.0)))

pub returns-clause-answer : goal.returns-clause-answer
returns-clause-answer c =
    let there : slice_get c.self.inside.workers.items c.from.result ≡ Some c.in-Some.place.now =
    slice_get_read c.self.inside.workers.items (length c.self.inside.workers.items) c.from.result c.in-Some.place.now refl c.in-Some.ensures.item.3.0 c.in-Some.ensures.value in
    rw (← c.self.view_is, ← c.from.ensures)
    (refreshes_answer c.self.inside.session c.self.inside.workers.items c.from.result c.in-Some.place.now c.refresh_at.new.place c.refresh_at.result there c.refresh_at.ensures).0

pub returns-clause-lacks : goal.returns-clause-lacks
returns-clause-lacks c =
    let there : slice_get c.self.inside.workers.items c.from.result ≡ Some c.in-Some.place.now =
    slice_get_read c.self.inside.workers.items (length c.self.inside.workers.items) c.from.result c.in-Some.place.now refl c.in-Some.ensures.item.3.0 c.in-Some.ensures.value in
    rw (← c.self.view_is, ← c.from.ensures)
    (refreshes_answer c.self.inside.session c.self.inside.workers.items c.from.result c.in-Some.place.now c.refresh_at.new.place c.refresh_at.result there c.refresh_at.ensures).1
