use Rattle.std.proofs.Common.{◌≡◌, ◌∙◌, Some, ap, arith, length, refl, sym}
use Rattle.std.specs.Prelude.{slice_get}
use Rattle.std.proofs.lemmas.Option.{slice_get_read}
use Rattle.pcef_model.specs.Journals.{lane_len}
use Rattle.pcef_model.specs.Setting.{Setting}
use Rattle.pcef_world.proofs.WorldAnswers.{past_from, takes_answer, takes_nowhere}
use Rattle.pcef_world.proofs.WorldSteps.{few_if, sound_taken, table_if}
use Rattle.pcef_world.proofs.world.WorldState.take.Goals as goal

pub take_at-requires-clause-table : goal.take_at-requires-clause-table
take_at-requires-clause-table g c =
    let there : slice_get c.self.inside.workers.items c.from.result ≡ Some c.in-Some.place.now =
    slice_get_read c.self.inside.workers.items (length c.self.inside.workers.items) c.from.result c.in-Some.place.now refl c.in-Some.ensures.item.3.0 c.in-Some.ensures.value in
    table_if c.self.inside.session c.self.inside.workers.items c.from.result c.in-Some.place.now (g.C.Offers.offers c.args.catalog.now) c.self.invariant.0 there
    (c.requires ∙ sym (ap (λ w. w.session.setting.catalog) c.self.view_is))

pub take_at-requires-clause-few : goal.take_at-requires-clause-few
take_at-requires-clause-few g c =
    let there : slice_get c.self.inside.workers.items c.from.result ≡ Some c.in-Some.place.now =
    slice_get_read c.self.inside.workers.items (length c.self.inside.workers.items) c.from.result c.in-Some.place.now refl c.in-Some.ensures.item.3.0 c.in-Some.ensures.value in
    few_if c.self.inside.session c.self.inside.workers.items c.from.result c.lane_len-handed_over.result c.in-Some.place.now c.self.invariant.0 there
    (c.lane_len-handed_over.ensures ∙ ap (lane_len c.self.inside.session.journal) (sym c.from.ensures))

pub returns-in_default-clause-answer : goal.returns-in_default-clause-answer
returns-in_default-clause-answer g c =
    rw (← c.self.view_is, ← c.from.ensures)
    (takes_nowhere _ _ c.self.inside.workers.items c.from.result c.args.header.now (omega (arith, past_from c.from.result _ c.in_default.ensures.variant.1, c.self.inside.workers.ok.0)))

pub invariant_of-self-2 : goal.invariant_of-self-2
invariant_of-self-2 g c = (
  (
      let there : slice_get c.self.inside.workers.items c.from.result ≡ Some c.in-Some.place.now =
      slice_get_read c.self.inside.workers.items (length c.self.inside.workers.items) c.from.result c.in-Some.place.now refl c.in-Some.ensures.item.3.0 c.in-Some.ensures.value in
      sound_taken c.self.inside.session c.self.inside.workers.items c.from.result c.in-Some.place.now c.take_at.new.place (g.C.Offers.offers c.args.catalog.now) c.behind-self.inside.ue
      c.args.header.now c.lane_len-handed_over.result c.take_at.result c.self.invariant.0 there (c.requires ∙ sym (ap (λ w. w.session.setting.catalog) c.self.view_is))
      (ap (λ t. t.ue) c.behind-self.view_is ∙ ap (λ (p : Setting). p.ue) c.profile.ensures) (c.lane_len-handed_over.ensures ∙ ap (lane_len c.self.inside.session.journal) (sym c.from.ensures)) c.take_at.ensures),
  c.self.invariant.1,
)

pub returns-clause-answer : goal.returns-clause-answer
returns-clause-answer g c =
    let there : slice_get c.self.inside.workers.items c.from.result ≡ Some c.in-Some.place.now =
    slice_get_read c.self.inside.workers.items (length c.self.inside.workers.items) c.from.result c.in-Some.place.now refl c.in-Some.ensures.item.3.0 c.in-Some.ensures.value in
    rw (← c.self.view_is, ← c.from.ensures)
    (takes_answer c.self.inside.session c.self.inside.workers.items c.from.result c.in-Some.place.now c.take_at.new.place (g.C.Offers.offers c.args.catalog.now) c.behind-self.inside.ue
    c.args.header.now c.lane_len-handed_over.result c.take_at.result c.self.invariant.0 there (c.requires ∙ sym (ap (λ w. w.session.setting.catalog) c.self.view_is))
    (ap (λ t. t.ue) c.behind-self.view_is ∙ ap (λ (p : Setting). p.ue) c.profile.ensures) (c.lane_len-handed_over.ensures ∙ ap (lane_len c.self.inside.session.journal) (sym c.from.ensures)) c.take_at.ensures).0

pub returns-clause-lacks : goal.returns-clause-lacks
returns-clause-lacks g c =
    let there : slice_get c.self.inside.workers.items c.from.result ≡ Some c.in-Some.place.now =
    slice_get_read c.self.inside.workers.items (length c.self.inside.workers.items) c.from.result c.in-Some.place.now refl c.in-Some.ensures.item.3.0 c.in-Some.ensures.value in
    rw (← c.self.view_is, ← c.from.ensures)
    (takes_answer c.self.inside.session c.self.inside.workers.items c.from.result c.in-Some.place.now c.take_at.new.place (g.C.Offers.offers c.args.catalog.now) c.behind-self.inside.ue
    c.args.header.now c.lane_len-handed_over.result c.take_at.result c.self.invariant.0 there (c.requires ∙ sym (ap (λ w. w.session.setting.catalog) c.self.view_is))
    (ap (λ t. t.ue) c.behind-self.view_is ∙ ap (λ (p : Setting). p.ue) c.profile.ensures) (c.lane_len-handed_over.ensures ∙ ap (lane_len c.self.inside.session.journal) (sym c.from.ensures)) c.take_at.ensures).1
