use Rattle.std.proofs.Common.{rules, ◌≡◌, ◌∙◌, Some, ap, refl, subst, sym}
use Rattle.pcef_flow.specs.Flows.{Remembers}
use Rattle.pcef_table.specs.Tables.{TableValue}
use Rattle.pcef_model.specs.Refusals.{attach_faults, first_of}
use Rattle.pcef_session.specs.SessionModel.{SessionModel}
use Rattle.pcef_session.proofs.Leaving.{attach_refused}
use Rattle.pcef_handle.proofs.attached.AttachedWorker.attach.Goals as goal

pub returns-in-Some : goal.returns-in-Some
returns-in-Some c =
    let first : first_of (attach_faults c.args.session.now.world.session.journal) ≡ Some c.in-Some.fault =
    sym (c.in-Some.ensures ∙ ap (λ (s : SessionModel). first_of (attach_faults s.journal)) c.session.ensures.session) in
    (attach_refused c.args.session.now.world.session.journal c.in-Some.fault first, refl, (refl, refl, refl))

pub invariant_of-result : goal.invariant_of-result
invariant_of-result c =
    let apart = c.in-Ok-attach_apart.apart in (
      search rules,
      search rules,
      subst (λ (t : TableValue). Remembers c.in-Ok.catalog t.entries apart.ue c.follow.new.self) (c.table.ensures ∙ c.held.ensures) (c.follow.ensures apart.ue),
    )
