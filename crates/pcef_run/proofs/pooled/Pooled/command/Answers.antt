use Rattle.std.proofs.Common.{◌≡◌, ◌∙◌, ap, arith, length, subst, Some}
use Rattle.std.specs.Prelude.{slice_get, slice_set}
use Rattle.pcef_run.specs.Granting.{AnswersAt, PooledModel, settings_of}
use Rattle.pcef_run.proofs.Granted.{answers_at, command_granted, set_here, set_there, settings_set, stands}
use Rattle.pcef_run.proofs.pooled.Pooled.command.Goals as goal

pub invariant_of-self : goal.invariant_of-self
invariant_of-self g c =
    let at : slice_get c.self.inside.members.items c.args.n ≡ Some c.index_mut.result.now =
    stands c.self.inside.members.items c.args.n c.index_mut.result.now (omega (arith, c.requires, ap (λ (b : PooledModel). length b.sessions) c.self.view_is)) c.index_mut.ensures.value in
    command_granted c.command.result c.self.inside.members.items c.args.n c.index_mut.result.now c.command.new.self c.self.inside.pool c.command.new.pool at c.self.invariant c.command.ensures.part c.command.ensures.granted
    c.command.ensures.refused c.command.ensures.kept

pub returns-clause-answer : goal.returns-clause-answer
returns-clause-answer g c =
    let at : slice_get c.self.inside.members.items c.args.n ≡ Some c.index_mut.result.now =
    stands c.self.inside.members.items c.args.n c.index_mut.result.now (omega (arith, c.requires, ap (λ (b : PooledModel). length b.sessions) c.self.view_is)) c.index_mut.ensures.value in
    let after : PooledModel = record { sessions = slice_set c.self.inside.members.items c.args.n c.command.new.self; pool = c.command.new.pool } in
    subst (λ (b : PooledModel). AnswersAt c.args.n b c.args.command c.command.result after) c.self.view_is
    (answers_at c.args.n (record { sessions = c.self.inside.members.items; pool = c.self.inside.pool }) after c.args.command c.command.result c.index_mut.result.now c.command.new.self at
    (set_here c.self.inside.members.items c.args.n c.index_mut.result.now c.command.new.self at) c.command.ensures.answer)

pub returns-clause-settings : goal.returns-clause-settings
returns-clause-settings g c =
    let at : slice_get c.self.inside.members.items c.args.n ≡ Some c.index_mut.result.now =
    stands c.self.inside.members.items c.args.n c.index_mut.result.now (omega (arith, c.requires, ap (λ (b : PooledModel). length b.sessions) c.self.view_is)) c.index_mut.ensures.value in
    settings_set c.self.inside.members.items c.args.n c.index_mut.result.now c.command.new.self at c.command.ensures.setting ∙ ap (λ (b : PooledModel). settings_of b.sessions) c.self.view_is

pub returns-clause-others : goal.returns-clause-others
returns-clause-others g c = λ m other.
    set_there c.self.inside.members.items c.args.n m c.command.new.self other ∙ ap (λ (b : PooledModel). slice_get b.sessions m) c.self.view_is

pub returns-clause-granted : goal.returns-clause-granted
returns-clause-granted g c =
    let at : slice_get c.self.inside.members.items c.args.n ≡ Some c.index_mut.result.now =
    stands c.self.inside.members.items c.args.n c.index_mut.result.now (omega (arith, c.requires, ap (λ (b : PooledModel). length b.sessions) c.self.view_is)) c.index_mut.ensures.value in
    command_granted c.command.result c.self.inside.members.items c.args.n c.index_mut.result.now c.command.new.self c.self.inside.pool c.command.new.pool at c.self.invariant c.command.ensures.part c.command.ensures.granted
    c.command.ensures.refused c.command.ensures.kept
