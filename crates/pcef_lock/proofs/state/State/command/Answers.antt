use Rattle.std.proofs.Common.{rules, ◌≡◌, ◌++◌, ◌∙◌, ap, length}
use Rattle.std.specs.Option.{option_to_list}
use Rattle.pcef_session.specs.Preparing.{table_made}
use Rattle.pcef_publish.proofs.Runs.{prefix_self}
use Rattle.pcef_lock.proofs.Commanded.{does_not, grown_by}
use Rattle.pcef_share.specs.Amounts.{Account}
use Rattle.pcef_lock.proofs.Keeps.{locked, next_published, settled_gains, sound_same, sound_settled}
use Rattle.pcef_lock.proofs.PoolShares.{due_none}
use Rattle.pcef_lock.proofs.state.State.command.Goals as goal

pub invariant_of-self : goal.invariant_of-self
invariant_of-self g c = (
  sound_same g.N.Naming.setting g.N.Naming.first c.self.inside.session.session c.prepare.new.self.session c.self.inside.publisher c.self.inside.books c.self.inside.places (length c.self.inside.subscribers.items)
      c.prepare.ensures.setting c.prepare.ensures.journal c.self.invariant.0,
  due_none g.P.Pooling.is_there c.self.inside.session.session.setting c.prepare.new.self.session.setting c.self.inside.session.session.journal c.prepare.new.self.session.journal c.self.inside.rates c.requires c.self.invariant.1,
)

pub returns-in-Err-clause-answer : goal.returns-in-Err-clause-answer
returns-in-Err-clause-answer g c =
    does_not g.N.Naming.setting c.self.inside.session.session c.prepare.new.self.session c.args.self.now.session.journal c.args.command c.in-Err.refusal c.self.invariant.0.kept.setting_is c.in-Err.ensures.refused c.prepare.ensures.journal
    (ap (λ v. v.session.journal) c.self.view_is)

pub invariant_of-self-then-is_err : goal.invariant_of-self-then-is_err
invariant_of-self-then-is_err g c =
    let same : c.publish.new.publisher ≡ c.self.inside.publisher = search rules in (
      rw same (sound_same g.N.Naming.setting g.N.Naming.first c.self.inside.session.session c.prepare.new.self.session c.self.inside.publisher c.self.inside.books c.self.inside.places (length c.self.inside.subscribers.items)
          c.prepare.ensures.setting c.prepare.ensures.journal c.self.invariant.0),
      due_none g.P.Pooling.is_there c.self.inside.session.session.setting c.prepare.new.self.session.setting c.self.inside.session.session.journal c.prepare.new.self.session.journal c.self.inside.rates c.requires c.self.invariant.1,
    )

pub publish-requires : goal.publish-requires
publish-requires g c =
    let kept = sound_same g.N.Naming.setting g.N.Naming.first c.self.inside.session.session c.prepare.new.self.session c.self.inside.publisher c.self.inside.books c.self.inside.places (length c.self.inside.subscribers.items)
    c.prepare.ensures.setting c.prepare.ensures.journal c.self.invariant.0 in
    next_published g.N.Naming.setting g.N.Naming.first c.prepare.new.self.session c.self.inside.publisher c.self.inside.books c.self.inside.places (length c.self.inside.subscribers.items) c.in-Ok.prepared kept c.in-Ok.ensures.ready

pub overflow_sub-gained : goal.overflow_sub-gained
overflow_sub-gained g c =
    (settled_gains c.prepare.new.self.session c.settle-accepted.new.self.session c.in-Ok.prepared c.settle-accepted.result c.commands_of-before.result c.commands_of.result
    c.in-Ok.ensures.ready c.settle-accepted.ensures.answer c.commands_of-before.ensures.commands c.commands_of.ensures.commands).0

pub returns-clause-rest : goal.returns-clause-rest
returns-clause-rest g c =
    let gains = settled_gains c.prepare.new.self.session c.settle-accepted.new.self.session c.in-Ok.prepared c.settle-accepted.result c.commands_of-before.result c.commands_of.result
    c.in-Ok.ensures.ready c.settle-accepted.ensures.answer c.commands_of-before.ensures.commands c.commands_of.ensures.commands in
    rw (← c.self.view_is)
    (ap (λ (b : Account). locked c.settle-accepted.new.self.session c.publish.new.publisher b c.self.inside.places)
    (c.add_commands.ensures.books ∙ ap (λ xs. record { totals = xs; issued = c.self.inside.books.issued }) (gains.1 c.self.inside.books.totals)))

pub returns-clause-shares : goal.returns-clause-shares
returns-clause-shares g c =
    let gains = settled_gains c.prepare.new.self.session c.settle-accepted.new.self.session c.in-Ok.prepared c.settle-accepted.result c.commands_of-before.result c.commands_of.result
    c.in-Ok.ensures.ready c.settle-accepted.ensures.answer c.commands_of-before.ensures.commands c.commands_of.ensures.commands in
    c.add_commands.ensures.shares ∙ gains.1 c.args.shares.now

pub invariant_of-self-2 : goal.invariant_of-self-2
invariant_of-self-2 g c =
    let grown : c.publish.new.publisher ≡ c.self.inside.publisher ++ option_to_list (table_made c.in-Ok.prepared) = search rules in
    let kept = sound_same g.N.Naming.setting g.N.Naming.first c.self.inside.session.session c.prepare.new.self.session c.self.inside.publisher c.self.inside.books c.self.inside.places (length c.self.inside.subscribers.items)
    c.prepare.ensures.setting c.prepare.ensures.journal c.self.invariant.0 in
    let gains = settled_gains c.prepare.new.self.session c.settle-accepted.new.self.session c.in-Ok.prepared c.settle-accepted.result c.commands_of-before.result c.commands_of.result
    c.in-Ok.ensures.ready c.settle-accepted.ensures.answer c.commands_of-before.ensures.commands c.commands_of.ensures.commands in (
      rw (grown, c.add_commands.ensures.books, gains.1 c.self.inside.books.totals)
          (sound_settled g.N.Naming.setting g.N.Naming.first c.prepare.new.self.session c.settle-accepted.new.self.session c.self.inside.publisher c.self.inside.books c.self.inside.places (length c.self.inside.subscribers.items)
          c.in-Ok.prepared c.settle-accepted.result c.commands_of-before.ensures.lawful c.in-Ok.ensures.ready c.settle-accepted.ensures.answer c.settle-accepted.ensures.setting kept),
      due_none g.P.Pooling.is_there c.self.inside.session.session.setting c.settle-accepted.new.self.session.setting c.self.inside.session.session.journal c.settle-accepted.new.self.session.journal c.self.inside.rates c.requires c.self.invariant.1,
    )

pub returns-then-is_err-clause-tables : goal.returns-then-is_err-clause-tables
returns-then-is_err-clause-tables g c =
    let same : c.publish.new.publisher ≡ c.self.inside.publisher = search rules in
    rw (← ap (λ v. v.tables) c.self.view_is, same) (prefix_self c.self.inside.publisher)

pub returns-clause-tables : goal.returns-clause-tables
returns-clause-tables g c =
    let grown : c.publish.new.publisher ≡ c.self.inside.publisher ++ option_to_list (table_made c.in-Ok.prepared) = search rules in
    rw (← ap (λ v. v.tables) c.self.view_is) (grown_by c.self.inside.publisher c.publish.new.publisher (option_to_list (table_made c.in-Ok.prepared)) grown)
