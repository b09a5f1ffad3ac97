use Rattle.std.proofs.Common.{rules, ◌≡◌, ◌++◌, ◌∙◌, ap, length, refl}
use Rattle.std.specs.Option.{option_to_list}
use Rattle.pcef_model.specs.Refusals.{total_now}
use Rattle.pcef_session.specs.Preparing.{table_made}
use Rattle.pcef_session.proofs.RoomRates.{does_not_within, does_within, lacks_within}
use Rattle.pcef_publish.proofs.Runs.{prefix_self}
use Rattle.pcef_share.specs.Pools.{room_beside}
use Rattle.pcef_lock.proofs.Commanded.{grown_by}
use Rattle.pcef_share.specs.Amounts.{Account}
use Rattle.pcef_lock.proofs.Keeps.{locked, next_published, settled_gains, sound_same, sound_settled}
use Rattle.pcef_lock.proofs.PoolShares.{due_kept, due_set, fits_in, is_there, part_wanted, pool_gave, room_wanted}
use Rattle.pcef_lock.proofs.state.State.command_within.Goals as goal

pub room_in-room-requires : goal.room_in-room-requires
room_in-room-requires g c = is_there g.P.Pooling.is_there c.self.inside.session.session.setting c.self.inside.session.session.journal c.self.inside.rates c.requires c.self.invariant.1

pub invariant_of-self : goal.invariant_of-self
invariant_of-self g c = (
  sound_same g.N.Naming.setting g.N.Naming.first c.self.inside.session.session c.prepare_within.new.self.session c.self.inside.publisher c.self.inside.books c.self.inside.places (length c.self.inside.subscribers.items)
      c.prepare_within.ensures.setting c.prepare_within.ensures.journal c.self.invariant.0,
  c.room_in-room.ensures.same.0 ∙ due_kept g.P.Pooling.is_there c.self.inside.session.session.setting c.prepare_within.new.self.session.setting c.self.inside.session.session.journal c.prepare_within.new.self.session.journal c.self.inside.rates c.prepare_within.ensures.setting c.prepare_within.ensures.journal c.self.invariant.1,
)

pub returns-in-Err-clause-answer : goal.returns-in-Err-clause-answer
returns-in-Err-clause-answer g c =
    does_not_within g.N.Naming.setting c.self.inside.session.session c.prepare_within.new.self.session c.args.self.now.session.journal c.args.command c.room_in-room.result
    (room_beside c.args.pool.now (total_now g.N.Naming.setting c.args.self.now.session.journal)) c.in-Err.refusal c.self.invariant.0.kept.setting_is c.in-Err.ensures.refused c.prepare_within.ensures.journal
    (ap (λ v. v.session.journal) c.self.view_is) (room_wanted g.P.Pooling.is_there g.N.Naming.setting c.self.inside.session.session c.args.self.now.session.journal c.self.inside.rates c.args.pool.now c.room_in-room.result c.requires c.self.invariant.1 c.self.invariant.0.kept.setting_is (ap (λ v. v.session.journal) c.self.view_is) c.room_in-room.ensures.room)

pub returns-in-Err-clause-part : goal.returns-in-Err-clause-part
returns-in-Err-clause-part g c =
    part_wanted g.P.Pooling.is_there g.N.Naming.setting c.self.inside.session.session c.args.self.now.session.journal c.self.inside.rates c.args.pool.now c.requires c.self.invariant.1 c.self.invariant.0.kept.setting_is (ap (λ v. v.session.journal) c.self.view_is) c.room_in-room.ensures.part

pub invariant_of-self-then-is_err : goal.invariant_of-self-then-is_err
invariant_of-self-then-is_err g c =
    let same : c.publish.new.publisher ≡ c.self.inside.publisher = search rules in (
      rw same (sound_same g.N.Naming.setting g.N.Naming.first c.self.inside.session.session c.prepare_within.new.self.session c.self.inside.publisher c.self.inside.books c.self.inside.places (length c.self.inside.subscribers.items)
          c.prepare_within.ensures.setting c.prepare_within.ensures.journal c.self.invariant.0),
      c.room_in-room.ensures.same.0 ∙ due_kept g.P.Pooling.is_there c.self.inside.session.session.setting c.prepare_within.new.self.session.setting c.self.inside.session.session.journal c.prepare_within.new.self.session.journal c.self.inside.rates c.prepare_within.ensures.setting c.prepare_within.ensures.journal c.self.invariant.1,
    )

pub publish-requires : goal.publish-requires
publish-requires g c =
    let kept = sound_same g.N.Naming.setting g.N.Naming.first c.self.inside.session.session c.prepare_within.new.self.session c.self.inside.publisher c.self.inside.books c.self.inside.places (length c.self.inside.subscribers.items)
    c.prepare_within.ensures.setting c.prepare_within.ensures.journal c.self.invariant.0 in
    next_published g.N.Naming.setting g.N.Naming.first c.prepare_within.new.self.session c.self.inside.publisher c.self.inside.books c.self.inside.places (length c.self.inside.subscribers.items) c.in-Ok.prepared kept c.in-Ok.ensures.ready

pub overflow_sub-more : goal.overflow_sub-more
overflow_sub-more g c =
    let gains = settled_gains c.prepare_within.new.self.session c.settle-accepted.new.self.session c.in-Ok.prepared c.settle-accepted.result c.commands_of-before.result c.commands_of.result
    c.in-Ok.ensures.ready c.settle-accepted.ensures.answer c.commands_of-before.ensures.commands c.commands_of.ensures.commands in
    gains.0

pub give_rates-requires-clause-there : goal.give_rates-requires-clause-there
give_rates-requires-clause-there g c =
    is_there g.P.Pooling.is_there c.self.inside.session.session.setting c.self.inside.session.session.journal c.room_in-room.new.shares c.requires (c.room_in-room.ensures.same.0 ∙ c.self.invariant.1)

pub give_rates-requires-clause-fit : goal.give_rates-requires-clause-fit
give_rates-requires-clause-fit g c =
    fits_in g.P.Pooling.is_there c.self.inside.session.session c.prepare_within.new.self.session c.settle-accepted.new.self.session c.args.command c.in-Ok.prepared c.settle-accepted.result c.self.inside.rates c.room_in-room.new.shares c.args.pool.now c.room_in-room.new.pool c.room_in-room.result c.rates.result
    c.requires c.self.invariant.1 c.room_in-room.ensures.same.0 c.room_in-room.ensures.same.1 c.room_in-room.ensures.kept c.room_in-room.ensures.room c.room_in-room.ensures.part c.in-Ok.ensures.accepted
    c.prepare_within.ensures.setting c.prepare_within.ensures.journal c.in-Ok.ensures.command c.in-Ok.ensures.ready c.settle-accepted.ensures.answer c.settle-accepted.ensures.setting (c.rates.ensures ∙ rw (c.session.ensures.setting, c.session.ensures.journal) refl)

pub returns-then-is_err-clause-answer : goal.returns-then-is_err-clause-answer
returns-then-is_err-clause-answer g c =
    lacks_within g.N.Naming.setting c.self.inside.session.session c.prepare_within.new.self.session c.args.self.now.session.journal c.args.command c.room_in-room.result
    (room_beside c.args.pool.now (total_now g.N.Naming.setting c.args.self.now.session.journal)) c.self.invariant.0.kept.setting_is c.in-Ok.ensures.accepted c.prepare_within.ensures.journal
    (ap (λ v. v.session.journal) c.self.view_is) (room_wanted g.P.Pooling.is_there g.N.Naming.setting c.self.inside.session.session c.args.self.now.session.journal c.self.inside.rates c.args.pool.now c.room_in-room.result c.requires c.self.invariant.1 c.self.invariant.0.kept.setting_is (ap (λ v. v.session.journal) c.self.view_is) c.room_in-room.ensures.room)

pub returns-then-is_err-clause-part : goal.returns-then-is_err-clause-part
returns-then-is_err-clause-part g c =
    part_wanted g.P.Pooling.is_there g.N.Naming.setting c.self.inside.session.session c.args.self.now.session.journal c.self.inside.rates c.args.pool.now c.requires c.self.invariant.1 c.self.invariant.0.kept.setting_is (ap (λ v. v.session.journal) c.self.view_is) c.room_in-room.ensures.part

pub returns-clause-answer : goal.returns-clause-answer
returns-clause-answer g c =
    does_within g.N.Naming.setting c.self.inside.session.session c.prepare_within.new.self.session c.settle-accepted.new.self.session c.args.self.now.session.journal c.args.command c.in-Ok.prepared c.room_in-room.result
    (room_beside c.args.pool.now (total_now g.N.Naming.setting c.args.self.now.session.journal)) c.settle-accepted.result c.self.invariant.0.kept.setting_is c.in-Ok.ensures.accepted c.prepare_within.ensures.setting c.prepare_within.ensures.journal c.in-Ok.ensures.command
    c.settle-accepted.ensures.answer (ap (λ v. v.session.journal) c.self.view_is) (room_wanted g.P.Pooling.is_there g.N.Naming.setting c.self.inside.session.session c.args.self.now.session.journal c.self.inside.rates c.args.pool.now c.room_in-room.result c.requires c.self.invariant.1 c.self.invariant.0.kept.setting_is (ap (λ v. v.session.journal) c.self.view_is) c.room_in-room.ensures.room)

pub returns-clause-part : goal.returns-clause-part
returns-clause-part g c =
    part_wanted g.P.Pooling.is_there g.N.Naming.setting c.self.inside.session.session c.args.self.now.session.journal c.self.inside.rates c.args.pool.now c.requires c.self.invariant.1 c.self.invariant.0.kept.setting_is (ap (λ v. v.session.journal) c.self.view_is) c.room_in-room.ensures.part

pub returns-clause-rest : goal.returns-clause-rest
returns-clause-rest g c =
    let gains = settled_gains c.prepare_within.new.self.session c.settle-accepted.new.self.session c.in-Ok.prepared c.settle-accepted.result c.commands_of-before.result c.commands_of.result
    c.in-Ok.ensures.ready c.settle-accepted.ensures.answer c.commands_of-before.ensures.commands c.commands_of.ensures.commands in
    rw (← c.self.view_is)
    (ap (λ (b : Account). locked c.settle-accepted.new.self.session c.publish.new.publisher b c.self.inside.places)
    (c.add_commands.ensures.books ∙ ap (λ xs. record { totals = xs; issued = c.self.inside.books.issued }) (gains.1 c.self.inside.books.totals)))

pub returns-clause-shares : goal.returns-clause-shares
returns-clause-shares g c =
    let gains = settled_gains c.prepare_within.new.self.session c.settle-accepted.new.self.session c.in-Ok.prepared c.settle-accepted.result c.commands_of-before.result c.commands_of.result
    c.in-Ok.ensures.ready c.settle-accepted.ensures.answer c.commands_of-before.ensures.commands c.commands_of.ensures.commands in
    c.add_commands.ensures.shares ∙ gains.1 c.args.shares.now

pub returns-clause-granted : goal.returns-clause-granted
returns-clause-granted g c =
    pool_gave g.P.Pooling.is_there g.N.Naming.setting c.self.inside.session.session c.settle-accepted.new.self.session c.args.self.now.session.journal c.self.inside.rates c.room_in-room.new.shares c.args.pool.now c.room_in-room.new.pool c.give_rates.new.pool c.rates.result
    c.requires c.self.invariant.1 c.self.invariant.0.kept.setting_is (ap (λ v. v.session.journal) c.self.view_is) c.room_in-room.ensures.same.0 c.room_in-room.ensures.same.1 (c.settle-accepted.ensures.setting ∙ c.prepare_within.ensures.setting) (c.rates.ensures ∙ rw (c.session.ensures.setting, c.session.ensures.journal) refl) c.give_rates.ensures.pool

pub invariant_of-self-2 : goal.invariant_of-self-2
invariant_of-self-2 g c =
    let grown : c.publish.new.publisher ≡ c.self.inside.publisher ++ option_to_list (table_made c.in-Ok.prepared) = search rules in
    let kept = sound_same g.N.Naming.setting g.N.Naming.first c.self.inside.session.session c.prepare_within.new.self.session c.self.inside.publisher c.self.inside.books c.self.inside.places (length c.self.inside.subscribers.items)
    c.prepare_within.ensures.setting c.prepare_within.ensures.journal c.self.invariant.0 in
    let gains = settled_gains c.prepare_within.new.self.session c.settle-accepted.new.self.session c.in-Ok.prepared c.settle-accepted.result c.commands_of-before.result c.commands_of.result
    c.in-Ok.ensures.ready c.settle-accepted.ensures.answer c.commands_of-before.ensures.commands c.commands_of.ensures.commands in (
      rw (grown, c.add_commands.ensures.books, gains.1 c.self.inside.books.totals)
          (sound_settled g.N.Naming.setting g.N.Naming.first c.prepare_within.new.self.session c.settle-accepted.new.self.session c.self.inside.publisher c.self.inside.books c.self.inside.places (length c.self.inside.subscribers.items)
          c.in-Ok.prepared c.settle-accepted.result c.commands_of-before.ensures.lawful c.in-Ok.ensures.ready c.settle-accepted.ensures.answer c.settle-accepted.ensures.setting kept),
      due_set g.P.Pooling.is_there c.settle-accepted.new.self.session.setting c.settle-accepted.new.self.session.journal c.give_rates.new.shares c.rates.result c.requires c.give_rates.ensures.shares (c.rates.ensures ∙ rw (c.session.ensures.setting, c.session.ensures.journal) refl),
    )

pub returns-then-is_err-clause-tables : goal.returns-then-is_err-clause-tables
returns-then-is_err-clause-tables g c =
    let same : c.publish.new.publisher ≡ c.self.inside.publisher = search rules in
    rw (← ap (λ v. v.tables) c.self.view_is, same) (prefix_self c.self.inside.publisher)

pub returns-clause-tables : goal.returns-clause-tables
returns-clause-tables g c =
    let grown : c.publish.new.publisher ≡ c.self.inside.publisher ++ option_to_list (table_made c.in-Ok.prepared) = search rules in
    rw (← ap (λ v. v.tables) c.self.view_is) (grown_by c.self.inside.publisher c.publish.new.publisher (option_to_list (table_made c.in-Ok.prepared)) grown)
