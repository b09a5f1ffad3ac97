use Rattle.std.proofs.Common.{◌≡◌, refl, subst, sym, Err, None, Ok, Some}
use Rattle.pcef_rule.specs.declared.quantity.Sums.{Sums}
use Rattle.pcef_model.specs.Laws.{IsInRoom}
use Rattle.pcef_model.specs.Refusals.{first_of}
use Rattle.pcef_session.specs.Answers.{AnswersCommandWithin}
use Rattle.pcef_session.specs.SessionModel.{SessionModel}
use Rattle.pcef_session.proofs.RoomRates.{does_not_within, does_within, settled_fits}
use Rattle.pcef_share.specs.Pools.{IsPart, pool_faults, room_beside}
use Rattle.pcef_share.proofs.Within.{held_fits, pool_gives}
use Rattle.pcef_run.specs.Granting.{rates_of}
use Rattle.pcef_run.proofs.Granted.{never_full, room_is}
use Rattle.pcef_run.proofs.member.Member.command.Goals as goal

pub returns-in-Err-clause-answer : goal.returns-in-Err-clause-answer
returns-in-Err-clause-answer g c =
    subst (λ (s : SessionModel). AnswersCommandWithin s c.args.command (Some (room_beside c.args.pool.now (rates_of s))) (Err c.in-Err.refusal) c.prepare_within.new.self) c.self.view_is
    (does_not_within c.self.inside.session.setting c.self.inside.session c.prepare_within.new.self c.self.inside.session.journal c.args.command c.room-room.result (room_beside c.args.pool.now (rates_of c.self.inside.session)) c.in-Err.refusal refl c.in-Err.ensures.refused
    c.prepare_within.ensures.journal refl (room_is c.args.pool.now c.compare.new.self c.self.inside.rates c.compare.new.shares c.self.inside.session c.room-room.result c.room-room.ensures c.compare.ensures.same.0 c.compare.ensures.same.1 c.self.invariant.0))

pub unreachable-requires : goal.unreachable-requires
unreachable-requires g c =
    let part : IsPart (rates_of c.self.inside.session) c.args.pool.now = subst (λ (h : Sums). IsPart h c.args.pool.now) c.self.invariant.0 c.compare.ensures.part in
    let after : IsInRoom (rates_of c.settle-accepted.new.self) c.room-room.result =
    settled_fits c.self.inside.session c.prepare_within.new.self c.settle-accepted.new.self c.args.command c.in-Ok.prepared c.room-room.result c.settle-accepted.result c.in-Ok.ensures.accepted c.prepare_within.ensures.setting c.prepare_within.ensures.journal
    c.in-Ok.ensures.command c.in-Ok.ensures.ready c.settle-accepted.ensures.answer c.settle-accepted.ensures.setting
    (held_fits c.args.pool.now (rates_of c.self.inside.session) c.room-room.result c.compare.ensures.kept part (room_is c.args.pool.now c.compare.new.self c.self.inside.rates c.compare.new.shares c.self.inside.session c.room-room.result c.room-room.ensures c.compare.ensures.same.0 c.compare.ensures.same.1 c.self.invariant.0)) in
    let fits : first_of (pool_faults c.args.pool.now (rates_of c.self.inside.session) c.rates.result) ≡ None =
    pool_gives c.args.pool.now (rates_of c.self.inside.session) c.rates.result c.room-room.result c.compare.ensures.kept (room_is c.args.pool.now c.compare.new.self c.self.inside.rates c.compare.new.shares c.self.inside.session c.room-room.result c.room-room.ensures c.compare.ensures.same.0 c.compare.ensures.same.1 c.self.invariant.0)
    (subst (λ (r : Sums). IsInRoom r c.room-room.result) (sym c.rates.ensures) after) in
    never_full c.args.pool.now c.compare.new.self c.self.inside.rates c.compare.new.shares (rates_of c.self.inside.session) c.rates.result c.in-Err-change.field-0 c.compare.ensures.same.0 c.compare.ensures.same.1
    c.self.invariant.0 fits c.in-Err-change.ensures.answer

pub returns-clause-answer : goal.returns-clause-answer
returns-clause-answer g c =
    subst (λ (s : SessionModel). AnswersCommandWithin s c.args.command (Some (room_beside c.args.pool.now (rates_of s))) (Ok c.settle-accepted.result) c.settle-accepted.new.self) c.self.view_is
    (does_within c.self.inside.session.setting c.self.inside.session c.prepare_within.new.self c.settle-accepted.new.self c.self.inside.session.journal c.args.command c.in-Ok.prepared c.room-room.result (room_beside c.args.pool.now (rates_of c.self.inside.session)) c.settle-accepted.result refl c.in-Ok.ensures.accepted
    c.prepare_within.ensures.setting c.prepare_within.ensures.journal c.in-Ok.ensures.command c.settle-accepted.ensures.answer refl (room_is c.args.pool.now c.compare.new.self c.self.inside.rates c.compare.new.shares c.self.inside.session c.room-room.result c.room-room.ensures c.compare.ensures.same.0 c.compare.ensures.same.1 c.self.invariant.0))
