use Rattle.std.proofs.Common.{◌≡◌, ◌∙◌, [], ap, arith, drop, sym}
use Rattle.rtrb.specs.Ring.{received}
use Rattle.pcef_shards.specs.Leading.{octets_in, to_come}
use Rattle.pcef_shards.proofs.Comings.{ended, ended_same, past, refilled}
use Rattle.pcef_shards.proofs.intake.Led.receive.Goals as goal

pub returns-in-Some-clause-same : goal.returns-in-Some-clause-same
returns-in-Some-clause-same g c =
    let s = c.args.self.now in
    let part = g.N.Leading.part in
    let next = c.in_ok-parcel.ensures.next in
    let empty : drop s.given s.block.items ≡ [] = past s.given s.block.items (omega (arith, c.requires, s.block.ok.0)) in
    refilled part s.thread (received s.taker) (received c.await_next.new.taker) c.in_ok-parcel.parcel c.in-Some.octets next.0 next.1 next.2 c.in-Some.is
    ∙ ap (to_come (part s.thread) (octets_in (received s.taker))) (sym empty)

pub returns-in-None-clause-same : goal.returns-in-None-clause-same
returns-in-None-clause-same g c =
    let s = c.args.self.now in
    ended_same (g.N.Leading.part s.thread) (received s.taker) (received c.await_next.new.taker) c.in_ok-parcel.parcel (drop s.given s.block.items) c.in_ok-parcel.ensures.next.2 c.in-None.is

pub returns-in-None-clause-end : goal.returns-in-None-clause-end
returns-in-None-clause-end g c = λ _.
    let s = c.args.self.now in
    let next = c.in_ok-parcel.ensures.next in
    ended g.N.Leading.part s.thread (received s.taker) (received c.await_next.new.taker) c.in_ok-parcel.parcel (drop s.given s.block.items)
    (past s.given s.block.items (omega (arith, c.requires, s.block.ok.0))) next.0 next.1 next.2 c.in-None.is
